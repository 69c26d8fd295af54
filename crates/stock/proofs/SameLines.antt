-- What comparing two answers of `next` decides. Assumes nothing.
--     lines_decide      equal rows and counts, or none on both sides, are equal answers
--     next_decides      so such a comparison decides whether two stocks answer the call alike
use Rattle.std.proofs.Common.{◌≡◌, ℕ, Bool, ◌&&◌, Some, None, Option, Decides, refl, sym, ap, ap₂, ◌∙◌, subst, nat_eq, rules, arith}
use Rattle.std.specs.Option.{option_eq}
use Rattle.std.specs.Ordering.{int_eq}
use Rattle.std.specs.Cmp.Lexicographic.{pointwise}
use Rattle.std.proofs.lemmas.Bool.Decides.{Decides-and, Decides-int_eq}
use Rattle.std.proofs.lemmas.Slice.Eq.{slice_eq-Decides}
use Rattle.bag.specs.Order.{Row}
use Rattle.stock.specs.Holding.{Holding, next_answer}
use Rattle.stock.specs.Calls.{line, call_answer}
use Rattle.stock.specs.declared.call.StockCall.{StockCall}
use Rattle.stock.specs.declared.call.StockCall.TheVariants.{Next}

counts_decide : (n m : ℕ) → Decides (nat_eq n m) (n ≡ m)
counts_decide n m = search rules

pub lines_decide : (a b : Option (Row × ℕ)) → Decides (option_eq (λ x y. pointwise int_eq x.0 y.0 && nat_eq x.1 y.1) a b) (a ≡ b)
lines_decide None None = (λ _. refl, λ _. refl)
lines_decide None (Some b) = (λ e. let z : ◌≡◌ {A = ℕ} 0 1 = cc in absurd (let y : ⊥ = omega arith in y), λ e. let z : ◌≡◌ {A = ℕ} 0 1 = cc in absurd (let y : ⊥ = omega arith in y))
lines_decide (Some a) None = (λ e. let z : ◌≡◌ {A = ℕ} 0 1 = cc in absurd (let y : ⊥ = omega arith in y), λ e. let z : ◌≡◌ {A = ℕ} 0 1 = cc in absurd (let y : ⊥ = omega arith in y))
lines_decide (Some (r, n)) (Some (q, m)) =
    let d = Decides-and (pointwise int_eq r q) (nat_eq n m) (slice_eq-Decides Decides-int_eq r q (pointwise int_eq r q) refl) (counts_decide n m) in
    (λ e. ap₂ (λ (x : Row) (k : ℕ). Some (x, k)) (d.0 e).0 (d.0 e).1, λ e. d.1 (row_of e, count_of e))
  where
    inner : ◌≡◌ {A = Option (Row × ℕ)} (Some (r, n)) (Some (q, m)) → ◌≡◌ {A = Row × ℕ} (r, n) (q, m)
    inner e = cc

    row_of : ◌≡◌ {A = Option (Row × ℕ)} (Some (r, n)) (Some (q, m)) → r ≡ q
    row_of e = ap (λ (x : Row × ℕ). x.0) (inner e)

    count_of : ◌≡◌ {A = Option (Row × ℕ)} (Some (r, n)) (Some (q, m)) → n ≡ m
    count_of e = ap (λ (x : Row × ℕ). x.1) (inner e)

pub next_decides : (h k : Holding) (c : StockCall) (s : ℕ) (q : Row) (a b : Option (Row × ℕ)) (r : Bool)
    → c ≡ Next s q → a ≡ next_answer h s q → b ≡ next_answer k s q → Decides r (a ≡ b) → Decides r (call_answer h c ≡ call_answer k c)
next_decides h k c s q a b r e f g d =
    subst (λ x. Decides r (call_answer h x ≡ call_answer k x)) (sym e) (λ t. ap line (sym f ∙ d.0 t ∙ g), λ t. d.1 (f ∙ inner t ∙ sym g))
  where
    inner : line (next_answer h s q) ≡ line (next_answer k s q) → next_answer h s q ≡ next_answer k s q
    inner t = cc
