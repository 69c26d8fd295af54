use Rattle.std.proofs.Common.{◌≡◌, ℕ, true, false, Some, None, Option, Ordering, Less, Equal, Greater, is_lt, sym, refl, ap, ◌∙◌, rules, of_calls}
use Rattle.std.specs.Prelude.{MatchOption, IsSomeAnd}
use Rattle.std.specs.Option.{option_map}
use Rattle.bag.specs.Order.{Row, row_order}
use Rattle.bag.specs.Bag.{Line, if_less}
use Rattle.pending_book.specs.PendingNext.{earlier_of}
use Rattle.pending_book.proofs.pending.earlier.Goals.{After-map}
use Rattle.pending_book.proofs.pending.earlier.Goals as goal

-- the row of a line, where there is one
row_of : {A : Type 0} (x : Option (Row × A)) (y : Option Row) (read : Row × A → Row → Type 0) → ((e : Row × A) (r : Row) → read e r → r ≡ e.0) → MatchOption x (y ≡ None) (λ e. IsSomeAnd y (read e)) → y ≡ option_map (λ e. e.0) x
row_of None y read same h = h
row_of (Some e) None read same h = absurd h
row_of (Some e) (Some r) read same h = ap Some (same e r h)

-- the smaller row, by the rows alone
none_below : (x : Option (Row × ℕ)) (y : Option Line) → None ≡ option_map (λ e. e.0) x → option_map (λ e. e.0) y ≡ earlier_of x y
none_below None None h = refl
none_below None (Some d) h = refl
none_below (Some e) y h = let z : ⊥ = cc in absurd z

none_pending : (x : Option (Row × ℕ)) (y : Option Line) (a : Row) → Some a ≡ option_map (λ e. e.0) x → None ≡ option_map (λ e. e.0) y → Some a ≡ earlier_of x y
none_pending (Some e) None a h k = h
none_pending None y a h k = let z : ⊥ = cc in absurd z
none_pending (Some e) (Some d) a h k = let z : ⊥ = cc in absurd z

both : (x : Option (Row × ℕ)) (y : Option Line) (a b : Row) → Some a ≡ option_map (λ e. e.0) x → Some b ≡ option_map (λ e. e.0) y → if_less (row_order b a) (Some b) (Some a) ≡ earlier_of x y
both (Some e) (Some d) a b h k = let p : a ≡ e.0 = cc in let q : b ≡ d.0 = cc in rw (p, q)
both None y a b h k = let z : ⊥ = cc in absurd z
both (Some e) None a b h k = let z : ⊥ = cc in absurd z

if_lt : (o : Ordering) (x y : Option Row) → true ≡ is_lt o → x ≡ if_less o x y
if_lt Less x y h = refl
if_lt Equal x y h = let z : ⊥ = cc in absurd z
if_lt Greater x y h = let z : ⊥ = cc in absurd z

if_not_lt : (o : Ordering) (x y : Option Row) → false ≡ is_lt o → y ≡ if_less o x y
if_not_lt Less x y h = let z : ⊥ = cc in absurd z
if_not_lt Equal x y h = refl
if_not_lt Greater x y h = refl

below : (c : After-map) → c.map.result ≡ option_map (λ e. e.0) c.args.below
below c = row_of c.args.below c.map.result _ (λ e r k. search (rules, of_calls)) c.map.ensures.cases

pending : (c : After-map) → c.map-pending.result ≡ option_map (λ e. e.0) c.args.pending
pending c = row_of c.args.pending c.map-pending.result _ (λ e r k. search (rules, of_calls)) c.map-pending.ensures.cases

pub returns-in_default : goal.returns-in_default
returns-in_default c =
    let m = (goal.at.returns-in_default c).After-map in
    pending m ∙ none_below c.args.below c.args.pending (sym c.in_default.is ∙ below m)

pub returns-in_default-pending : goal.returns-in_default-pending
returns-in_default-pending c =
    let m = (goal.at.returns-in_default-pending c).After-map in
    none_pending c.args.below c.args.pending c.in-Some.a (sym c.in-Some.is ∙ below m) (sym c.in_default-pending.is ∙ pending m)

pub returns-then-is_lt : goal.returns-then-is_lt
returns-then-is_lt c =
    let m = (goal.at.returns-then-is_lt c).After-map in
    let a = c.in-Some.a in
    let b = c.in-Some-pending.b in
    if_lt c.compare_rows.result (Some b) (Some a) (sym c.if-is_lt.true ∙ c.is_lt.ensures)
    ∙ ap (λ o. if_less o (Some b) (Some a)) c.compare_rows.ensures
    ∙ both c.args.below c.args.pending a b (sym c.in-Some.is ∙ below m) (sym c.in-Some-pending.is ∙ pending m)

pub returns-else-is_lt : goal.returns-else-is_lt
returns-else-is_lt c =
    let m = (goal.at.returns-else-is_lt c).After-map in
    let a = c.in-Some.a in
    let b = c.in-Some-pending.b in
    if_not_lt c.compare_rows.result (Some b) (Some a) (sym c.if-is_lt.false ∙ c.is_lt.ensures)
    ∙ ap (λ o. if_less o (Some b) (Some a)) c.compare_rows.ensures
    ∙ both c.args.below c.args.pending a b (sym c.in-Some.is ∙ below m) (sym c.in-Some-pending.is ∙ pending m)
