-- Numbers of copies rewritten row by row. Assumes nothing.
--     canonical_map_counts, count_map_counts      the result is canonical, and its counts
--     count_map_counts_where_any                  the counts where the rewriting does not leave 0 as it is
--     count_takes, count_puts, count_support, count_monus      its instances
use Rattle.std.proofs.Common.{◌≡◌, zero, suc, cond, [], ◌∷◌, ℤ, pos, negsuc, ◌+ℤ◌, ◌-ℤ◌, ◌≤ℤ◌, Ordering, Less, Equal, Greater, sym, refl, ap, ◌∙◌, subst, ap₂}
use lib.IntN.{+ℤ_idl, +ℤ_idr}
use Rattle.bag.specs.Order.{Row, row_order}
use Rattle.bag.specs.Bag.{Lines, is_zero, if_equal, count, with_line, Before, Canonical}
use Rattle.bag.specs.Operators.{map_counts, at_least_zero, monus, one_if_any, support}
use Rattle.bag.specs.Changes.{taken, takes, puts}
use Rattle.bag.proofs.Numbers.{at_least_zero_none}
use Rattle.bag.specs.RowOrder.{order_equal}
use Rattle.bag.specs.Integers.{if_equal_zero}
use Rattle.bag.proofs.CanonicalForm.{before_transitive, count_before, before_with_line, canonical_with_line}

count_with_line : (r : Row) (n : ℤ) (xs : Lines) (q : Row) → count (with_line r n xs) q ≡ if_equal (row_order r q) n +ℤ count xs q
unfolding count
count_with_line r (pos zero) xs q = rw (if_equal_zero (row_order r q)) (sym (+ℤ_idl (count xs q)))
count_with_line r (pos (suc n)) xs q = refl
count_with_line r (negsuc n) xs q = refl

module _ (h : Row → ℤ → ℤ) where
  before_map_counts : (a : Row) (xs : Lines) → Before a xs → Canonical xs → Before a (map_counts h xs)
  unfolding map_counts
  before_map_counts a [] b c = tt
  before_map_counts a (e ∷ xs) b c = before_with_line a e.0 (h e.0 e.1) (map_counts h xs) b (before_map_counts a xs (before_transitive a e.0 xs b c.1) c.2)

  pub canonical_map_counts : (xs : Lines) → Canonical xs → Canonical (map_counts h xs)
  unfolding map_counts
  canonical_map_counts [] c = tt
  canonical_map_counts (e ∷ xs) c = canonical_with_line e.0 (h e.0 e.1) (map_counts h xs) (before_map_counts e.0 xs c.1 c.2) (canonical_map_counts xs c.2)

  pub count_map_counts : (xs : Lines) → Canonical xs → (q : Row) → h q (pos 0) ≡ pos 0 → count (map_counts h xs) q ≡ h q (count xs q)
  unfolding map_counts count
  count_map_counts [] c q z = sym z
  count_map_counts (e ∷ xs) c q z = count_with_line e.0 (h e.0 e.1) (map_counts h xs) q ∙ by (row_order e.0 q) refl (count_map_counts xs c.2 q z)
    where
      by : (o : Ordering) → row_order e.0 q ≡ o → count (map_counts h xs) q ≡ h q (count xs q) → if_equal o (h e.0 e.1) +ℤ count (map_counts h xs) q ≡ h q (if_equal o e.1 +ℤ count xs q)
      by Less p ih = +ℤ_idl _ ∙ ih ∙ ap (h q) (sym (+ℤ_idl (count xs q)))
      by Equal p ih =
          let r : e.0 ≡ q = order_equal e.0 q p in
          let k : count xs q ≡ pos 0 = count_before q xs c.2 (subst (λ (a : Row). Before a xs) r c.1) in
          let i : h q (count xs q) ≡ pos 0 = ap (h q) k ∙ z in
          ap₂ (λ a b. a +ℤ b) (ap (λ a. h a e.1) r) (ih ∙ i) ∙ +ℤ_idr _ ∙ ap (h q) (sym (+ℤ_idr e.1) ∙ ap (λ a. e.1 +ℤ a) (sym k))
      by Greater p ih = +ℤ_idl _ ∙ ih ∙ ap (h q) (sym (+ℤ_idl (count xs q)))

  -- where h is not 0 at 0: what the rows of xs have, and 0 elsewhere
  map_counts_where_any : (xs : Lines) → Canonical xs → map_counts h xs ≡ map_counts (λ q n. cond (is_zero n) (pos 0) (h q n)) xs
  unfolding map_counts
  map_counts_where_any [] c = refl
  map_counts_where_any (e ∷ xs) c = ap₂ (λ n t. with_line e.0 n t) (sym (ap (λ t. cond t (pos 0) (h e.0 e.1)) c.0)) (map_counts_where_any xs c.2)

pub count_map_counts_where_any : (h : Row → ℤ → ℤ) (xs : Lines) → Canonical xs → (q : Row) → count (map_counts h xs) q ≡ cond (is_zero (count xs q)) (pos 0) (h q (count xs q))
count_map_counts_where_any h xs c q = ap (λ t. count t q) (map_counts_where_any h xs c) ∙ count_map_counts (λ q n. cond (is_zero n) (pos 0) (h q n)) xs c q refl

pub count_takes : (d : Lines) → Canonical d → (q : Row) → count (takes d) q ≡ taken (count d q)
unfolding takes
count_takes d c q = count_map_counts (λ q n. taken n) d c q refl

pub count_puts : (d : Lines) → Canonical d → (q : Row) → count (puts d) q ≡ at_least_zero (count d q)
unfolding puts
count_puts d c q = count_map_counts (λ q n. at_least_zero n) d c q refl

pub count_support : (d : Lines) → Canonical d → (q : Row) → count (support d) q ≡ one_if_any (count d q)
unfolding support
count_support d c q = count_map_counts (λ q n. one_if_any n) d c q refl

pub canonical_support : (xs : Lines) → Canonical xs → Canonical (support xs)
unfolding support
canonical_support xs c = canonical_map_counts (λ q n. one_if_any n) xs c

pub count_monus : (l r : Lines) → Canonical l → ((q : Row) → pos 0 ≤ℤ count r q) → (q : Row) → count (monus l r) q ≡ at_least_zero (count l q -ℤ count r q)
unfolding monus
count_monus l r c h q = count_map_counts (λ q n. at_least_zero (n -ℤ count r q)) l c q (at_least_zero_none (count r q) (h q))
