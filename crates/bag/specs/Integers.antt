-- The integers are an abelian group, in which the count of a row is a sum over lines. Assumes nothing.
--     sum-*ℤ, *ℤ-sum         products distribute over sums
--     integer_laws           the group laws
--     count_is_sum           a count is a sum over lines
--     count_add_copies, count_collect, count-++, count_negated      counts of the results
use Rattle.std.specs.Prelude.{◌≡◌, ℕ, zero, suc, [], ◌∷◌, ◌++◌, ℤ, pos, negsuc, ◌+ℤ◌, ◌-ℤ◌, ◌*ℤ◌, neg_ℤ, refl}
use Rattle.std.specs.declared.cmp.Ordering.TheVariants.{Less, Equal, Greater}
use Rattle.std.specs.declared.cmp.Ordering.{Ordering}
use Rattle.std.proofs.Common.{sym, ap, ap₂, ◌∙◌, arith}
use Rattle.std.proofs.Math.IntN.{suc_ℤ, pred_ℤ, ℤ_ind, +ℤ_assoc, +ℤ_comm, +ℤ_idl, +ℤ_idr, +ℤ_invr, +ℤ_one, -ℤ_one, +ℤ-suc_ℤ, +ℤ-pred_ℤ, suc_ℤ-*ℤ, pred_ℤ-*ℤ, zero-*ℤ, *ℤ_comm}
use Rattle.std.proofs.lemmas.Int.{ints}
use Rattle.bag.specs.Order.{Row, row_order}
use Rattle.bag.specs.Bag.{Lines, if_equal, copies_at, count, add_copies, collect, negated}
use Rattle.bag.specs.Group.{GroupLaws, AddsUp, sum_over, every_integer, integers}
use Rattle.bag.specs.Sums.{sum_add_copies, sum_collect, sum-++}

suc_form : (k : ℤ) → k +ℤ pos 1 ≡ suc_ℤ k
suc_form k = +ℤ_one k

pred_form : (k : ℤ) → k +ℤ negsuc 0 ≡ pred_ℤ k
pred_form k = -ℤ_one k

pub sum-*ℤ : (a m n : ℤ) → (m +ℤ n) *ℤ a ≡ m *ℤ a +ℤ n *ℤ a
sum-*ℤ a m n = ℤ_ind (λ n. (m +ℤ n) *ℤ a ≡ m *ℤ a +ℤ n *ℤ a) at_zero up down n
  where
    at_zero : (m +ℤ pos zero) *ℤ a ≡ m *ℤ a +ℤ pos zero *ℤ a
    at_zero = rw (+ℤ_idr m, zero-*ℤ a) (sym (+ℤ_idr (m *ℤ a)))

    up : (n : ℕ) → (m +ℤ pos n) *ℤ a ≡ m *ℤ a +ℤ pos n *ℤ a → (m +ℤ (pos n +ℤ pos (suc zero))) *ℤ a ≡ m *ℤ a +ℤ (pos n +ℤ pos (suc zero)) *ℤ a
    up n ih = ap (λ k. (m +ℤ k) *ℤ a) (suc_form (pos n)) ∙ ap (λ k. k *ℤ a) (+ℤ-suc_ℤ m (pos n)) ∙ suc_ℤ-*ℤ (m +ℤ pos n) a ∙ ap (λ k. k +ℤ a) ih ∙ +ℤ_assoc (m *ℤ a) (pos n *ℤ a) a ∙ ap (λ k. m *ℤ a +ℤ k) (sym (suc_ℤ-*ℤ (pos n) a)) ∙ ap (λ k. m *ℤ a +ℤ k *ℤ a) (sym (suc_form (pos n)))

    down : (n : ℕ) → (m +ℤ neg_ℤ (pos n)) *ℤ a ≡ m *ℤ a +ℤ neg_ℤ (pos n) *ℤ a → (m +ℤ (neg_ℤ (pos n) +ℤ neg_ℤ (pos (suc zero)))) *ℤ a ≡ m *ℤ a +ℤ (neg_ℤ (pos n) +ℤ neg_ℤ (pos (suc zero))) *ℤ a
    down n ih = ap (λ k. (m +ℤ k) *ℤ a) (pred_form (neg_ℤ (pos n))) ∙ ap (λ k. k *ℤ a) (+ℤ-pred_ℤ m (neg_ℤ (pos n))) ∙ pred_ℤ-*ℤ (m +ℤ neg_ℤ (pos n)) a ∙ ap (λ k. k -ℤ a) ih ∙ +ℤ_assoc (m *ℤ a) (neg_ℤ (pos n) *ℤ a) (neg_ℤ a) ∙ ap (λ k. m *ℤ a +ℤ k) (sym (pred_ℤ-*ℤ (neg_ℤ (pos n)) a)) ∙ ap (λ k. m *ℤ a +ℤ k *ℤ a) (sym (pred_form (neg_ℤ (pos n))))

pub *ℤ-sum : (a m n : ℤ) → a *ℤ (m +ℤ n) ≡ a *ℤ m +ℤ a *ℤ n
*ℤ-sum a m n = *ℤ_comm a (m +ℤ n) ∙ sum-*ℤ a m n ∙ ap₂ (λ x y. x +ℤ y) (*ℤ_comm m a) (*ℤ_comm n a)

pub integer_laws : GroupLaws every_integer integers
integer_laws = record { ok_zero = tt; ok_plus = λ x y a b. tt; ok_minus = λ x a. tt; associative = λ x y z a b c. +ℤ_assoc x y z; commutative = λ x y a b. +ℤ_comm x y; neutral = λ x a. +ℤ_idl x; inverse = λ x a. +ℤ_invr x }

pub if_equal_adds : (o : Ordering) (m n : ℤ) → if_equal o (m +ℤ n) ≡ if_equal o m +ℤ if_equal o n
if_equal_adds Less m n = refl
if_equal_adds Equal m n = refl
if_equal_adds Greater m n = refl

pub if_equal_zero : (o : Ordering) → if_equal o (pos 0) ≡ pos 0
if_equal_zero Less = refl
if_equal_zero Equal = refl
if_equal_zero Greater = refl

pub copies_at_adds_up : (q : Row) → AddsUp every_integer integers (copies_at q)
copies_at_adds_up q = record { ok_worth = λ r n. tt; at_zero = λ r. if_equal_zero (row_order r q); adds = λ r m n. if_equal_adds (row_order r q) m n }

pub count_is_sum : (q : Row) (xs : Lines) → count xs q ≡ sum_over integers (copies_at q) xs
unfolding count sum_over
count_is_sum q [] = refl
count_is_sum q (e ∷ xs) = ap (λ k. if_equal (row_order e.0 q) e.1 +ℤ k) (count_is_sum q xs)

pub count_add_copies : (r : Row) (n : ℤ) (xs : Lines) (q : Row) → count (add_copies r n xs) q ≡ if_equal (row_order r q) n +ℤ count xs q
count_add_copies r n xs q = count_is_sum q (add_copies r n xs) ∙ sum_add_copies integers integer_laws (copies_at q) (copies_at_adds_up q) r n xs ∙ ap (λ k. if_equal (row_order r q) n +ℤ k) (sym (count_is_sum q xs))

pub count_collect : (xs : Lines) (q : Row) → count (collect xs) q ≡ count xs q
count_collect xs q = count_is_sum q (collect xs) ∙ sum_collect integers integer_laws (copies_at q) (copies_at_adds_up q) xs ∙ sym (count_is_sum q xs)

pub count-++ : (xs ys : Lines) (q : Row) → count (xs ++ ys) q ≡ count xs q +ℤ count ys q
count-++ xs ys q = count_is_sum q (xs ++ ys) ∙ sum-++ integers integer_laws (copies_at q) (copies_at_adds_up q) xs ys ∙ sym (ap₂ (λ a b. a +ℤ b) (count_is_sum q xs) (count_is_sum q ys))

if_equal_negated : (o : Ordering) (n : ℤ) → if_equal o (neg_ℤ n) ≡ neg_ℤ (if_equal o n)
if_equal_negated Less n = refl
if_equal_negated Equal n = refl
if_equal_negated Greater n = refl

pub count_negated : (xs : Lines) (q : Row) → count (negated xs) q ≡ neg_ℤ (count xs q)
unfolding count negated
count_negated [] q = refl
count_negated (e ∷ xs) q = let ih = count_negated xs q in let h = if_equal_negated (row_order e.0 q) e.1 in omega (arith, ints)
