-- An abelian group, and the sum over a list of lines of what the copies of each row are worth in it. Assumes nothing.
--     Group V                zero, plus and minus on V
--     GroupLaws ok G         the laws of an abelian group, asked of the values that code can hold
--     AddsUp ok G f          f a n, the worth of n copies of a, is zero at 0 and adds up over n, negative n included
--     sum_over G f xs        the plus, over the lines of xs, of f row n
--     integers               the group of all integers, and `every_integer` of which its laws are asked
use Rattle.std.specs.Prelude.{◌≡◌, [], ◌∷◌, ℤ, pos, ◌+ℤ◌, neg_ℤ}
use Rattle.bag.specs.Order.{Row}
use Rattle.bag.specs.Bag.{Lines}

pub record Group (V : Type 0) : Type 0 where
  pub zero : V
  pub plus : V → V → V
  pub minus : V → V

-- A number of 64 bits is an integer to a specification. Adding modulo 2^64 is associative and commutative on all integers, but zero is
-- neutral only on those that fit 64 bits. So the laws are asked of the values that are `ok`, and `ok` is closed under the operations.
pub record GroupLaws {V : Type 0} (ok : V → Type 0) (G : Group V) : Type 0 where
  pub ok_zero : ok G.zero
  pub ok_plus : (x y : V) → ok x → ok y → ok (G.plus x y)
  pub ok_minus : (x : V) → ok x → ok (G.minus x)
  pub associative : (x y z : V) → ok x → ok y → ok z → G.plus (G.plus x y) z ≡ G.plus x (G.plus y z)
  pub commutative : (x y : V) → ok x → ok y → G.plus x y ≡ G.plus y x
  pub neutral : (x : V) → ok x → G.plus G.zero x ≡ x
  pub inverse : (x : V) → ok x → G.plus x (G.minus x) ≡ G.zero

pub record AddsUp {V A : Type 0} (ok : V → Type 0) (G : Group V) (f : A → ℤ → V) : Type 0 where
  pub ok_worth : (a : A) (n : ℤ) → ok (f a n)
  pub at_zero : (a : A) → f a (pos 0) ≡ G.zero
  pub adds : (a : A) (m n : ℤ) → f a (m +ℤ n) ≡ G.plus (f a m) (f a n)

unfoldable pub sum_over : {V : Type 0} → Group V → (Row → ℤ → V) → Lines → V
sum_over G f [] = G.zero
sum_over G f (e ∷ xs) = G.plus (f e.0 e.1) (sum_over G f xs)

abbrev pub every_integer : ℤ → Type 0
every_integer z = Unit {0}

abbrev pub integers : Group ℤ
integers = record { zero = pos 0; plus = λ a b. a +ℤ b; minus = neg_ℤ }
