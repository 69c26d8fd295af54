-- The order of keys. Assumes nothing.
--     key_less, key_greater      the node decides
--     key_same                   of one node the row decides
--     key_after_none, key_after_negative      no key is before them
use Rattle.std.proofs.Common.{◌≡◌, ℕ, ◌<◌, [], ◌∷◌, pos, negsuc, Less, Greater, refl, arith}
use Rattle.std.proofs.lemmas.Int.{ints}
use Rattle.bag.specs.Order.{Row, row_order}
use Rattle.bag.specs.RowOrder.{column_less, column_greater, column_itself}
use Rattle.settling.specs.Keys.{key}

pub key_less : (m n : ℕ) (a b : Row) → m < n → row_order (key m a) (key n b) ≡ Less
unfolding row_order
key_less m n a b h = rw (column_less (pos m) (pos n) (omega (arith, ints)))

pub key_greater : (m n : ℕ) (a b : Row) → n < m → row_order (key m a) (key n b) ≡ Greater
unfolding row_order
key_greater m n a b h = rw (column_greater (pos m) (pos n) (omega (arith, ints)))

pub key_same : (s : ℕ) (a b : Row) → row_order (key s a) (key s b) ≡ row_order a b
unfolding row_order
key_same s a b = rw (column_itself (pos s))

pub key_after_none : (m : ℕ) (a : Row) → row_order (key m a) [] ≡ Greater
unfolding row_order
key_after_none m a = refl

pub key_after_negative : (m n : ℕ) (a b : Row) → row_order (key m a) (negsuc n ∷ b) ≡ Greater
unfolding row_order
key_after_negative m n a b = rw (column_greater (pos m) (negsuc n) (omega (arith, ints)))
