-- What lines in order of their keys have at the key of one of them. Assumes nothing.
--     no_line         what is read past the last line
--     before_line     no line before a line has its key
--     at_line         the change at the key of a line is that of the line
--     low_node        its node is one of 0 to 15
use Rattle.std.proofs.Common.{◌≡◌, ℕ, zero, suc, ◌<◌, ◌≤◌, List, [], ◌∷◌, map, length, get_or, take, pos, ◌+ℤ◌, Less, refl, ap, ◌∙◌, arith}
use lib.IntN.{+ℤ_idl, +ℤ_idr}
use Rattle.std.specs.List.{AllByRecursion}
use Rattle.std.proofs.ByRecursion.{All-get_or}
use Rattle.bag.specs.declared.lines.ChangeLine.{ChangeLine}
use Rattle.bag.specs.Order.{Row, row_order}
use Rattle.bag.specs.Bag.{Line, if_equal, count, Before, Canonical}
use Rattle.bag.specs.RowOrder.{order_itself, less_greater}
use Rattle.bag.proofs.CanonicalForm.{before_transitive}
use Rattle.settling.specs.Keys.{key_of, changes}

abbrev pub no_line : ChangeLine
no_line = record { node = 0; row = []; change = pos 0 }

pub count_none : (q : Row) → count [] q ≡ pos 0
unfolding count
count_none q = refl

-- whatever is read off the lines by their keys
module _ (f : ChangeLine → Line) (keeps : (p : ChangeLine) → (f p).0 ≡ key_of p) where
  count_less : (p : ChangeLine) (ps : List ChangeLine) (k : Row) → row_order (key_of p) k ≡ Less → count (map f (p ∷ ps)) k ≡ count (map f ps) k
  unfolding count
  count_less p ps k h = ap (λ r. if_equal (row_order r k) (f p).1 +ℤ count (map f ps) k) (keeps p) ∙ ap (λ o. if_equal o (f p).1 +ℤ count (map f ps) k) h ∙ +ℤ_idl (count (map f ps) k)

  -- the key of the line at a place is behind that of the first
  behind : (p : ChangeLine) (ps : List ChangeLine) (i : ℕ) (d : ChangeLine) → Before (key_of p) (changes ps) → Canonical (changes ps) → i < length ps → row_order (key_of p) (key_of (get_or ps i d)) ≡ Less
  behind p [] i d b c l = absurd (let z : ⊥ = omega arith in z)
  behind p (q ∷ ps) zero d b c l = b
  behind p (q ∷ ps) (suc i) d b c l = behind p ps i d (before_transitive (key_of p) (key_of q) (changes ps) b c.1) c.2 (omega arith)

  -- no line before a line has its key
  pub before_line : (ps : List ChangeLine) (i : ℕ) (d : ChangeLine) → Canonical (changes ps) → i < length ps → count (map f (take i ps)) (key_of (get_or ps i d)) ≡ pos 0
  before_line ps zero d c l = count_none (key_of (get_or ps 0 d))
  before_line [] (suc i) d c l = absurd (let z : ⊥ = omega arith in z)
  before_line (p ∷ ps) (suc i) d c l = count_less p (take i ps) (key_of (get_or ps i d)) (behind p ps i d c.1 c.2 (omega arith)) ∙ before_line ps i d c.2 (omega arith)

  count_after : (p : ChangeLine) (ps : List ChangeLine) → Before (key_of p) (changes ps) → Canonical (changes ps) → count (map f ps) (key_of p) ≡ pos 0
  unfolding count
  count_after p [] b c = refl
  count_after p (q ∷ ps) b c =
      ap (λ r. if_equal (row_order r (key_of p)) (f q).1 +ℤ count (map f ps) (key_of p)) (keeps q)
      ∙ ap (λ o. if_equal o (f q).1 +ℤ count (map f ps) (key_of p)) (less_greater (key_of p) (key_of q) b)
      ∙ +ℤ_idl (count (map f ps) (key_of p)) ∙ count_after p ps (before_transitive (key_of p) (key_of q) (changes ps) b c.1) c.2

  count_here : (p : ChangeLine) (ps : List ChangeLine) → Before (key_of p) (changes ps) → Canonical (changes ps) → count (map f (p ∷ ps)) (key_of p) ≡ (f p).1
  unfolding count
  count_here p ps b c =
      ap (λ r. if_equal (row_order r (key_of p)) (f p).1 +ℤ count (map f ps) (key_of p)) (keeps p)
      ∙ ap (λ o. if_equal o (f p).1 +ℤ count (map f ps) (key_of p)) (order_itself (key_of p))
      ∙ ap (λ z. (f p).1 +ℤ z) (count_after p ps b c) ∙ +ℤ_idr (f p).1

  -- the change at the key of a line is that of the line
  pub at_line : (ps : List ChangeLine) (i : ℕ) (d : ChangeLine) → Canonical (changes ps) → i < length ps → count (map f ps) (key_of (get_or ps i d)) ≡ (f (get_or ps i d)).1
  at_line [] i d c l = absurd (let z : ⊥ = omega arith in z)
  at_line (p ∷ ps) zero d c l = count_here p ps c.1 c.2
  at_line (p ∷ ps) (suc i) d c l = count_less p ps (key_of (get_or ps i d)) (behind p ps i d c.1 c.2 (omega arith)) ∙ at_line ps i d c.2 (omega arith)

pub low_node : (ps : List ChangeLine) (i : ℕ) (d : ChangeLine) → AllByRecursion (λ l. l.node ≤ 15) ps → i < length ps → (get_or ps i d).node ≤ 15
low_node ps i d e l = All-get_or (λ (x : ChangeLine). x.node ≤ 15) ps i d l e
