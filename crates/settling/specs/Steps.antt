-- How lines are settled: first all that take copies, then all that put some. It describes the way there, not what settling means.
-- Assumes nothing.
--     losses lines, gains lines      what the lines take, and what they put, by keys
--     Moved h k d              the counts of k are those of h with the changes d
--     TakesLine h l            h has the copies that l takes
--     PutsLine h l             h has room for the copies that l puts
--     Takeable h lines         h has the copies that each line takes, and no two lines have one key
--     Puttable h lines aim     the lines lead from h to the lawful holding `aim` by puts alone
use Rattle.std.specs.Prelude.{◌≡◌, ℕ, ◌≤◌, false, List, map, pos, ◌+ℤ◌, neg_ℤ, ◌≤ℤ◌, unsigned_abs}
use Rattle.std.specs.List.{AllByRecursion}
use Rattle.bag.specs.declared.lines.ChangeLine.{ChangeLine}
use Rattle.bag.specs.Order.{Row}
use Rattle.bag.specs.Bag.{Line, Lines, count, Canonical}
use Rattle.bag.specs.Changes.{taken}
use Rattle.bag.specs.Operators.{at_least_zero}
use Rattle.stock.specs.Holding.{Holding, LawfulHolding, shelf_of, lacks_room}
use Rattle.settling.specs.Keys.{key, key_of, changes, change_at}

abbrev pub loss : ChangeLine → Line
loss l = (key_of l, neg_ℤ (taken l.change))

abbrev pub gain : ChangeLine → Line
gain l = (key_of l, at_least_zero l.change)

abbrev pub losses : List ChangeLine → Lines
losses lines = map loss lines

abbrev pub gains : List ChangeLine → Lines
gains lines = map gain lines

pub record Moved (h k : Holding) (d : Lines) : Type 0 where
  pub capacity : k.capacity ≡ h.capacity
  pub counts : (s : ℕ) → s ≤ 15 → (q : Row) → count (shelf_of k s) q ≡ count (shelf_of h s) q +ℤ count d (key s q)

pub record TakesLine (h : Holding) (l : ChangeLine) : Type 0 where
  pub shelf : l.node ≤ 15
  pub short : taken l.change ≤ℤ pos 65535
  pub there : taken l.change ≤ℤ count (shelf_of h l.node) l.row

pub record PutsLine (h : Holding) (l : ChangeLine) : Type 0 where
  pub shelf : l.node ≤ 15
  pub within : (count (shelf_of h l.node) l.row +ℤ at_least_zero l.change) ≤ℤ pos 65535
  pub room : lacks_room h l.node l.row (unsigned_abs (at_least_zero l.change)) ≡ false

pub record Takeable (h : Holding) (lines : List ChangeLine) : Type 0 where
  pub in_order : Canonical (changes lines)
  pub nodes : AllByRecursion (λ l. l.node ≤ 15) lines
  pub short : (s : ℕ) → s ≤ 15 → (q : Row) → count (shelf_of h s) q ≤ℤ pos 65535
  pub low : (s : ℕ) → s ≤ 15 → (q : Row) → pos 0 ≤ℤ count (shelf_of h s) q
  pub there : (s : ℕ) → s ≤ 15 → (q : Row) → pos 0 ≤ℤ (count (shelf_of h s) q +ℤ change_at lines s q)

pub record Puttable (h : Holding) (lines : List ChangeLine) (aim : Holding) : Type 0 where
  pub in_order : Canonical (changes lines)
  pub nodes : AllByRecursion (λ l. l.node ≤ 15) lines
  pub lawful : LawfulHolding aim
  pub capacity : h.capacity ≡ aim.capacity
  pub reaches : (s : ℕ) → s ≤ 15 → (q : Row) → count (shelf_of aim s) q ≡ count (shelf_of h s) q +ℤ count (gains lines) (key s q)
