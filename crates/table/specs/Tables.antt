-- What a table holds, and what its calls answer and leave. Assumes nothing.
--     items t                     the entries, in order
--     capacity t                  how many entries there is place for: the length of the run
--     Holds blank t xs            the entries are xs, and the whole run is xs with blanks behind
--     Sound order blank t         the keys of the entries ascend, and the whole run is the entries with blanks behind, as in every table
--     HoldsRun, SoundRun          the same of a run and the number of its entries
--     SameRun s t                 t stands over the run that s stands over, as long as it was
--     lacks_room order n e xs     adding e to xs wants a place more than the n that there are
--     add_answer order n e xs     what adding e to xs in a run of n places is answered
use Rattle.std.specs.Prelude.{◌≡◌, ℕ, ◌-◌, ◌≤◌, Bool, cond, not, ◌&&◌, List, ◌++◌, length, take, replicate, Some, None, Option, ◌==◌}
use Rattle.std.specs.declared.cmp.Ordering.{Ordering}
use Rattle.table.specs.declared.entry.Entry.{Ghosts}
use Rattle.table.specs.declared.table.Table.{Table}
use Rattle.table.specs.Entries.{Ascending, has_key}
use Rattle.bag.specs.Refusal.{Refusal}
use Rattle.table.specs.Refusals.{full_at}

abbrev pub items : {E : Type 0} {g : Ghosts E} → Table E g → List E
items t = take t.len t.run.now

abbrev pub capacity : {E : Type 0} {g : Ghosts E} → Table E g → ℕ
capacity t = length t.run.now

pub record HoldsRun {E : Type 0} (blank : E) (run : List E) (len : ℕ) (xs : List E) : Type 0 where
  pub entries : take len run ≡ xs
  pub count : len ≡ length xs
  pub whole : run ≡ xs ++ replicate (length run - length xs) blank

pub record SoundRun {E : Type 0} (order : E → E → Ordering) (blank : E) (run : List E) (len : ℕ) : Type 0 where
  pub within : len ≤ length run
  pub ascending : Ascending order (take len run)
  pub whole : run ≡ take len run ++ replicate (length run - len) blank

abbrev pub Holds : {E : Type 0} {g : Ghosts E} → E → Table E g → List E → Type 0
Holds blank t xs = HoldsRun blank t.run.now t.len xs

abbrev pub Sound : {E : Type 0} {g : Ghosts E} → (E → E → Ordering) → E → Table E g → Type 0
Sound order blank t = SoundRun order blank t.run.now t.len

pub record SameRun {E : Type 0} {g : Ghosts E} (s t : Table E g) : Type 0 where
  pub lender : t.run.ghost_name ≡ s.run.ghost_name
  pub long : capacity t ≡ capacity s

abbrev pub lacks_room : {E : Type 0} → (E → E → Ordering) → ℕ → E → List E → Bool
lacks_room order n e xs = not (has_key order e xs) && length xs == n

abbrev pub add_answer : {E : Type 0} → (E → E → Ordering) → ℕ → E → List E → Option Refusal
add_answer order n e xs = cond (lacks_room order n e xs) (Some (full_at n)) None
