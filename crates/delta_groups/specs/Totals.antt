-- What the groups of a total add to its change, one behind the other. It describes how code works, not what a total means. Assumes nothing.
-- `own` is the total's old bag, and `delta` gives what the change below adds to the copies and to the value of a group.
--     exchange_of M n own delta k      what the group k adds to the total's change: its old row out, its new row in
--     exchanges M n own delta xs       the same of the groups of xs, one behind the other
--     fit_after M n own delta k        the group's value fits after the change, if it has copies then
--     Ready M n own delta k            what is known of a group whose rows are exchanged
--     GroupsReady M n own delta xs groups values      the same of each group of xs, whose lines and worths stand in `groups` and `values`
--     Refused v d fit f                what f tells where v was to write the lines d of groups: of one there are too many copies, or a group
--                                      does not fit
--     Exchanged v w d fit r            the answer r there: d is written, as w, and all groups fit, or d is refused
use Rattle.std.specs.Prelude.{◌≡◌, ℕ, ◌<◌, ◌≤◌, Bool, true, false, ◌⊎◌, List, [], ◌∷◌, ◌++◌, length, get_or, ℤ, ◌+ℤ◌, FitsSigned, Result, MatchResult, slice_index_or}
use Rattle.std.specs.Int.{w32}
use Rattle.bag.specs.declared.lines.ChangeLine.{ChangeLine}
use Rattle.bag.specs.Order.{Row}
use Rattle.bag.specs.Bag.{Line, Lines, is_zero, collect}
use Rattle.bag.specs.Measure.{Measure}
use Rattle.bag.specs.Operators.{total_row}
use Rattle.bag.specs.Propagation.{exchanged, read_group, fits_after}
use Rattle.stock.specs.Holding.{Holding}
use Rattle.sheet.specs.Sheets.{of_node}
use Rattle.delta.specs.declared.fault.NodeFault.{NodeFault}
use Rattle.delta.specs.declared.fault.NodeFault.TheVariants.{Wide}
use Rattle.delta.specs.declared.writer.ChangeWriter.{ChangeWriter}
use Rattle.delta.specs.Writing.{Written, TooMany}
use Rattle.delta_groups.specs.Groups.{IsGroup}

module _ {V : Type 0} (M : Measure V) (n : ℕ) (own : Lines) (delta : Row → ℤ × V) where
  abbrev pub exchange_of : Row → Lines
  exchange_of k = collect (exchanged M.group (total_row M n) k (read_group M n own k) (delta k))

  unfoldable pub exchanges : Lines → Lines
  exchanges [] = []
  exchanges (e ∷ xs) = exchange_of e.0 ++ exchanges xs

  abbrev pub fit_after : Row → ℤ → Bool
  fit_after k c = fits_after M (read_group M n own k) (delta k)

  pub record Ready (k : Row) : Type 0 where
    pub group : IsGroup n k
    pub copies_fit : FitsSigned w32 ((read_group M n own k).0 +ℤ (delta k).0)
    pub old_fits : is_zero (read_group M n own k).0 ≡ false → M.fits (read_group M n own k).1 ≡ true

  pub record GroupsReady (xs : Lines) (groups : List ChangeLine) (values : List V) : Type 0 where
    pub lines : groups ≡ of_node 0 xs
    pub places : length xs ≤ length values
    pub deltas : (i : ℕ) (e : Line) (z : V) → i < length xs → delta (get_or xs i e).0 ≡ ((get_or xs i e).1, slice_index_or values i z)
    pub each : (i : ℕ) (e : Line) → i < length xs → Ready (get_or xs i e).0

module _ {S : Type 0} (meaning : S → Holding) where
  abbrev pub Refused : ChangeWriter S → Lines → Bool → NodeFault → Type 0
  Refused v d fit f = TooMany meaning v d f ⊎ ((f ≡ Wide) × (fit ≡ false))

  abbrev pub Exchanged : ChangeWriter S → ChangeWriter S → Lines → Bool → Result (Unit {0}) NodeFault → Type 0
  Exchanged v w d fit r = MatchResult r (λ _. Written meaning w d × (fit ≡ true)) (λ f. Refused v d fit f)
