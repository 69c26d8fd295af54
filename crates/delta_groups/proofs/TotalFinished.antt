-- A total's walk over its groups at its end has worked out its change. Assumes nothing.
--     lines_most         a bag has no more lines than all of them
--     ready_groups       what is known of every group before its rows are exchanged
--     total_finished     then what it wrote or told meets the contract of a total
use Rattle.std.proofs.Common.{◌≡◌, ℕ, zero, suc, ◌*◌, ◌<◌, ◌≤◌, true, false, inl, inr, List, [], ◌∷◌, length, get_or, ℤ, pos, ◌+ℤ◌, nat_abs, ◌≤ℤ◌, Ok, Err, Result, sym, refl, ap, ◌∙◌, subst, arith, w32, SFits, rules}
use Rattle.std.proofs.lemmas.Bool.{not-true}
use Rattle.std.proofs.lemmas.Int.{ints}
use Rattle.bag.specs.Order.{Row}
use Rattle.bag.specs.Columns.{listed}
use Rattle.bag.specs.Bag.{Lines, is_zero, IsBag, every_line, difference}
use Rattle.bag.specs.Measure.{Measure, MeasureLaws}
use Rattle.bag.specs.Operators.{map_rows, pick, map_groups, column_worth, total_copies, total_value, total_row, total, all_groups_fit}
use Rattle.bag.specs.Propagation.{group_of, read_group, change_of_own_total, touched_groups_fit}
use Rattle.bag.proofs.Bounds.{group_copies_low, group_copies_most}
use Rattle.bag.proofs.GroupMoves.{group_copies_moves}
use Rattle.bag.proofs.LineCounts.{length_most}
use Rattle.bag.proofs.Moves.{canonical_project, project_copies}
use Rattle.bag.proofs.OperatorBags.{bag_aggregate}
use Rattle.bag.proofs.OperatorLaws.{total_follows_change_from_its_rows}
use Rattle.bag.proofs.ReadBack.{column_worth_adds_up, total_is_rows, read_group_is}
use Rattle.bag.proofs.TestsAtChanges.{every_passes, fit_follows_change}
use Rattle.stock.specs.Holding.{Holding, LawfulHolding, shelf_of, lines_on}
use Rattle.plan.specs.Afresh.{board}
use Rattle.delta.specs.declared.fault.NodeFault.{NodeFault}
use Rattle.delta.specs.declared.writer.ChangeWriter.{ChangeWriter}
use Rattle.delta.specs.NodeChange.{counts_fit, over_at, LowerNode, Setting}
use Rattle.delta.specs.Writing.{SameTask}
use Rattle.delta.specs.Changed.{NodeChange}
use Rattle.delta.proofs.Finished.{counts_told, finished, not_fitting}
use Rattle.delta_groups.specs.Nets.{gathered}
use Rattle.delta_groups.specs.Groups.{IsGroup, RoomForGroup}
use Rattle.delta_groups.specs.Totals.{exchanges, fit_after, Ready, Exchanged}
use Rattle.delta_groups.proofs.OwnTotal.{exchanges_are, fits_are}

-- ---- a group before its rows are exchanged

pub lines_most : (bags : List Lines) (s : ℕ) → length (get_or bags s []) ≤ lines_on bags
unfolding lines_on
lines_most [] s = omega arith
lines_most (b ∷ bags) zero = omega arith
lines_most (b ∷ bags) (suc s) = let h = lines_most bags s in omega arith

copies_fit_column : (z : ℤ) (m : ℕ) → pos 0 ≤ℤ z → z ≤ℤ pos (65535 * m) → m ≤ 12288 → SFits w32 z
copies_fit_column z m low most few = let b : nat_abs z ≤ 2147483647 = omega (arith, ints) in search rules

module _ {V : Type 0} {ok : V → Type 0} (M : Measure V) (L : MeasureLaws ok M) (j : ℕ) (is : List ℕ) (h : Holding) (law : LawfulHolding h) (c w : ℕ) (d new : Lines) (lower : LowerNode w (shelf_of h c) d new)
    (own : Lines) (own_is : own ≡ total M j is (shelf_of h c)) (room : RoomForGroup M (length is)) (fits : all_groups_fit M j is (shelf_of h c) ≡ true) (few : length d ≤ 8192) where
  abbrev old : Lines
  old = shelf_of h c

  long : length new ≤ 12288
  long =
      let a = length_most old d new lower.changes.old_bag.0 lower.changes.in_order lower.changes.new_bag.0 lower.changes.moves in
      let b = lines_most h.shelves c in
      let e = law.room in
      let f = law.small in
      omega arith

  pub ready_groups : (k : Row) → IsGroup (length is) k → Ready M (length is) own (group_of M j is d) k
  ready_groups k key =
      record {
        group = key;
        copies_fit = subst (λ (t : ℤ × V). SFits w32 (t.0 +ℤ total_copies is d k)) (sym read) (subst (SFits w32) moved
            (copies_fit_column (total_copies is new k) (length new) (group_copies_low (listed is) new lower.changes.new_bag.1 k) (group_copies_most 65535 (listed is) new lower.counts k) long));
        old_fits = subst (λ (t : ℤ × V). is_zero t.0 ≡ false → M.fits t.1 ≡ true) (sym read)
            (λ z. every_passes (λ q n. M.fits (total_value M j is old q)) (pick is old) (canonical_project (listed is) old) fits k (ap is_zero (project_copies (listed is) old k) ∙ z));
      }
    where
      read : read_group M (length is) own k ≡ group_of M j is old k
      read = ap (λ (b : Lines). read_group M (length is) b k) own_is ∙ read_group_is M L.group_laws L.adds_up (L.showing (omega arith)) j is room old lower.changes.old_bag fits k key

      moved : total_copies is new k ≡ total_copies is old k +ℤ total_copies is d k
      moved = group_copies_moves M.group L.group_laws (listed is) (column_worth M j) (column_worth_adds_up M L.adds_up j) old d new lower.changes.moves k

-- ---- the walk at its end

one_each : (row-for : Row → ℤ → Row) (gs : Lines) → counts_fit (map_groups row-for gs) ≡ true
unfolding every_line map_groups
one_each row-for [] = refl
one_each row-for (e ∷ gs) = one_each row-for gs

module _ {V : Type 0} {ok : V → Type 0} (M : Measure V) (L : MeasureLaws ok M) (j : ℕ) (is : List ℕ) {S : Type 0} (meaning : S → Holding) (v w : ChangeWriter S) (same : SameTask v w) (law : LawfulHolding (meaning v.stock.now)) (c : ℕ) (ws : List ℕ) (ds news : List Lines) (low : c < v.node)
    (at : Setting (meaning v.stock.now) ws v.node (total M j is (shelf_of (meaning v.stock.now) c)) ds news) (room_for : RoomForGroup M (length is)) (fits : all_groups_fit M j is (shelf_of (meaning v.stock.now) c) ≡ true) where
  abbrev h : Holding
  h = meaning v.stock.now

  abbrev k : ℕ
  k = v.node

  abbrev before : Lines
  before = shelf_of h c

  abbrev d : Lines
  d = board ds c

  abbrev after : Lines
  after = board news c

  abbrev xs : Lines
  xs = gathered (map_rows (listed is) d)

  abbrev out : Lines
  out = exchanges M (length is) (shelf_of h k) (group_of M j is d) xs

  bag : IsBag (total M j is after)
  bag = bag_aggregate M.group (listed is) (column_worth M j) (total_row M (length is)) after

  out_is : out ≡ difference (total M j is before) (total M j is after)
  out_is =
      exchanges_are M j is (omega arith) (shelf_of h k) d (at.lower c low).changes.in_order
      ∙ ap (λ (b : Lines). change_of_own_total M j is b d) at.own
      ∙ total_follows_change_from_its_rows M L j is before d after room_for fits (at.lower c low).changes

  fit_is : all_groups_fit M j is after ≡ every_line (fit_after M (length is) (shelf_of h k) (group_of M j is d)) xs
  fit_is =
      fit_follows_change M L j is before d after room_for fits (at.lower c low).changes
      ∙ ap (λ (b : Lines). touched_groups_fit M j is b d) (sym at.own)
      ∙ sym (fits_are M j is (omega arith) (shelf_of h k) d (at.lower c low).changes.in_order)

  -- a total's counts are 1
  counts : counts_fit (total M j is after) ≡ true
  counts = ap counts_fit (total_is_rows M j is after (omega arith)) ∙ one_each _ (pick is after)

  never_over : over_at (shelf_of h k) out ≡ false
  never_over = not-true (over_at (shelf_of h k) out)
      (sym (counts_told h law k (total M j is after) out bag (out_is ∙ ap (λ (b : Lines). difference b (total M j is after)) (sym at.own))) ∙ counts)

  pub total_finished : (r : Result (Unit {0}) NodeFault) → Exchanged meaning v w out (every_line (fit_after M (length is) (shelf_of h k) (group_of M j is d)) xs) r →
      NodeChange meaning v w (total M j is after) (all_groups_fit M j is after) r
  total_finished (Ok u) done =
      finished meaning v w same law ws (total M j is before) ds news at (total M j is after) bag out out_is (all_groups_fit M j is after) (fit_is ∙ done.1) (Ok u) done.0
  total_finished (Err f) (inl many) = absurd (let e = sym many.count ∙ never_over in let z : ⊥ = cc in z)
  total_finished (Err f) (inr wide) =
      subst (λ g. NodeChange meaning v w (total M j is after) (all_groups_fit M j is after) (Err g)) (sym wide.0)
      (not_fitting meaning v w same law ws (total M j is before) ds news at (total M j is after) bag out out_is (all_groups_fit M j is after) (fit_is ∙ wide.1) counts)
