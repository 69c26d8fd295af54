-- The table that lines are added up in. Assumes nothing.
--     net_found, net_none      what is read of a row is its count
--     net_added                adding a line, for which there is room
--     nets_none                a table without entries
--     not_cut                  a sum of 32 bits is not cut
use Rattle.std.proofs.Common.{◌≡◌, ℕ, ◌-◌, ◌^◌, ◌<◌, min, [], length, ℤ, pos, negsuc, ◌+ℤ◌, Ok, Err, Some, None, Option, Result, sym, ap, ◌∙◌, arith, w32, SFits}
use Rattle.std.proofs.lemmas.List.{length-map}
use Rattle.std.specs.List.{slice_get}
use Rattle.std.specs.Int.{saturate_to_bits}
use Rattle.bag.specs.declared.lines.ChangeLine.{ChangeLine}
use Rattle.bag.specs.Order.{Row, change_line_order}
use Rattle.bag.specs.Bag.{Lines, count}
use Rattle.bag.specs.Refusal.{left_by}
use Rattle.table.specs.declared.full.Full.{Full}
use Rattle.table.specs.LineTables.{ChangeTable}
use Rattle.table.specs.Entries.{entry_of, place_of, with_entry}
use Rattle.table.specs.Refusals.{refusal_in}
use Rattle.table.specs.Tables.{items, capacity, add_answer}
use Rattle.table.proofs.Lookups.{place_holds, no_place}
use Rattle.table.proofs.Answered.{refused_since}
use Rattle.sheet.specs.Sheets.{change_line}
use Rattle.delta_groups.specs.Nets.{added, Nets}
use Rattle.delta_groups.proofs.Gathered.{change_in, found_is, with_is, ascends_added}

module _ (t : ChangeTable) (xs : Lines) (n : Nets t xs) (r : Row) where
  abbrev key : ChangeLine
  key = change_line 0 (r, pos 0)

  entry_is : (o : Option ChangeLine) → o ≡ entry_of change_line_order key (items t) → change_in o ≡ count xs r
  entry_is o is = ap change_in (is ∙ ap (entry_of change_line_order key) n.entries) ∙ found_is r (pos 0) xs n.ascend

  pub net_found : (i : ℕ) (o : Option ChangeLine) → Some i ≡ place_of change_line_order key (items t) → o ≡ slice_get (items t) i → change_in o ≡ count xs r
  net_found i o at is = entry_is o (is ∙ place_holds change_line_order key (items t) i (sym at))

  pub net_none : None ≡ place_of change_line_order key (items t) → pos 0 ≡ count xs r
  net_none at = entry_is None (sym (no_place change_line_order key (items t) (sym at)))

  pub net_added : (after : ChangeTable) (m s : ℤ) (a : Result (Unit {0}) Full) → s ≡ count xs r +ℤ m → length xs < capacity t →
      refusal_in a ≡ add_answer change_line_order (capacity t) (change_line 0 (r, s)) (items t) →
      items after ≡ left_by a (items t) (with_entry change_line_order (change_line 0 (r, s)) (items t)) → Nets after (added r m xs)
  net_added after m s (Ok u) e h told are =
      record {
        entries = are ∙ ap (with_entry change_line_order (change_line 0 (r, s))) n.entries ∙ with_is r m s xs n.ascend e;
        ascend = ascends_added r m xs n.ascend;
      }
  net_added after m s (Err f) e h told are =
      let full = (refused_since change_line_order (capacity t) (change_line 0 (r, s)) (items t) f told).full in
      let long = ap length n.entries ∙ length-map xs (change_line 0) in
      absurd (let z : ⊥ = omega arith in z)

pub nets_none : (t : ChangeTable) → items t ≡ [] → Nets t []
nets_none t e = record { entries = e; ascend = tt }

-- a sum of 32 bits is not cut
pub not_cut : (z : ℤ) → SFits w32 z → saturate_to_bits 31 z ≡ z
not_cut (pos k) f = let b = f.sfits in ap pos (let m : min k (2 ^ 31 - 1) ≡ k = omega arith in m)
not_cut (negsuc k) f = let b = f.sfits in ap negsuc (let m : min k (2 ^ 31 - 1) ≡ k = omega arith in m)
