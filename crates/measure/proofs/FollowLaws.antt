-- The value of a column over lines, from the last line to the first and from change to change. Assumes nothing.
--     with_line             one more line in front of those that gave a value
--     value_from_the_end    over all lines, taken from the last: as the definition adds, by no law
--     value_follows         over the new bag: the law of change of sums, at a column of a measure
use Rattle.std.proofs.Common.{◌≡◌, ℕ, List, [], ◌∷◌, reverse, refl, ap, ◌∙◌}
use Rattle.std.specs.List.{fold}
use Rattle.std.proofs.lemmas.List.{reverse-append}
use Rattle.std.proofs.lemmas.List.Sums.{fold-append}
use Rattle.bag.specs.declared.lines.ChangeLine.{ChangeLine}
use Rattle.bag.specs.Columns.{column_of}
use Rattle.bag.specs.Group.{AddsUp, sum_over}
use Rattle.bag.specs.Measure.{Measure, MeasureLaws}
use Rattle.bag.specs.Operators.{column_worth}
use Rattle.bag.proofs.Moves.{sum_moves}
use Rattle.measure.specs.Follow.{lines_of, column_value, ValueFollowsChange}

module _ {V : Type 0} (M : Measure V) (j : ℕ) where
  abbrev pub with_line : V → ChangeLine → V
  with_line value line = M.group.plus (column_worth M j line.row line.change) value

  pub value_from_the_end : (ls : List ChangeLine) → fold with_line M.group.zero (reverse ls) ≡ column_value M j (lines_of ls)
  unfolding sum_over
  value_from_the_end [] = refl
  value_from_the_end (l ∷ ls) =
      ap (fold with_line M.group.zero) (reverse-append (l ∷ []) ls) ∙ fold-append with_line M.group.zero (reverse ls) (l ∷ [])
      ∙ ap (λ value. with_line value l) (value_from_the_end ls)

-- the laws of the group are used here, and nowhere else in this file
module _ {V : Type 0} {ok : V → Type 0} (M : Measure V) (L : MeasureLaws ok M) (j : ℕ) where
  adds_up : AddsUp ok M.group (column_worth M j)
  adds_up = record { ok_worth = λ r. L.adds_up.ok_worth (column_of r j); at_zero = λ r. L.adds_up.at_zero (column_of r j); adds = λ r. L.adds_up.adds (column_of r j) }

  pub value_follows : ValueFollowsChange M j
  value_follows = sum_moves M.group L.group_laws (column_worth M j) adds_up
