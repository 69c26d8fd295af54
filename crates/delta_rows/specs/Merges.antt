-- Two changes merged row by row, as code goes over them. It describes how code works, not what a change means. Assumes nothing.
--     left_turn l, right_turn r, both_turn l r      a row of which the left side has the line l, the right side r, or both have one
--     at_order o a b c            a at `Less`, b at `Equal`, c at `Greater`
--     turns xs ys                 the rows of two lists of lines, whose rows ascend, in order, each with its change on either side
use Rattle.std.specs.Prelude.{List, [], ◌∷◌, map, pos}
use Rattle.std.specs.declared.cmp.Ordering.TheVariants.{Less, Equal, Greater}
use Rattle.std.specs.declared.cmp.Ordering.{Ordering}
use Rattle.bag.specs.declared.lines.ChangeLine.{ChangeLine}
use Rattle.bag.specs.Order.{row_order}
use Rattle.delta_rows.specs.declared.merge.Turn.{Turn}

abbrev pub left_turn : ChangeLine → Turn
left_turn l = record { row = l.row; left = l.change; right = pos 0 }

abbrev pub right_turn : ChangeLine → Turn
right_turn r = record { row = r.row; left = pos 0; right = r.change }

abbrev pub both_turn : ChangeLine → ChangeLine → Turn
both_turn l r = record { row = l.row; left = l.change; right = r.change }

abbrev pub at_order : {A : Type 0} → Ordering → A → A → A → A
at_order Less a b c = a
at_order Equal a b c = b
at_order Greater a b c = c

-- the line l first on the left, and `more` for what is behind it
unfoldable pub turns_from : ChangeLine → (List ChangeLine → List Turn) → List ChangeLine → List Turn
turns_from l more [] = left_turn l ∷ more []
turns_from l more (r ∷ ys) = at_order (row_order l.row r.row) (left_turn l ∷ more (r ∷ ys)) (both_turn l r ∷ more ys) (right_turn r ∷ turns_from l more ys)

unfoldable pub turns : List ChangeLine → List ChangeLine → List Turn
turns [] ys = map right_turn ys
turns (l ∷ xs) ys = turns_from l (turns xs) ys
