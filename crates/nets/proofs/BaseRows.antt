-- Which records are of a base. Assumes nothing.
--     base_low                   the node of a record that is of a base is a node of the plan
--     clear_columns              a row that is clear from w on is w columns wide
use Rattle.std.proofs.Common.{◌≡◌, ℕ, zero, suc, ◌<◌, ◌≤◌, Bool, true, false, ◌&&◌, List, [], ◌∷◌, length, pos, refl, arith}
use Rattle.std.specs.List.{list_all}
use Rattle.bag.specs.Order.{Row}
use Rattle.bag.specs.Bag.{is_zero}
use Rattle.bag.specs.Columns.{column_of}
use Rattle.bag.proofs.Numbers.{zero_is}
use Rattle.message.specs.declared.record.Record.{Record}
use Rattle.plan.specs.declared.node.Node.{Node}
use Rattle.nets.specs.Gathered.{clear_from, base_at, fits_width, of_base}

pub base_low : (nodes : List Node) (r : Record) → of_base nodes r ≡ true → r.node < length nodes
base_low nodes r h = by nodes r.node h
  where
    by : (nodes : List Node) (i : ℕ) → fits_width (base_at nodes i) r.row ≡ true → i < length nodes
    by [] i h = let z : ⊥ = cc in absurd z
    by (x ∷ nodes) zero h = omega arith
    by (x ∷ nodes) (suc i) h = let l = by nodes i h in omega arith

pub clear_columns : (w : ℕ) (row : Row) → clear_from w row ≡ true → (i : ℕ) → w ≤ i → column_of row i ≡ pos 0
clear_columns w [] h i l = refl
clear_columns (suc w) (v ∷ row) h zero l = absurd (let z : ⊥ = omega arith in z)
clear_columns (suc w) (v ∷ row) h (suc i) l = clear_columns w row h i (omega arith)
clear_columns zero (v ∷ row) h zero l = by (is_zero v) refl h
  where
    by : (b : Bool) → is_zero v ≡ b → b && list_all is_zero row ≡ true → v ≡ pos 0
    by true z h = zero_is v z
    by false z h = let y : ⊥ = cc in absurd y
clear_columns zero (v ∷ row) h (suc i) l = clear_columns zero row (by (is_zero v) h) i (omega arith)
  where
    by : (b : Bool) → b && list_all is_zero row ≡ true → list_all is_zero row ≡ true
    by true h = h
    by false h = let y : ⊥ = cc in absurd y
