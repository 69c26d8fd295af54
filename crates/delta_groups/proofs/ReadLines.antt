-- The lines of a change, read one by one. Assumes nothing.
--     as_long            they are as many
--     no_change          what is read past the last of them
--     lines_whole        past the last line all of the change was read
use Rattle.std.proofs.Common.{◌≡◌, ℕ, ◌≤◌, List, [], length, take, pos, ap, ◌∙◌, arith}
use Rattle.std.proofs.lemmas.List.{length-map, take_all}
use Rattle.bag.specs.declared.lines.ChangeLine.{ChangeLine}
use Rattle.bag.specs.Bag.{Lines}
use Rattle.sheet.specs.Sheets.{change_line, of_node}

abbrev pub no_change : ChangeLine
no_change = record { node = 0; row = []; change = pos 0 }

module _ (lines : List ChangeLine) (k : ℕ) (d : Lines) (are : lines ≡ of_node k d) where
  pub as_long : length lines ≡ length d
  as_long = ap length are ∙ length-map d (change_line k)

  pub lines_whole : (i : ℕ) → length lines ≤ i → take i d ≡ d
  lines_whole i h = take_all i d (omega (arith, as_long, h))
