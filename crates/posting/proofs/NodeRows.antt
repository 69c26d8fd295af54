-- What a node's operator gives over lawful boards is a bag of lawful rows. Assumes nothing.
--     LowerBoard w b       a bag of lawful rows, w wide, whose counts fit, and which is no longer than two sheets
--     node_bag             the board of a node is a bag
--     node_rows            and its rows are lawful, and as wide as the node
use Rattle.std.proofs.Common.{◌≡◌, ℕ, ◌+◌, ◌*◌, ◌<◌, ◌≤◌, Bool, true, false, cond, List, [], ◌∷◌, length, get_or, take, ℤ, pos, negsuc, ◌≤ℤ◌, sym, refl, subst, mul-le-mul_left, arith}
use lib.Signed.{le_z}
use Rattle.std.specs.List.{AllByRecursion}
use Rattle.std.proofs.lemmas.List.{length-take}
use Rattle.std.proofs.lemmas.Int.{ints}
use Rattle.bag.specs.Order.{Row}
use Rattle.bag.specs.Columns.{OfWidth, listed}
use Rattle.bag.specs.Bag.{Lines, is_positive, Positive, IsBag, EachRow, every_line}
use Rattle.bag.specs.Measure.{Measure, MeasureLaws, ShownColumn, ShownColumns}
use Rattle.bag.specs.Operators.{pick, both, monus, column_worth, total_value, total, all_groups_fit, group_copies}
use Rattle.bag.proofs.Bounds.{group_copies_low, group_copies_most}
use Rattle.bag.proofs.ColumnKinds.{Every, RowOf, ShownOfKind, kind_pick, kind_pair, kind_total}
use Rattle.bag.proofs.EachRow.{rows_select, rows_map_counts, rows_collect, rows-++}
use Rattle.bag.proofs.GroupMoves.{group_value_ok}
use Rattle.bag.proofs.Moves.{project_copies}
use Rattle.bag.proofs.OperatorLaws.{operators_give_bags, total_has_a_row_for_each_group}
use Rattle.bag.proofs.ReadBack.{column_worth_adds_up}
use Rattle.bag.proofs.TestsAtChanges.{every_if_each}
use Rattle.bag.proofs.Widths.{operators_keep_widths, total_keeps_its_width}
use Rattle.plan.specs.declared.node.Node.{Node}
use Rattle.plan.specs.declared.node.Node.TheVariants.{Base, Keep, Pick, Pair, Both, Less, Total}
use Rattle.plan.specs.Lawful.{width}
use Rattle.plan.specs.Sound.{Sound, Handed}
use Rattle.plan.specs.Afresh.{is_base, board, pairs_of, board_of}
use Rattle.delta.specs.NodeChange.{counts_fit, LawfulRow}
use Rattle.delta.proofs.Appended.{each_row_too}
use Rattle.posting.specs.Working.{groups_fit}

pub record LowerBoard (w : ℕ) (b : Lines) : Type 0 where
  pub bag : IsBag b
  pub rows : EachRow (LawfulRow w) b
  pub counts : counts_fit b ≡ true
  pub short : length b ≤ 16384

shown_zero : ShownColumn (pos 0)
shown_zero = omega arith

-- ---- from one form of a row's facts to another

both_rows : (P Q R : Row → Type 0) → ((r : Row) → P r → Q r → R r) → (xs : Lines) → EachRow P xs → EachRow Q xs → EachRow R xs
both_rows P Q R f [] h k = tt
both_rows P Q R f (e ∷ xs) h k = (f e.0 h.0 k.0, both_rows P Q R f xs h.1 k.1)

every_all : (r : List ℤ) → Every ShownColumn shown_zero r → AllByRecursion ShownColumn r
every_all [] h = tt
every_all (z ∷ r) h = (h.0, every_all r h.1)

all_every : (r : List ℤ) → AllByRecursion ShownColumn r → Every ShownColumn shown_zero r
all_every [] h = tt
all_every (z ∷ r) h = (h.0, all_every r h.1)

shown_every : (r : List ℤ) → ShownColumns r → Every ShownColumn shown_zero r
shown_every [] h = tt
shown_every (z ∷ r) h = (h.0, shown_every r h.1)

of_kind : (w : ℕ) (xs : Lines) → EachRow (LawfulRow w) xs → EachRow (RowOf ShownColumn shown_zero) xs
of_kind w xs h = each_row_too (LawfulRow w) (RowOf ShownColumn shown_zero) (λ r l. (l.width.0, all_every r l.columns)) xs h

of_width : (w : ℕ) (xs : Lines) → EachRow (LawfulRow w) xs → EachRow (OfWidth w) xs
of_width w xs h = each_row_too (LawfulRow w) (OfWidth w) (λ r l. l.width) xs h

lawful_from : (w : ℕ) (xs : Lines) → EachRow (OfWidth w) xs → EachRow (RowOf ShownColumn shown_zero) xs → EachRow (LawfulRow w) xs
lawful_from w xs h k = both_rows (OfWidth w) (RowOf ShownColumn shown_zero) (LawfulRow w) (λ r a b. record { width = a; columns = every_all r b.1 }) xs h k

few_listed : (n m : ℕ) (columns : List ℕ) → n ≤ m → length (take n columns) ≤ m
few_listed n m columns h = let e = length-take n columns in omega arith

all_listed : (n : ℕ) (columns : List ℕ) → n ≤ 8 → length columns ≡ 8 → length (take n columns) ≡ n
all_listed n columns h l = let e = length-take n columns in omega arith

-- ---- the groups of a total

small_copies : (z : ℤ) (m : ℕ) → pos 0 ≤ℤ z → z ≤ℤ pos (65535 * m) → m ≤ 16384 → le_z z (pos 2147483647) ≡ true
small_copies z m low high h = let k = mul-le-mul_left 65535 h in grind (arith, ints)

shown_copies : (z : ℤ) → pos 0 ≤ℤ z → le_z z (pos 2147483647) ≡ true → ShownColumn z
shown_copies (pos n) low h = omega (arith, ints)
shown_copies (negsuc n) low h = absurd (let z : ⊥ = omega (arith, ints) in z)

module _ {V : Type 0} {ok : V → Type 0} (M : Measure V) (L : MeasureLaws ok M) where
  module _ (k8 : M.shows < 8) (val : Row → V) (good : (k : Row) → ok (val k)) where
    shown_groups : (gs : Lines) → Positive gs → every_line (λ k n. M.fits (val k)) gs ≡ true → every_line (λ q n. le_z n (pos 2147483647)) gs ≡ true → ShownOfKind ShownColumn shown_zero (λ k. M.columns (val k)) gs
    unfolding every_line
    shown_groups [] p h c = tt
    shown_groups (e ∷ gs) p h c = by (M.fits (val e.0)) refl (le_z e.1 (pos 2147483647)) refl h c (shown_groups gs p.1)
      where
        above : (z : ℤ) → is_positive z ≡ true → pos 0 ≤ℤ z
        above (pos n) q = omega (arith, ints)
        above (negsuc n) q = let z : ◌≡◌ {A = ℕ} 0 1 = cc in absurd (let y : ⊥ = omega arith in y)

        by : (t : Bool) → M.fits (val e.0) ≡ t → (u : Bool) → le_z e.1 (pos 2147483647) ≡ u → cond t (every_line (λ k n. M.fits (val k)) gs) false ≡ true → cond u (every_line (λ q n. le_z n (pos 2147483647)) gs) false ≡ true →
            (every_line (λ k n. M.fits (val k)) gs ≡ true → every_line (λ q n. le_z n (pos 2147483647)) gs ≡ true → ShownOfKind ShownColumn shown_zero (λ k. M.columns (val k)) gs) →
            ShownOfKind ShownColumn shown_zero (λ k. M.columns (val k)) (e ∷ gs)
        by true f true c h d ih = (shown_copies e.1 (above e.1 p.0) c, shown_every (M.columns (val e.0)) ((L.showing k8).never_lowest (val e.0) (good e.0) f), ih h d)
        by true f false c h d ih = let z : ◌≡◌ {A = ℕ} 0 1 = cc in absurd (let y : ⊥ = omega arith in y)
        by false f u c h d ih = let z : ◌≡◌ {A = ℕ} 0 1 = cc in absurd (let y : ⊥ = omega arith in y)

  pub node_bag : (ws : List ℕ) (bs : List Lines) (k s : ℕ) (vs : List ℕ) (x : Node) → Sound s vs k x → ((i : ℕ) → i < k → IsBag (board bs i)) → (n : Lines) → (is_base x ≡ true → IsBag n) → IsBag (board_of M ws n bs x)
  unfolding board_of
  node_bag ws bs k s vs (Base w) f lower n base = base refl
  node_bag ws bs k s vs (Keep c a relation operand) f lower n base = operators_give_bags.of_keep a relation operand (board bs c) (lower c f.lower)
  node_bag ws bs k s vs (Pick c columns) f lower n base = operators_give_bags.of_pick (take columns.count columns.places) (board bs c) (lower c f.lower)
  node_bag ws bs k s vs (Pair l r pairs) f lower n base = operators_give_bags.of_pair (get_or ws l 0) (pairs_of pairs.count pairs.places) (board bs l) (board bs r) (lower l f.left) (lower r f.right)
  node_bag ws bs k s vs (Both l r) f lower n base = operators_give_bags.of_both (board bs l) (board bs r) (lower l f.left) (lower r f.right)
  node_bag ws bs k s vs (Less l r) f lower n base = operators_give_bags.of_less (board bs l) (board bs r) (lower l f.left) (lower r f.right)
  node_bag ws bs k s vs (Total c j columns) f lower n base = (total_has_a_row_for_each_group M L j (take columns.count columns.places) (board bs c) (few_listed columns.count 7 columns.places f.few)).a_bag

  total_rows : (j w : ℕ) (is : List ℕ) (b : Lines) → length is + 1 + M.shows ≤ 8 → LowerBoard w b → all_groups_fit M j is b ≡ true → EachRow (LawfulRow (length is + 1 + M.shows)) (total M j is b)
  total_rows j w is b room lower fit =
      let k8 : M.shows < 8 = omega arith in
      let picked : IsBag (pick is b) = operators_give_bags.of_pick is b lower.bag in
      let many : every_line (λ q n. le_z n (pos 2147483647)) (pick is b) ≡ true =
      every_if_each (λ q n. le_z n (pos 2147483647)) (pick is b) picked.0 (λ q z.
      subst (λ m. le_z m (pos 2147483647) ≡ true) (sym (project_copies (listed is) b q))
      (small_copies (group_copies (listed is) b q) (length b) (group_copies_low (listed is) b lower.bag.1 q) (group_copies_most 65535 (listed is) b lower.counts q) lower.short)) in
      lawful_from (length is + 1 + M.shows) (total M j is b) (total_keeps_its_width M L j is b room fit)
      (kind_total ShownColumn shown_zero M j is b (of_kind w b lower.rows)
      (shown_groups k8 (total_value M j is b) (group_value_ok M.group L.group_laws (listed is) (column_worth M j) (column_worth_adds_up M L.adds_up j) b) (pick is b) picked.1 fit many))

  pub node_rows : (ws : List ℕ) (bs : List Lines) (k : ℕ) (x : Node) → Sound M.shows ws k x → Handed M.shows ws k x → ((i : ℕ) → i < k → LowerBoard (get_or ws i 0) (board bs i)) →
      (n : Lines) → (is_base x ≡ true → EachRow (LawfulRow (width M.shows ws x)) n) → groups_fit M x bs ≡ true → EachRow (LawfulRow (width M.shows ws x)) (board_of M ws n bs x)
  unfolding board_of both monus
  node_rows ws bs k (Base w) f handed lower n base fit = base refl
  node_rows ws bs k (Keep c a relation operand) f handed lower n base fit = rows_select (LawfulRow (get_or ws c 0)) _ (board bs c) (lower c f.lower).rows
  node_rows ws bs k (Pick c columns) f handed lower n base fit =
      let is = take columns.count columns.places in
      let e = all_listed columns.count columns.places f.few handed.places in
      subst (λ w. EachRow (LawfulRow w) (pick is (board bs c))) e
      (lawful_from (length is) (pick is (board bs c)) (operators_keep_widths.of_pick is (board bs c)) (kind_pick ShownColumn shown_zero is (board bs c) (of_kind (get_or ws c 0) (board bs c) (lower c f.lower).rows)))
  node_rows ws bs k (Pair l r pairs) f handed lower n base fit =
      lawful_from (get_or ws l 0 + get_or ws r 0) _
      (operators_keep_widths.of_pair (get_or ws l 0) (get_or ws r 0) (pairs_of pairs.count pairs.places) (board bs l) (board bs r) (of_width (get_or ws r 0) (board bs r) (lower r f.right).rows))
      (kind_pair ShownColumn shown_zero (get_or ws l 0) (pairs_of pairs.count pairs.places) (board bs l) (board bs r) (of_kind (get_or ws l 0) (board bs l) (lower l f.left).rows) (of_kind (get_or ws r 0) (board bs r) (lower r f.right).rows))
  node_rows ws bs k (Both l r) f handed lower n base fit =
      rows_collect (LawfulRow (get_or ws l 0)) _ (rows-++ (LawfulRow (get_or ws l 0)) (board bs l) (board bs r) (lower l f.left).rows (subst (λ w. EachRow (LawfulRow w) (board bs r)) (sym f.equal) (lower r f.right).rows))
  node_rows ws bs k (Less l r) f handed lower n base fit = rows_map_counts (LawfulRow (get_or ws l 0)) _ (board bs l) (lower l f.left).rows
  node_rows ws bs k (Total c j columns) f handed lower n base fit =
      let is = take columns.count columns.places in
      let few = f.few in
      let e = all_listed columns.count columns.places (omega arith) handed.places in
      let narrow = f.narrow in
      subst (λ w. EachRow (LawfulRow (w + 1 + M.shows)) (total M j is (board bs c))) e
      (total_rows j (get_or ws c 0) is (board bs c) (omega arith) (lower c f.lower) fit)
