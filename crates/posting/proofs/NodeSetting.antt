-- What is known where a node of a plan is worked out. Assumes nothing.
--     few_nodes            a plan has at most sixteen nodes
--     board_of_agree, groups_fit_agree       an operator looks at lower boards only
--     old_board            the node's shelf has what its operator gives over the old shelves
--     new_board            its new board is what the operator gives over the new boards
--     node_setting         so the setting of its operator is met
--     AtNode, at_node      all of it for the operator x of the node
--     at_planned           the same where a plan hands out x, with what makes x sound
--     turned               and the way back from its contract
--     lines_of             the lines that are found of a node are its change
--     length_of_lines      the lines of a node are no more than a sheet has
use Rattle.std.proofs.Common.{◌≡◌, ℕ, ◌<◌, ◌≤◌, true, List, [], length, get_or, take, Some, Option, Result, sym, refl, ap, ◌∙◌, subst, ap₂, arith}
use Rattle.std.specs.List.{slice_get}
use Rattle.std.proofs.lemmas.List.{length-map, length-take}
use Rattle.std.proofs.lemmas.Option.{slice_get-get_or}
use Rattle.bag.specs.declared.lines.ChangeLine.{ChangeLine}
use Rattle.bag.specs.Bag.{Lines}
use Rattle.bag.specs.Measure.{Measure}
use Rattle.bag.specs.Operators.{keep, pick, pair, both, monus, total, all_groups_fit}
use Rattle.stock.specs.Holding.{Holding, LawfulHolding, shelf_of}
use Rattle.plan.specs.declared.node.Node.{Node}
use Rattle.plan.specs.declared.node.Node.TheVariants.{Base, Keep, Pick, Pair, Both, Less, Total}
use Rattle.plan.specs.declared.plan.Plan.{Plan}
use Rattle.plan.specs.Lawful.{widths}
use Rattle.plan.specs.Sound.{Sound}
use Rattle.plan.specs.Afresh.{board, pairs_of, board_of, afresh}
use Rattle.plan.specs.Plans.{nodes_of, widths_of}
use Rattle.sheet.specs.Sheets.{of_node, change_line, flattened}
use Rattle.delta.specs.declared.fault.NodeFault.{NodeFault}
use Rattle.delta.specs.declared.writer.ChangeWriter.{ChangeWriter}
use Rattle.delta.specs.NodeChange.{Setting, LinesOf}
use Rattle.delta.specs.Changed.{NodeChange}
use Rattle.posting.specs.Working.{groups_fit, Ready}
use Rattle.posting.specs.Changes.{changes_to, LowerNodes}
use Rattle.posting.proofs.AfreshAt.{afresh_long, afresh_at}
use Rattle.posting.proofs.Runs.{changes_long, board_short}

pub few_nodes : (p : Plan) → length (nodes_of p) ≤ 16
few_nodes p = let e = length-take p.len p.nodes in omega (arith, e, p.few)

pub groups_fit_agree : {V : Type 0} (M : Measure V) (k s : ℕ) (vs : List ℕ) (bs cs : List Lines) (x : Node) → Sound s vs k x → ((i : ℕ) → i < k → board bs i ≡ board cs i) → groups_fit M x bs ≡ groups_fit M x cs
groups_fit_agree M k s vs bs cs (Base w) f same = refl
groups_fit_agree M k s vs bs cs (Keep c a relation operand) f same = refl
groups_fit_agree M k s vs bs cs (Pick c columns) f same = refl
groups_fit_agree M k s vs bs cs (Pair l r pairs) f same = refl
groups_fit_agree M k s vs bs cs (Both l r) f same = refl
groups_fit_agree M k s vs bs cs (Less l r) f same = refl
groups_fit_agree M k s vs bs cs (Total c j columns) f same = ap (all_groups_fit M j (take columns.count columns.places)) (same c f.lower)

module _ {V : Type 0} (M : Measure V) where
  board_of_agree : (ws : List ℕ) (k s : ℕ) (vs : List ℕ) (n : Lines) (bs cs : List Lines) (x : Node) → Sound s vs k x → ((i : ℕ) → i < k → board bs i ≡ board cs i) → board_of M ws n bs x ≡ board_of M ws n cs x
  unfolding board_of
  board_of_agree ws k s vs n bs cs (Base w) f same = refl
  board_of_agree ws k s vs n bs cs (Keep c a relation operand) f same = ap (keep a relation operand) (same c f.lower)
  board_of_agree ws k s vs n bs cs (Pick c columns) f same = ap (pick (take columns.count columns.places)) (same c f.lower)
  board_of_agree ws k s vs n bs cs (Pair l r pairs) f same = ap₂ (pair (get_or ws l 0) (pairs_of pairs.count pairs.places)) (same l f.left) (same r f.right)
  board_of_agree ws k s vs n bs cs (Both l r) f same = ap₂ both (same l f.left) (same r f.right)
  board_of_agree ws k s vs n bs cs (Less l r) f same = ap₂ monus (same l f.left) (same r f.right)
  board_of_agree ws k s vs n bs cs (Total c j columns) f same = ap (total M j (take columns.count columns.places)) (same c f.lower)

  module _ (xs : List Node) (h : Holding) (law : LawfulHolding h) (moves net net' : ℕ → Lines) (few : length xs ≤ 16) (ready : Ready M xs (widths M.shows [] xs) h moves net net') (k : ℕ) (here : k < length xs) (s : ℕ) (vs : List ℕ) (d : Node) (sound : Sound s vs k (get_or xs k d)) where
    pub old_board : shelf_of h k ≡ board_of M (widths M.shows [] xs) (net k) h.shelves (get_or xs k d)
    old_board =
        ready.boards k here ∙ afresh_at M xs net k s vs d here sound
        ∙ board_of_agree (widths M.shows [] xs) k s vs (net k) (afresh M xs net) h.shelves (get_or xs k d) sound (λ i l. sym (ready.boards i (omega arith)))

    pub new_board : board (afresh M xs net') k ≡ board_of M (widths M.shows [] xs) (net' k) (afresh M xs net') (get_or xs k d)
    new_board = afresh_at M xs net' k s vs d here sound

    pub node_setting : LowerNodes (widths M.shows [] xs) h (afresh M xs net') k → Setting h (widths M.shows [] xs) k (board_of M (widths M.shows [] xs) (net k) h.shelves (get_or xs k d)) (changes_to h (afresh M xs net') k) (afresh M xs net')
    node_setting lower =
        let long = afresh_long M xs net' in
        record {
          low = omega arith;
          many = changes_long h (afresh M xs net') law.sixteen (omega arith) k (omega arith);
          own = old_board;
          lower = lower;
        }

pub found_at : (xs : List Node) (k : ℕ) (x d : Node) → k < length xs → Some x ≡ slice_get xs k → get_or xs k d ≡ x
found_at xs k x d here found = some_same (get_or xs k d) x (sym (slice_get-get_or xs k d here) ∙ sym found)
  where
    some_same : (a b : Node) → ◌≡◌ {A = Option Node} (Some a) (Some b) → a ≡ b
    some_same a b e = cc

pub lines_of : (c : ℕ) (ds : List Lines) (done ls : List ChangeLine) → done ≡ flattened 0 ds → length done ≤ 8192 → ls ≡ of_node c (board ds c) → LinesOf c (board ds c) ls
lines_of c ds done ls are short e = record { are = e; few = let b = board_short 0 ds c in let n = ap length are in omega (arith, b, n, short) }

module _ {V : Type 0} (M : Measure V) (xs : List Node) (ws : List ℕ) (h : Holding) (net net' : ℕ → Lines) (k : ℕ) (x d : Node) (done : List ChangeLine) where
  pub record AtNode : Type 0 where
    pub setting : Setting h ws k (board_of M ws (net k) h.shelves x) (changes_to h (afresh M xs net') k) (afresh M xs net')
    pub lines : (c : ℕ) (ls : List ChangeLine) → ls ≡ of_node c (board (changes_to h (afresh M xs net') k) c) → LinesOf c (board (changes_to h (afresh M xs net') k) c) ls
    pub fit : groups_fit M x h.shelves ≡ true
    pub new_is : board (afresh M xs net') k ≡ board_of M ws (net' k) (afresh M xs net') x
    pub node_is : get_or xs k d ≡ x

  pub at_node : ws ≡ widths M.shows [] xs → LawfulHolding h → length xs ≤ 16 → (moves : ℕ → Lines) → Ready M xs ws h moves net net' → k < length xs → (s : ℕ) (vs : List ℕ) → Some x ≡ slice_get xs k → Sound s vs k x
      → LowerNodes ws h (afresh M xs net') k → done ≡ flattened 0 (changes_to h (afresh M xs net') k) → length done ≤ 8192 → AtNode
  at_node same law few moves ready here s vs found sound lower are short =
      let is = found_at xs k x d here found in
      let sound' : Sound s vs k (get_or xs k d) = subst (Sound s vs k) (sym is) sound in
      let ready' = subst (λ w. Ready M xs w h moves net net') same ready in
      let lower' = subst (λ w. LowerNodes w h (afresh M xs net') k) same lower in
      let news = afresh M xs net' in
      let ds = changes_to h news k in
      record {
        setting = subst (λ y. Setting h ws k (board_of M ws (net k) h.shelves y) ds news) is (subst (λ w. Setting h w k (board_of M w (net k) h.shelves (get_or xs k d)) ds news) (sym same)
            (node_setting M xs h law moves net net' few ready' k here s vs d sound' lower'));
        lines = λ c ls. lines_of c ds done ls are short;
        fit = groups_fit_agree M k s vs h.shelves (afresh M xs net) x sound (λ i l. ready.boards i (omega arith)) ∙ ap (λ y. groups_fit M y (afresh M xs net)) (sym is) ∙ ready.fit k d here;
        new_is = new_board M xs h law moves net net' few ready' k here s vs d sound' ∙ ap₂ (λ w y. board_of M w (net' k) news y) (sym same) is;
        node_is = is;
      }

-- the plan is asked for the node by a number i that is the writer's
pub at_planned : {V : Type 0} (M : Measure V) (p : Plan) (h : Holding) (moves net net' : ℕ → Lines) (k : ℕ) (d : Node) (done : List ChangeLine) → p.shown ≡ M.shows → LawfulHolding h → Ready M (nodes_of p) (widths_of p) h moves net net' → k < length (nodes_of p)
    → LowerNodes (widths_of p) h (afresh M (nodes_of p) net') k → done ≡ flattened 0 (changes_to h (afresh M (nodes_of p) net') k) → length done ≤ 8192
    → (i : ℕ) (y x : Node) → i ≡ k → y ≡ x → Some y ≡ slice_get (nodes_of p) i → Sound p.shown (widths_of p) i y → AtNode M (nodes_of p) (widths_of p) h net net' k x d done × Sound p.shown (widths_of p) k x
at_planned M p h moves net net' k d done shown law ready here lower are short i y x same is found sound =
    let xs = nodes_of p in
    let ws = widths_of p in
    let sound' : Sound p.shown ws k x = subst (Sound p.shown ws k) is (subst (λ j. Sound p.shown ws j y) same sound) in
    (at_node M xs ws h net net' k x d done (ap (λ m. widths m [] xs) shown) law (few_nodes p) moves ready here p.shown ws (ap Some (sym is) ∙ found ∙ ap (slice_get xs) same) sound' lower are short, sound')

-- from the bag and the node as they were worked out to the board and the node of the plan
pub turned : {S V : Type 0} {meaning : S → Holding} {M : Measure V} {xs : List Node} {ws : List ℕ} {h : Holding} {net net' : ℕ → Lines} {k : ℕ} {x d : Node} {done : List ChangeLine} → AtNode M xs ws h net net' k x d done
    → (v w : ChangeWriter S) (r : Result (Unit {0}) NodeFault) → NodeChange meaning v w (board_of M ws (net' k) (afresh M xs net') x) (groups_fit M x (afresh M xs net')) r
    → NodeChange meaning v w (board (afresh M xs net') k) (groups_fit M (get_or xs k d) (afresh M xs net')) r
turned {meaning = meaning} {M = M} {xs = xs} {net' = net'} {k = k} {x = x} at v w r made =
    let news = afresh M xs net' in
    subst (λ y. NodeChange meaning v w (board news k) (groups_fit M y news) r) (sym at.node_is) (subst (λ b. NodeChange meaning v w b (groups_fit M x news) r) (sym at.new_is) made)

pub length_of_lines : (c : ℕ) (b : Lines) (ls : List ChangeLine) → LinesOf c b ls → length ls ≤ 8192
length_of_lines c b ls l = let e = ap length l.are ∙ length-map b (change_line c) in let f = l.few in omega (arith, e, f)
