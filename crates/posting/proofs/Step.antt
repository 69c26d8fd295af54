-- One node more is worked out. Assumes nothing.
--     judged_on, judged_off      what is answered at a node decides with the nodes behind it the judgement of all of them
--     node_more      where nothing is refused, all that is owed of the node is known, and its lines stand on the sheet
use Rattle.std.proofs.Common.{◌≡◌, ℕ, zero, suc, ◌+◌, ◌<◌, ◌≤◌, Bool, true, false, cond, leb, List, [], ◌∷◌, ◌++◌, length, get_or, Ok, Err, Result, sym, refl, ap, ◌∙◌, subst, ap₂, ⊎_elim, arith}
use Rattle.std.proofs.lemmas.List.{get_or_append_left, get_or_at}
use Rattle.std.proofs.lemmas.Bool.{cases_lt}
use Rattle.bag.specs.declared.lines.ChangeLine.{ChangeLine}
use Rattle.bag.specs.Bag.{Lines, IsBag, EachRow, difference}
use Rattle.bag.specs.Measure.{Measure, MeasureLaws}
use Rattle.bag.proofs.LeastChange.{difference_changes}
use Rattle.bag.proofs.LineCounts.{length_most}
use Rattle.stock.specs.Holding.{Holding, LawfulHolding, shelf_of}
use Rattle.plan.specs.declared.node.Node.{Node}
use Rattle.plan.specs.Lawful.{width, widths}
use Rattle.plan.specs.Sound.{Sound, Handed}
use Rattle.plan.specs.Afresh.{board, board_of, afresh}
use Rattle.delta.specs.NodeChange.{counts_fit, LawfulRow, LowerNode}
use Rattle.delta.proofs.Finished.{old_counts}
use Rattle.delta_groups.proofs.TotalFinished.{lines_most}
use Rattle.posting.specs.declared.fault.WorkFault.{WorkFault}
use Rattle.posting.specs.declared.fault.WorkFault.TheVariants as work
use Rattle.posting.specs.Working.{groups_fit, judged_from, Ready}
use Rattle.posting.specs.Changes.{changes_to, Reached, step_answer, Step}
use Rattle.posting.proofs.AfreshAt.{afresh_long}
use Rattle.posting.proofs.NodeRows.{LowerBoard, node_bag, node_rows}
use Rattle.posting.proofs.NodeSetting.{groups_fit_agree, old_board, new_board}
use Rattle.posting.proofs.Runs.{changes_long, changes_more, board_short}

module _ {V : Type 0} {ok : V → Type 0} (M : Measure V) (L : MeasureLaws ok M) (xs : List Node) (h : Holding) (law : LawfulHolding h) (moves net net' : ℕ → Lines) (few : length xs ≤ 16)
    (ready : Ready M xs (widths M.shows [] xs) h moves net net') (k : ℕ) (here : k < length xs) (d : Node) (sound : Sound M.shows (widths M.shows [] xs) k (get_or xs k d)) (handed : Handed M.shows (widths M.shows [] xs) k (get_or xs k d))
    (wide : get_or (widths M.shows [] xs) k 0 ≡ width M.shows (widths M.shows [] xs) (get_or xs k d))
    (room : ℕ) (sheet : List ChangeLine) (used : ℕ) (reached : Reached (widths M.shows [] xs) h (afresh M xs net') k room sheet used) where
  abbrev ws : List ℕ
  ws = widths M.shows [] xs

  abbrev news : List Lines
  news = afresh M xs net'

  abbrev x : Node
  x = get_or xs k d

  old_lower : (i : ℕ) → i < k → LowerBoard (get_or ws i 0) (shelf_of h i)
  old_lower i l =
      let short = lines_most h.shelves i in
      let fits = law.room in
      let small = law.small in
      record { bag = law.bags i; rows = (reached.lower i l).old_rows; counts = old_counts h law i; short = omega arith }

  new_lower : (i : ℕ) → i < k → LowerBoard (get_or ws i 0) (board news i)
  new_lower i l =
      let c = (reached.lower i l).changes in
      let ds = changes_to h news k in
      let short = lines_most h.shelves i in
      let fits = law.room in
      let small = law.small in
      let most = length_most (shelf_of h i) (board ds i) (board news i) c.old_bag.0 c.in_order c.new_bag.0 c.moves in
      let lines = board_short 0 ds i in
      let enough = reached.lines.room_enough in
      let page = reached.lines.on_sheet.small in
      record { bag = c.new_bag; rows = (reached.lower i l).new_rows; counts = (reached.lower i l).counts; short = omega arith }

  new_bag : IsBag (board news k)
  new_bag =
      subst IsBag (sym (new_board M xs h law moves net net' few ready k here M.shows ws d sound))
      (node_bag M L ws news k M.shows ws x sound (λ i l. (reached.lower i l).changes.new_bag) (net' k) (λ b. (ready.bases k d here b).changes.new_bag))

  old_rows : EachRow (LawfulRow (get_or ws k 0)) (shelf_of h k)
  old_rows =
      let fit = groups_fit_agree M k M.shows ws h.shelves (afresh M xs net) x sound (λ i l. ready.boards i (omega arith)) ∙ ready.fit k d here in
      subst (EachRow (LawfulRow (get_or ws k 0))) (sym (old_board M xs h law moves net net' few ready k here M.shows ws d sound))
      (subst (λ w. EachRow (LawfulRow w) (board_of M ws (net k) h.shelves x)) (sym wide)
      (node_rows M L ws h.shelves k x sound handed old_lower (net k) (λ b. subst (λ w. EachRow (LawfulRow w) (net k)) wide (ready.bases k d here b).old_rows) fit))

  new_rows : groups_fit M x news ≡ true → EachRow (LawfulRow (get_or ws k 0)) (board news k)
  new_rows fit =
      subst (EachRow (LawfulRow (get_or ws k 0))) (sym (new_board M xs h law moves net net' few ready k here M.shows ws d sound))
      (subst (λ w. EachRow (LawfulRow w) (board_of M ws (net' k) news x)) (sym wide)
      (node_rows M L ws news k x sound handed new_lower (net' k) (λ b. subst (λ w. EachRow (LawfulRow w) (net' k)) wide (ready.bases k d here b).new_rows) fit))

  long : length news ≡ length xs
  long = afresh_long M xs net'

  more : changes_to h news (k + 1) ≡ changes_to h news k ++ (difference (shelf_of h k) (board news k) ∷ [])
  more = let l = long in changes_more h news law.sixteen (omega arith) k (omega arith)

  count_here : length (changes_to h news k) ≡ k
  count_here = let l = long in changes_long h news law.sixteen (omega arith) k (omega arith)

  -- where neither is refused
  taken : (r : Result ℕ WorkFault) → r ≡ step_answer M h.shelves news room used k x → (n : ℕ) → r ≡ Ok n → (counts_fit (board news k) ≡ true) × (groups_fit M x news ≡ true)
  taken r answer n e = by (counts_fit (board news k)) refl (groups_fit M x news) refl (sym answer ∙ e)
    where
      by : (a : Bool) → counts_fit (board news k) ≡ a → (b : Bool) → groups_fit M x news ≡ b
          → cond a (cond b (cond (leb (used + length (difference (shelf_of h k) (board news k))) room) (Ok (used + length (difference (shelf_of h k) (board news k)))) (Err (work.Paper k))) (Err (work.Wide k))) (Err (work.Over k)) ≡ Ok n
          → (counts_fit (board news k) ≡ true) × (groups_fit M x news ≡ true)
      by true p true q f = (p, q)
      by true p false q f = absurd (let z : ◌≡◌ {A = ℕ} 0 1 = cc in let y : ⊥ = omega arith in y)
      by false p b q f = absurd (let z : ◌≡◌ {A = ℕ} 0 1 = cc in let y : ⊥ = omega arith in y)

  lower_more : counts_fit (board news k) ≡ true → groups_fit M x news ≡ true → (i : ℕ) → i < k + 1 → LowerNode (get_or ws i 0) (shelf_of h i) (board (changes_to h news (k + 1)) i) (board news i)
  lower_more counts fits i l = ⊎_elim below at_k (cases_lt i k)
    where
      below : i < k → LowerNode (get_or ws i 0) (shelf_of h i) (board (changes_to h news (k + 1)) i) (board news i)
      below m =
          let c = count_here in
          subst (λ b. LowerNode (get_or ws i 0) (shelf_of h i) b (board news i))
          (sym (ap (λ t. board t i) more ∙ get_or_append_left (changes_to h news k) (difference (shelf_of h k) (board news k) ∷ []) [] i (omega arith))) (reached.lower i m)

      here_is : LowerNode (get_or ws k 0) (shelf_of h k) (board (changes_to h news (k + 1)) k) (board news k)
      here_is =
          subst (λ b. LowerNode (get_or ws k 0) (shelf_of h k) b (board news k))
          (sym (ap (λ t. board t k) more ∙ get_or_at (changes_to h news k) (difference (shelf_of h k) (board news k)) [] [] k count_here))
          (record { changes = difference_changes (shelf_of h k) (board news k) (law.bags k) new_bag; counts = counts; old_rows = old_rows; new_rows = new_rows fits })

      at_k : k ≤ i → LowerNode (get_or ws i 0) (shelf_of h i) (board (changes_to h news (k + 1)) i) (board news i)
      at_k m = let e : i ≡ k = omega arith in subst (λ j. LowerNode (get_or ws j 0) (shelf_of h j) (board (changes_to h news (k + 1)) j) (board news j)) (sym e) here_is

  pub node_more : (sheet' : List ChangeLine) (r : Result ℕ WorkFault) → Step M h news room used k x sheet' r → (n : ℕ) → r ≡ Ok n → Reached (widths M.shows [] xs) h news (k + 1) room sheet' n
  node_more sheet' r made n e = let t = taken r made.answer n e in record { lower = lower_more t.0 t.1; lines = made.lines n e }

module _ {V : Type 0} (M : Measure V) (old new : List Lines) (room used k : ℕ) (x : Node) (xs : List Node) where
  pub judged_on : (n : ℕ) → Ok n ≡ step_answer M old new room used k x → judged_from M old new room k used (x ∷ xs) ≡ judged_from M old new room (k + 1) n xs
  unfolding judged_from
  judged_on n e = by (counts_fit (board new k)) (groups_fit M x new) (leb (used + length (difference (board old k) (board new k))) room) e
    where
      s : suc k ≡ k + 1
      s = omega arith

      by : (a b c : Bool) → Ok n ≡ cond a (cond b (cond c (Ok (used + length (difference (board old k) (board new k)))) (Err (work.Paper k))) (Err (work.Wide k))) (Err (work.Over k))
          → cond a (cond b (cond c (judged_from M old new room (suc k) (used + length (difference (board old k) (board new k))) xs) (Err (work.Paper k))) (Err (work.Wide k))) (Err (work.Over k)) ≡ judged_from M old new room (k + 1) n xs
      by true true true f = ap₂ (λ i m. judged_from M old new room i m xs) s (same f)
        where
          same : ◌≡◌ {A = Result ℕ WorkFault} (Ok n) (Ok (used + length (difference (board old k) (board new k)))) → used + length (difference (board old k) (board new k)) ≡ n
          same f = cc
      by true true false f = absurd (let z : ◌≡◌ {A = ℕ} 0 1 = cc in let y : ⊥ = omega arith in y)
      by true false c f = absurd (let z : ◌≡◌ {A = ℕ} 0 1 = cc in let y : ⊥ = omega arith in y)
      by false b c f = absurd (let z : ◌≡◌ {A = ℕ} 0 1 = cc in let y : ⊥ = omega arith in y)

  pub judged_off : (f : WorkFault) → Err f ≡ step_answer M old new room used k x → judged_from M old new room k used (x ∷ xs) ≡ Err f
  unfolding judged_from
  judged_off f e = by (counts_fit (board new k)) (groups_fit M x new) (leb (used + length (difference (board old k) (board new k))) room) e
    where
      again : {g : WorkFault} → ◌≡◌ {A = Result ℕ WorkFault} (Err f) (Err g) → ◌≡◌ {A = Result ℕ WorkFault} (Err g) (Err f)
      again e = sym e

      by : (a b c : Bool) → Err f ≡ cond a (cond b (cond c (Ok (used + length (difference (board old k) (board new k)))) (Err (work.Paper k))) (Err (work.Wide k))) (Err (work.Over k))
          → cond a (cond b (cond c (judged_from M old new room (suc k) (used + length (difference (board old k) (board new k))) xs) (Err (work.Paper k))) (Err (work.Wide k))) (Err (work.Over k)) ≡ Err f
      by true true true g = absurd (let z : ◌≡◌ {A = ℕ} 0 1 = cc in let y : ⊥ = omega arith in y)
      by true true false g = again g
      by true false c g = again g
      by false b c g = again g
