-- One node more of a checked plan is worked out. Assumes nothing.
--     plan_more      where it was accepted, the node belongs to those that are worked out
--     judged_more, judged_refused      and what is left decides the judgement of all; where it was refused, that is the judgement
--     reached_none, reached_all      before the first node, and behind the last
--     refused_so     a refusal leaves nothing to be said of the sheet
use Rattle.std.proofs.Common.{◌≡◌, ℕ, ◌+◌, ◌<◌, ◌≤◌, List, [], ◌∷◌, length, get_or, take, drop, Some, Ok, Err, Option, Result, sym, ap, ◌∙◌, subst, arith}
use Rattle.std.proofs.lemmas.List.{take_all, drop_all, drop_more}
use Rattle.std.proofs.lemmas.Option.{slice_get-get_or}
use Rattle.bag.specs.declared.lines.ChangeLine.{ChangeLine}
use Rattle.bag.specs.Bag.{Lines}
use Rattle.bag.specs.Measure.{Measure, MeasureLaws}
use Rattle.stock.specs.Holding.{Holding, LawfulHolding}
use Rattle.plan.specs.declared.node.Node.{Node}
use Rattle.plan.specs.declared.node.Node.TheVariants.{Base}
use Rattle.plan.specs.declared.plan.Plan.{Plan}
use Rattle.plan.specs.Lawful.{width, widths}
use Rattle.plan.specs.Sound.{Sound, Handed}
use Rattle.plan.specs.Afresh.{afresh}
use Rattle.plan.specs.Plans.{nodes_of, widths_of}
use Rattle.plan.proofs.Growth.{widths_length}
use Rattle.plan.proofs.Sounds.{sound_at, handed_at, wide_at}
use Rattle.sheet.specs.Sheets.{flattened, OnSheet}
use Rattle.settling.specs.Boards.{differences}
use Rattle.posting.specs.declared.fault.WorkFault.{WorkFault}
use Rattle.posting.specs.Working.{judged_from, judged, Ready, Worked}
use Rattle.posting.specs.Changes.{Reached, Step}
use Rattle.posting.proofs.AfreshAt.{afresh_long}
use Rattle.posting.proofs.Runs.{differences_long}
use Rattle.posting.proofs.Step.{node_more, judged_on, judged_off}

abbrev first : Node
first = Base 0

module _ {V : Type 0} {ok : V → Type 0} (M : Measure V) (L : MeasureLaws ok M) (p : Plan) (shown : p.shown ≡ M.shows) (h : Holding) (law : LawfulHolding h) (moves net net' : ℕ → Lines) (few : length (nodes_of p) ≤ 16)
    (ready : Ready M (nodes_of p) (widths_of p) h moves net net') (k : ℕ) (here : k < length (nodes_of p)) (room : ℕ) (sheet : List ChangeLine) (used : ℕ) (reached : Reached (widths_of p) h (afresh M (nodes_of p) net') k room sheet used) where
  abbrev xs : List Node
  xs = nodes_of p

  same : widths_of p ≡ widths M.shows [] xs
  same = ap (λ n. widths n [] xs) shown

  ready' : Ready M xs (widths M.shows [] xs) h moves net net'
  ready' = subst (λ w. Ready M xs w h moves net net') same ready

  reached' : Reached (widths M.shows [] xs) h (afresh M xs net') k room sheet used
  reached' = subst (λ w. Reached w h (afresh M xs net') k room sheet used) same reached

  sound : Sound M.shows (widths M.shows [] xs) k (get_or xs k first)
  sound = subst (λ n. Sound n (widths n [] xs) k (get_or xs k first)) shown (sound_at p.shown xs p.lawful k here first)

  handed : Handed M.shows (widths M.shows [] xs) k (get_or xs k first)
  handed = subst (λ n. Handed n (widths n [] xs) k (get_or xs k first)) shown (handed_at p.shown xs p.lawful k here first)

  wide : get_or (widths M.shows [] xs) k 0 ≡ width M.shows (widths M.shows [] xs) (get_or xs k first)
  wide =
      let l = widths_length p.shown [] xs in
      subst (λ n. get_or (widths n [] xs) k 0 ≡ width n (widths n [] xs) (get_or xs k first)) shown
      (some_same (get_or (widths p.shown [] xs) k 0) (width p.shown (widths p.shown [] xs) (get_or xs k first)) (sym (slice_get-get_or (widths p.shown [] xs) k 0 (omega arith)) ∙ wide_at p.shown xs p.lawful k here first))
    where
      some_same : (a b : ℕ) → ◌≡◌ {A = Option ℕ} (Some a) (Some b) → a ≡ b
      some_same a b e = cc

  pub plan_more : (sheet' : List ChangeLine) (r : Result ℕ WorkFault) → Step M h (afresh M xs net') room used k (get_or xs k first) sheet' r → (n : ℕ) → r ≡ Ok n → Reached (widths_of p) h (afresh M xs net') (k + 1) room sheet' n
  plan_more sheet' r made n e =
      subst (λ w. Reached w h (afresh M xs net') (k + 1) room sheet' n) (sym same) (node_more M L xs h law moves net net' few ready' k here first sound handed wide room sheet used reached' sheet' r made n e)

module _ {V : Type 0} (M : Measure V) (xs : List Node) (ws : List ℕ) (h : Holding) (net' : ℕ → Lines) (room : ℕ) (sheet : List ChangeLine) where
  pub reached_none : OnSheet room sheet 0 [] → Reached ws h (afresh M xs net') 0 room sheet 0
  unfolding flattened
  reached_none on = record { lower = λ i l. absurd (let y : ⊥ = omega arith in y); lines = record { on_sheet = on; room_enough = omega arith } }

  pub reached_all : (used k : ℕ) → k ≡ length xs → length h.shelves ≡ 16 → length xs ≤ 16 → Reached ws h (afresh M xs net') k room sheet used →
      judged_from M h.shelves (afresh M xs net') room k used (drop k xs) ≡ judged M h.shelves (afresh M xs net') room xs → Worked M xs h net' room sheet (Ok used)
  unfolding judged_from
  reached_all used k f sixteen few reached j =
      let long = afresh_long M xs net' in
      let d = differences_long h.shelves (afresh M xs net') in
      let all : take k (differences h.shelves (afresh M xs net')) ≡ differences h.shelves (afresh M xs net') = take_all k (differences h.shelves (afresh M xs net')) (omega arith) in
      let none : drop k xs ≡ [] = drop_all k xs (omega arith) in
      record {
        answer = sym (ap (judged_from M h.shelves (afresh M xs net') room k used) none) ∙ j;
        on_sheet = λ n same. subst (λ m. OnSheet room sheet m (flattened 0 (differences h.shelves (afresh M xs net')))) (ok_same used n same) (subst (λ t. OnSheet room sheet used (flattened 0 t)) all reached.lines.on_sheet);
      }
    where
      ok_same : (a b : ℕ) → ◌≡◌ {A = Result ℕ WorkFault} (Ok a) (Ok b) → a ≡ b
      ok_same a b e = cc

  pub refused_so : (f : WorkFault) → judged M h.shelves (afresh M xs net') room xs ≡ Err f → Worked M xs h net' room sheet (Err f)
  refused_so f j =
      record {
        answer = sym j;
        on_sheet = λ n same. absurd (never n same);
      }
    where
      never : (n : ℕ) → ◌≡◌ {A = Result ℕ WorkFault} (Err f) (Ok n) → ⊥
      never n e = let z : ◌≡◌ {A = ℕ} 0 1 = cc in omega arith

module _ {V : Type 0} (M : Measure V) (xs : List Node) (h : Holding) (net' : ℕ → Lines) (room used k : ℕ) (here : k < length xs) (sheet' : List ChangeLine) where
  abbrev news : List Lines
  news = afresh M xs net'

  next : judged_from M h.shelves news room k used (drop k xs) ≡ judged_from M h.shelves news room k used (get_or xs k first ∷ drop (k + 1) xs)
  next = ap (judged_from M h.shelves news room k used) (drop_more xs k first here)

  pub judged_more : (n : ℕ) → Step M h news room used k (get_or xs k first) sheet' (Ok n) → judged_from M h.shelves news room k used (drop k xs) ≡ judged_from M h.shelves news room (k + 1) n (drop (k + 1) xs)
  judged_more n made = next ∙ judged_on M h.shelves news room used k (get_or xs k first) (drop (k + 1) xs) n made.answer

  pub judged_refused : (f : WorkFault) → Step M h news room used k (get_or xs k first) sheet' (Err f) → judged_from M h.shelves news room k used (drop k xs) ≡ judged M h.shelves news room xs → Worked M xs h net' room sheet' (Err f)
  judged_refused f made all = refused_so M xs [] h net' room sheet' f (sym all ∙ next ∙ judged_off M h.shelves news room used k (get_or xs k first) (drop (k + 1) xs) f made.answer)
