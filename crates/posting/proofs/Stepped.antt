-- From the page of a node to the sheet of all nodes up to it. Assumes nothing.
--     Split, split_here      where the sheet is split: the lines of the nodes below in front, and a blank page behind
--     step_off, step_on      what is answered and what stands on the sheet, told from the node's page
use Rattle.std.proofs.Common.{◌≡◌, ℕ, ◌+◌, ◌-◌, ◌<◌, ◌≤◌, Bool, true, false, cond, leb, List, [], ◌++◌, length, take, drop, min, replicate, Ok, Err, Result, sym, refl, ap, ◌∙◌, subst, ap₂, arith}
use Rattle.std.proofs.lemmas.List.{length-replicate, append-nil, take_all, drop_all}
use Rattle.std.proofs.lemmas.Bool.Decides.{leb_tells}
use Rattle.bag.specs.declared.lines.ChangeLine.{ChangeLine}
use Rattle.bag.specs.Lines.{blank_change_line}
use Rattle.bag.specs.Bag.{Lines, difference}
use Rattle.bag.specs.Measure.{Measure}
use Rattle.stock.specs.Holding.{Holding, shelf_of}
use Rattle.plan.specs.declared.node.Node.{Node}
use Rattle.plan.specs.Afresh.{board}
use Rattle.sheet.specs.Sheets.{of_node, flattened, OnSheet}
use Rattle.sheet.proofs.Laid.{flattened_more}
use Rattle.delta.specs.NodeChange.{counts_fit}
use Rattle.posting.specs.declared.fault.WorkFault.{WorkFault}
use Rattle.posting.specs.declared.fault.WorkFault.TheVariants as work
use Rattle.posting.specs.Working.{groups_fit}
use Rattle.posting.specs.Changes.{changes_to, OnlyChanges, page_answer, PageStep, step_answer, Step}
use Rattle.posting.proofs.Runs.{changes_long, changes_more}
use Rattle.posting.proofs.Pages.{many_lines, done_is, page_is, page_filled}

-- an answer of a page, as one of the sheet
pub behind : ℕ → Result ℕ WorkFault → Result ℕ WorkFault
behind used (Ok n) = Ok (used + n)
behind used (Err f) = Err f

same_test : (used n room : ℕ) → used ≤ room → leb (used + n) room ≡ leb n (room - used)
same_test used n room h = grind (arith, leb_tells (used + n) room, leb_tells n (room - used), h)

-- the front and the back of a sheet that is split behind its used lines
pub record Split (h : Holding) (news : List Lines) (k used at : ℕ) (sheet front back : List ChangeLine) : Type 0 where
  pub behind_used : at ≡ used
  pub done : front ≡ flattened 0 (changes_to h news k)
  pub short : length front ≤ 8192
  pub left : length back ≡ length sheet - used
  pub blank : back ≡ replicate (length back) blank_change_line

module _ {V : Type 0} (M : Measure V) (h : Holding) (news : List Lines) (sixteen : length h.shelves ≡ 16) (few : length news ≤ 16) (sheet : List ChangeLine) (used k : ℕ) (here : k < length news) (x : Node)
    (lines : OnlyChanges h news k (length sheet) sheet used) where
  abbrev es : List ChangeLine
  es = flattened 0 (changes_to h news k)

  abbrev d : Lines
  d = difference (shelf_of h k) (board news k)

  used_is : used ≡ length es
  used_is = many_lines (length sheet) sheet used es lines.on_sheet lines.room_enough

  module _ (at : ℕ) (cut : at ≡ min used (length sheet)) where
    used_at : at ≡ used
    used_at = let e = lines.room_enough in let u = used_is in omega (arith, e, u, cut)

    whole : take (length sheet) sheet ≡ sheet
    whole = take_all (length sheet) sheet (omega arith)

    done_lines : take at sheet ≡ es
    done_lines = ap₂ (λ (n : ℕ) (t : List ChangeLine). take n t) used_at (sym whole) ∙ done_is (length sheet) sheet used es lines.on_sheet lines.room_enough

    done_short : length (take at sheet) ≤ 8192
    done_short = let e = lines.room_enough in let s = lines.on_sheet.small in let l = ap length done_lines in omega (arith, e, s, l)

    page_as_left : drop at sheet ≡ replicate (length sheet - length es) blank_change_line
    page_as_left = ap₂ (λ (n : ℕ) (t : List ChangeLine). drop n t) used_at (sym whole) ∙ page_is (length sheet) sheet used es lines.on_sheet lines.room_enough

    page_long : length (drop at sheet) ≡ length sheet - used
    page_long = let l = ap length page_as_left ∙ length-replicate (length sheet - length es) blank_change_line in let u = used_is in omega (arith, l, u)

    page_blank : drop at sheet ≡ replicate (length (drop at sheet)) blank_change_line
    page_blank = let l = ap length page_as_left ∙ length-replicate (length sheet - length es) blank_change_line in page_as_left ∙ ap (λ n. replicate n blank_change_line) (sym l)

    pub split_here : (front back : List ChangeLine) → front ≡ take at sheet → back ≡ drop at sheet → Split h news k used at sheet front back
    split_here front back f b = record {
      behind_used = used_at;
      done = f ∙ done_lines;
      short = subst (λ t. length t ≤ 8192) (sym f) done_short;
      left = ap length b ∙ page_long;
      blank = subst (λ t. t ≡ replicate (length t) blank_change_line) (sym b) page_blank;
    }

  answers : step_answer M h.shelves news (length sheet) used k x ≡ behind used (page_answer M h.shelves news (length sheet - used) k x)
  unfolding behind
  answers =
      let e = lines.room_enough in
      let u = used_is in
      ap (λ t. cond (counts_fit (board news k)) (cond (groups_fit M x news) (cond t (Ok (used + length d)) (Err (work.Paper k))) (Err (work.Wide k))) (Err (work.Over k))) (same_test used (length d) (length sheet) (omega (arith, e, u)))
      ∙ by (counts_fit (board news k)) (groups_fit M x news) (leb (length d) (length sheet - used))
    where
      by : (a b c : Bool) → cond a (cond b (cond c (Ok (used + length d)) (Err (work.Paper k))) (Err (work.Wide k))) (Err (work.Over k)) ≡ behind used (cond a (cond b (cond c (Ok (length d)) (Err (work.Paper k))) (Err (work.Wide k))) (Err (work.Over k)))
      by true true true = refl
      by true true false = refl
      by true false c = refl
      by false b c = refl

  module _ (page : List ChangeLine) (long : length page ≡ length sheet - used) where
    told : (r : Result ℕ WorkFault) → PageStep M h news k x page r → behind used r ≡ step_answer M h.shelves news (length sheet) used k x
    told r made = ap (behind used) (made.answer ∙ ap (λ n. page_answer M h.shelves news n k x) long) ∙ sym answers

    pub step_off : (f : WorkFault) → PageStep M h news k x page (Err f) → (sheet' : List ChangeLine) → Step M h news (length sheet) used k x sheet' (Err f)
    unfolding behind
    step_off f made sheet' = record { answer = told (Err f) made; lines = λ n e. absurd (let y : ⊥ = never n e in y) }
      where
        never : (n : ℕ) → ◌≡◌ {A = Result ℕ WorkFault} (Err f) (Ok n) → ⊥
        never n e = cc

    pub step_on : (n : ℕ) → PageStep M h news k x page (Ok n) → (sheet' : List ChangeLine) → sheet' ≡ es ++ page → Step M h news (length sheet) used k x sheet' (Ok (used + n))
    unfolding behind
    step_on n made sheet' are =
        let u = used_is in
        let none : drop (length sheet) sheet ≡ [] = drop_all (length sheet) sheet (omega arith) in
        let whole : sheet' ≡ (es ++ page) ++ drop (length sheet) sheet = are ∙ sym (ap (λ t. (es ++ page) ++ t) none ∙ append-nil (es ++ page)) in
        let put = page_filled (length sheet) sheet used es lines.on_sheet lines.room_enough page n (of_node k d) (omega (arith, long, u)) (made.lines n refl) in
        let more : es ++ of_node k d ≡ flattened 0 (changes_to h news (k + 1)) =
        ap (λ i. es ++ of_node i d) (let z : k ≡ 0 + length (changes_to h news k) = (let c = changes_long h news sixteen few k (omega arith) in omega (arith, c)) in z)
        ∙ sym (flattened_more 0 (changes_to h news k) d) ∙ ap (flattened 0) (sym (changes_more h news sixteen few k here)) in
        record {
          answer = told (Ok n) made;
          lines = λ m q. subst (λ i. OnlyChanges h news (k + 1) (length sheet) sheet' i) (same_number m q)
              (record {
                on_sheet = subst (λ s. OnSheet (length sheet) s (used + n) (flattened 0 (changes_to h news (k + 1)))) (sym whole) (subst (λ t. OnSheet (length sheet) ((es ++ page) ++ drop (length sheet) sheet) (used + n) t) more put.2);
                room_enough = subst (λ t. length t ≤ length sheet) more put.0;
              });
        }
      where
        same_number : (m : ℕ) → ◌≡◌ {A = Result ℕ WorkFault} (Ok (used + n)) (Ok m) → used + n ≡ m
        same_number m q = cc
