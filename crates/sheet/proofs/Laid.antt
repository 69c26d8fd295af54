-- Lines laid on a sheet one behind the other, and read there again. Assumes nothing.
--     on_more, on_full      a line more, where there is room for it and where there is none
--     stands_at             the lines that fit stand where they stand in the list
--     run_long, read_run    how long a run is, and a line of it read on the sheet
--     flattened_more        the change of one node more
--     blank_is_laid         a blank sheet has no line
--     laid_fits             lines that fit, and blanks behind
--     page_none             nor has a blank page
--     page_more, page_full, page_lost      a line more on a page, where there is place for it, none for it, and none any more
--     told_fits, told_lost  lines that are told fit the page, and others do not
use Rattle.std.proofs.Common.{◌≡◌, ℕ, suc, Bool, true, false, cond, Some, None, Option, nat_le, ◌+◌, ◌-◌, ◌<◌, ◌≤◌, min, List, [], ◌∷◌, ◌++◌, length, get_or, take, drop, set, replicate, sym, refl, ap, ◌∙◌, ap₂, arith}
use Rattle.std.proofs.lemmas.List.{append_assoc, append-nil, length-append, length-map, length-set, length-take, length-drop, take_all, take-append-le, set-append_right, get_or_append_left, get_or-take, get_or-drop, get_or-map}
use Rattle.std.proofs.lemmas.Bool.{leb-true, le-leb}
use Rattle.std.proofs.lemmas.Bool.Decides.{leb_tells}
use Rattle.bag.specs.declared.lines.ChangeLine.{ChangeLine}
use Rattle.bag.specs.Bag.{Line, Lines}
use Rattle.bag.specs.Lines.{blank_change_line}
use Rattle.sheet.specs.Sheets.{change_line, of_node, flattened, laid, lines_told, OnSheet, OnPage, RunOf}

one_longer : (es : List ChangeLine) (l : ChangeLine) → length (es ++ (l ∷ [])) ≡ suc (length es)
one_longer es l = length-append es (l ∷ []) ∙ omega arith

-- where the lines fit
pub laid_fits : (len room : ℕ) (es : List ChangeLine) → length es ≤ room → laid len room es ≡ es ++ replicate (len - length es) blank_change_line
unfolding laid
laid_fits len room es h =
    let m : min room (length es) ≡ length es = omega arith in
    ap₂ (λ a k. a ++ replicate (len - k) blank_change_line) (take_all room es h) m

laid_more : (len room : ℕ) (es : List ChangeLine) (l : ChangeLine) → length es < room → room ≤ len → set (laid len room es) (length es) l ≡ laid len room (es ++ (l ∷ []))
laid_more len room es l h f =
    let one = one_longer es l in
    let k : len - length es ≡ suc (len - suc (length es)) = omega arith in
    let z : length es - length es ≡ 0 = omega arith in
    ap (λ t. set t (length es) l) (laid_fits len room es (omega arith) ∙ ap (λ n. es ++ replicate n blank_change_line) k)
    ∙ set-append_right es (replicate (suc (len - suc (length es))) blank_change_line) (length es) (length es) l refl (omega arith)
    ∙ ap (λ n. es ++ set (replicate (suc (len - suc (length es))) blank_change_line) n l) z
    ∙ sym (append_assoc es (l ∷ []) (replicate (len - suc (length es)) blank_change_line))
    ∙ sym (laid_fits len room (es ++ (l ∷ [])) (omega arith) ∙ ap (λ n. (es ++ (l ∷ [])) ++ replicate (len - n) blank_change_line) one)

laid_full : (len room : ℕ) (es : List ChangeLine) (l : ChangeLine) → room ≤ length es → laid len room (es ++ (l ∷ [])) ≡ laid len room es
unfolding laid
laid_full len room es l h =
    let one = one_longer es l in
    let m : min room (length (es ++ (l ∷ []))) ≡ min room (length es) = omega arith in
    ap₂ (λ a k. a ++ replicate (len - k) blank_change_line) (take-append-le room es (l ∷ []) h) m

module _ (room : ℕ) (sheet : List ChangeLine) (used : ℕ) (es : List ChangeLine) (l : ChangeLine) where
  pub on_more : OnSheet room sheet used es → used < room → OnSheet room (set sheet used l) (used + 1) (es ++ (l ∷ []))
  on_more o h =
      let one = one_longer es l in
      let m = o.many in
      let w = o.within in
      let long : length (set sheet used l) ≡ length sheet = length-set sheet used l in
      let same : used ≡ length es = omega arith in
      record {
        within = omega arith;
        small = o.small;
        many = omega arith;
        are =
            ap (λ x. set x used l) o.are ∙ ap (λ k. set (laid (length sheet) room es) k l) same
            ∙ laid_more (length sheet) room es l (omega arith) w ∙ ap (λ n. laid n room (es ++ (l ∷ []))) (sym long);
      }

  -- no room: the number stops at one more than there is
  pub on_full : (n : ℕ) → OnSheet room sheet used es → room ≤ used → n ≡ suc room → OnSheet room sheet n (es ++ (l ∷ []))
  on_full n o h e =
      let one = one_longer es l in
      let m = o.many in
      record {
        within = o.within;
        small = o.small;
        many = omega arith;
        are = o.are ∙ sym (laid_full (length sheet) room es l (omega arith));
      }

-- what stands first on the sheet
pub stands_at : (room : ℕ) (sheet : List ChangeLine) (used : ℕ) (es more : List ChangeLine) (i : ℕ) (d : ChangeLine) → OnSheet room sheet used (es ++ more) → length es ≤ room → i < length es →
    get_or sheet i d ≡ get_or es i d
unfolding laid
stands_at room sheet used es more i d o f h =
    let long = length-append es more in
    let front : i < length (take room (es ++ more)) = let t = length-take room (es ++ more) in omega arith in
    ap (λ t. get_or t i d) o.are
    ∙ get_or_append_left (take room (es ++ more)) (replicate (length sheet - min room (length (es ++ more))) blank_change_line) d i front
    ∙ get_or-take room (es ++ more) i d (omega arith)
    ∙ get_or_append_left es more d i h

-- how long a run is
pub run_long : (es : List ChangeLine) (from to c : ℕ) (d : Lines) → RunOf es from to c d → length d ≡ to - from
run_long es from to c d r =
    let a = r.ascends in
    let b = r.inside in
    let l = sym (length-map d (change_line c)) ∙ ap length (sym r.holds) in
    let t = length-take (to - from) (drop from es) in
    let e = length-drop from es in
    omega arith

-- a line of a run, read on the sheet
pub read_run : (room : ℕ) (sheet : List ChangeLine) (used : ℕ) (es more : List ChangeLine) (from to c : ℕ) (d : Lines) (i : ℕ) (l : ChangeLine) (e : Line) →
    OnSheet room sheet used (es ++ more) → length es ≤ room → RunOf es from to c d → i < length d → get_or sheet (from + i) l ≡ change_line c (get_or d i e)
read_run room sheet used es more from to c d i l e o f r h =
    let a = r.ascends in
    let b = r.inside in
    let long = run_long es from to c d r in
    let below : i < to - from = omega arith in
    stands_at room sheet used es more (from + i) l o f (omega arith)
    ∙ sym (get_or-drop from es i l) ∙ sym (get_or-take (to - from) (drop from es) i l below) ∙ ap (λ t. get_or t i l) r.holds ∙ get_or-map (change_line c) d i e l h

pub blank_is_laid : (room : ℕ) (sheet : List ChangeLine) → room ≤ length sheet → room ≤ 8192 → sheet ≡ replicate (length sheet) blank_change_line → OnSheet room sheet 0 []
blank_is_laid room sheet w s e =
    let z : length sheet - 0 ≡ length sheet = omega arith in
    record {
      within = w;
      small = s;
      many = omega arith;
      are = e ∙ sym (laid_fits (length sheet) room [] (omega arith) ∙ ap (λ n. replicate n blank_change_line) z);
    }

pub flattened_more : (k : ℕ) (ds : List Lines) (d : Lines) → flattened k (ds ++ (d ∷ [])) ≡ flattened k ds ++ of_node (k + length ds) d
unfolding flattened
flattened_more k [] d = let z : k ≡ k + 0 = omega arith in append-nil (of_node k d) ∙ ap (λ n. of_node n d) z
flattened_more k (x ∷ ds) d =
    let z : suc k + length ds ≡ k + suc (length ds) = omega arith in
    ap (λ t. of_node k x ++ t) (flattened_more (suc k) ds d ∙ ap (λ n. flattened (suc k) ds ++ of_node n d) z) ∙ sym (append_assoc (of_node k x) (flattened (suc k) ds) (of_node (k + suc (length ds)) d))

-- what a page tells
pub told_fits : (places used : ℕ) (es : List ChangeLine) → Some used ≡ lines_told places es → (length es ≤ places) × (used ≡ length es)
told_fits places used es e = by (nat_le (length es) places) refl e
  where
    by : (b : Bool) → nat_le (length es) places ≡ b → Some used ≡ cond b (Some (length es)) None → (length es ≤ places) × (used ≡ length es)
    by true t f = (leb-true (length es) places t, inner f)
      where
        inner : ◌≡◌ {A = Option ℕ} (Some used) (Some (length es)) → used ≡ length es
        inner g = cc
    by false t f = absurd (let z : ◌≡◌ {A = ℕ} 0 1 = cc in let y : ⊥ = omega arith in y)

told_some : (places : ℕ) (es : List ChangeLine) (n : ℕ) → n ≡ length es → length es ≤ places → Some n ≡ lines_told places es
told_some places es n e h = ap Some e ∙ sym (ap (λ b. cond b (Some (length es)) None) (le-leb (length es) places h))

too_many : (n places : ℕ) → places < n → nat_le n places ≡ false
too_many n places h = grind (arith, leb_tells n places)

told_none : (places : ℕ) (es : List ChangeLine) → places < length es → None ≡ lines_told places es
told_none places es h = sym (ap (λ b. cond b (Some (length es)) None) (too_many (length es) places h))

lost_by : (n places : ℕ) (b : Bool) → nat_le n places ≡ b → None ≡ cond b (Some n) None → places < n
lost_by n places true e f = absurd (let z : ◌≡◌ {A = ℕ} 0 1 = cc in let y : ⊥ = omega arith in y)
lost_by n places false e f = grind (arith, leb_tells n places, e)

pub told_lost : (places : ℕ) (es : List ChangeLine) → None ≡ lines_told places es → places < length es
told_lost places es e = lost_by (length es) places (nat_le (length es) places) refl e

module _ (page : List ChangeLine) (es : List ChangeLine) (l : ChangeLine) where
  pub page_more : (used : ℕ) → OnPage page (Some used) es → used < length page → OnPage (set page used l) (Some (used + 1)) (es ++ (l ∷ []))
  page_more used o h =
      let t = told_fits (length page) used es o.told in
      let f : length es < length page = omega (arith, t.0, t.1, h) in
      let long : length (set page used l) ≡ length page = length-set page used l in
      let one = one_longer es l in
      record {
        are =
            ap (λ x. set x used l) o.are ∙ ap (λ k. set (laid (length page) (length page) es) k l) t.1
            ∙ laid_more (length page) (length page) es l f (omega arith) ∙ ap (λ n. laid n n (es ++ (l ∷ []))) (sym long);
        told = told_some (length (set page used l)) (es ++ (l ∷ [])) (used + 1) (omega (arith, t.1, one)) (omega (arith, one, long, f));
      }

  pub page_full : (used : ℕ) → OnPage page (Some used) es → length page ≤ used → OnPage page None (es ++ (l ∷ []))
  page_full used o h =
      let t = told_fits (length page) used es o.told in
      let one = one_longer es l in
      let f : length page ≤ length es = omega (arith, t.1, h) in
      record {
        are = o.are ∙ sym (laid_full (length page) (length page) es l f);
        told = told_none (length page) (es ++ (l ∷ [])) (omega (arith, one, f));
      }

  pub page_lost : OnPage page None es → OnPage page None (es ++ (l ∷ []))
  page_lost o =
      let f = lost_by (length es) (length page) (nat_le (length es) (length page)) refl o.told in
      let one = one_longer es l in
      record {
        are = o.are ∙ sym (laid_full (length page) (length page) es l (omega (arith, f)));
        told = told_none (length page) (es ++ (l ∷ [])) (omega (arith, one, f));
      }

pub page_none : (page : List ChangeLine) → page ≡ replicate (length page) blank_change_line → OnPage page (Some 0) []
page_none page e =
    let z : length page - 0 ≡ length page = omega arith in
    record {
      are = e ∙ sym (laid_fits (length page) (length page) [] (omega arith) ∙ ap (λ n. replicate n blank_change_line) z);
      told = told_some (length page) [] 0 refl (omega arith);
    }
