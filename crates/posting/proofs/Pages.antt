-- A sheet in three parts: the lines that stand on it, the page that is left for the next node, and what lies past its room. Assumes nothing.
--     many_lines       how many lines a sheet has that has room for all of them
--     done_is          the front of the sheet has the lines
--     page_is          the page behind them is blank
--     cut_blank        the part of a blank sheet that may be used is blank
--     uncut            what stands on that part stands on the whole sheet
--     page_filled      what is written on the page stands on the sheet behind the lines
use Rattle.std.proofs.Common.{◌≡◌, ℕ, ◌+◌, ◌-◌, ◌≤◌, min, List, [], ◌++◌, length, take, drop, replicate, Some, sym, ap, ◌∙◌, subst, ap₂, arith}
use Rattle.std.proofs.lemmas.List.{append_assoc, length-append, length-replicate, length-take-le, take-replicate}
use Rattle.std.proofs.Math.Seq.{take-append-add, drop-append-add, drop-append_seam, take-append_seam}
use Rattle.std.proofs.lemmas.List.{drop-replicate, replicate-append-replicate}
use Rattle.bag.specs.declared.lines.ChangeLine.{ChangeLine}
use Rattle.bag.specs.Lines.{blank_change_line}
use Rattle.sheet.specs.Sheets.{laid, OnSheet, OnPage}
use Rattle.sheet.proofs.Laid.{laid_fits, told_fits, blank_is_laid}

module _ (room : ℕ) (sheet : List ChangeLine) (used : ℕ) (es : List ChangeLine) (on : OnSheet room sheet used es) (enough : length es ≤ room) where
  pub many_lines : used ≡ length es
  many_lines = let m = on.many in omega (arith, m, enough)

  -- the whole sheet: the lines, the page, and what lies past the room
  parts : sheet ≡ es ++ replicate ((room - length es) + (length sheet - room)) blank_change_line
  parts =
      let w = on.within in
      let n : length sheet - length es ≡ (room - length es) + (length sheet - room) = omega (arith, w, enough) in
      on.are ∙ laid_fits (length sheet) room es enough ∙ ap (λ m. es ++ replicate m blank_change_line) n

  front : take room sheet ≡ es ++ replicate (room - length es) blank_change_line
  front =
      let n : room ≡ length es + (room - length es) = omega (arith, enough) in
      ap₂ (λ (m : ℕ) (t : List ChangeLine). take m t) n parts
      ∙ take-append-add es (replicate ((room - length es) + (length sheet - room)) blank_change_line) (room - length es)
      ∙ ap (λ t. es ++ t) (take-replicate (room - length es) ((room - length es) + (length sheet - room)) blank_change_line (omega arith))

  past : drop room sheet ≡ replicate (length sheet - room) blank_change_line
  past =
      let n : room ≡ length es + (room - length es) = omega (arith, enough) in
      let k : ((room - length es) + (length sheet - room)) - (room - length es) ≡ length sheet - room = omega arith in
      ap₂ (λ (m : ℕ) (t : List ChangeLine). drop m t) n parts
      ∙ drop-append-add es (replicate ((room - length es) + (length sheet - room)) blank_change_line) (room - length es)
      ∙ drop-replicate (room - length es) ((room - length es) + (length sheet - room)) blank_change_line
      ∙ ap (λ m. replicate m blank_change_line) k

  pub done_is : take used (take room sheet) ≡ es
  done_is = ap₂ (λ (m : ℕ) (t : List ChangeLine). take m t) many_lines front ∙ take-append_seam es (replicate (room - length es) blank_change_line)

  pub page_is : drop used (take room sheet) ≡ replicate (room - length es) blank_change_line
  page_is = ap₂ (λ (m : ℕ) (t : List ChangeLine). drop m t) many_lines front ∙ drop-append_seam es (replicate (room - length es) blank_change_line)

  pub page_filled : (page : List ChangeLine) (lines : ℕ) (ls : List ChangeLine) → length page ≡ room - length es → OnPage page (Some lines) ls
      → (length (es ++ ls) ≤ room) × (used + lines ≡ length (es ++ ls)) × OnSheet room ((es ++ page) ++ drop room sheet) (used + lines) (es ++ ls)
  page_filled page lines ls long p =
      let t = told_fits (length page) lines ls p.told in
      let w = on.within in
      let u = many_lines in
      let all = length-append es ls in
      let fits : length (es ++ ls) ≤ room = omega (arith, all, t.0, long, enough) in
      let count : used + lines ≡ length (es ++ ls) = omega (arith, all, t.1, u) in
      let whole : length ((es ++ page) ++ drop room sheet) ≡ length sheet =
      length-append (es ++ page) (drop room sheet) ∙ (let a = length-append es page in let b = ap length past ∙ length-replicate (length sheet - room) blank_change_line in omega (arith, a, b, long, enough, w)) in
      let page_are : page ≡ ls ++ replicate (length page - length ls) blank_change_line = p.are ∙ laid_fits (length page) (length page) ls t.0 in
      let blanks : (length page - length ls) + (length sheet - room) ≡ length sheet - length (es ++ ls) = omega (arith, all, t.0, long, enough, w) in
      let are : (es ++ page) ++ drop room sheet ≡ (es ++ ls) ++ replicate (length sheet - length (es ++ ls)) blank_change_line =
      ap₂ (λ a b. (es ++ a) ++ b) page_are past
      ∙ ap (λ a. a ++ replicate (length sheet - room) blank_change_line) (sym (append_assoc es ls (replicate (length page - length ls) blank_change_line)))
      ∙ append_assoc (es ++ ls) (replicate (length page - length ls) blank_change_line) (replicate (length sheet - room) blank_change_line)
      ∙ ap (λ a. (es ++ ls) ++ a) (replicate-append-replicate (length page - length ls) (length sheet - room) blank_change_line ∙ ap (λ m. replicate m blank_change_line) blanks) in (
        fits,
        count,
        record {
          within = omega (arith, whole, w);
          small = on.small;
          many = omega (arith, count, fits);
          are = are ∙ sym (laid_fits (length sheet) room (es ++ ls) fits) ∙ ap (λ n. laid n room (es ++ ls)) (sym whole);
        },
      )

pub cut_blank : (room : ℕ) (sheet : List ChangeLine) → OnSheet room sheet 0 [] → OnSheet (length (take room sheet)) (take room sheet) 0 []
cut_blank room sheet on =
    let w = on.within in
    let long : length (take room sheet) ≡ room = length-take-le room sheet w in
    let none : room - length {A = ChangeLine} [] ≡ length (take room sheet) = omega (arith, long) in
    let small = on.small in
    blank_is_laid (length (take room sheet)) (take room sheet) (omega arith) (omega (arith, long, small)) (front room sheet 0 [] on (omega arith) ∙ ap (λ n. replicate n blank_change_line) none)

pub uncut : (room : ℕ) (sheet cut : List ChangeLine) (used : ℕ) (es : List ChangeLine) → OnSheet room sheet 0 [] → length cut ≡ room → OnSheet (length cut) cut used es → OnSheet room (cut ++ drop room sheet) used es
unfolding laid
uncut room sheet cut used es on long put =
    let w = on.within in
    let small = on.small in
    let rest = past room sheet 0 [] on (omega arith) in
    let r = ap length rest ∙ length-replicate (length sheet - room) blank_change_line in
    let whole : length (cut ++ drop room sheet) ≡ length sheet = length-append cut (drop room sheet) ∙ omega (arith, r, long, w) in
    let on_cut : OnSheet room cut used es = subst (λ n. OnSheet n cut used es) long put in
    let n : (length cut - min room (length es)) + (length sheet - room) ≡ length sheet - min room (length es) = omega (arith, long, w) in
    record {
      within = omega (arith, whole, w);
      small = small;
      many = on_cut.many;
      are =
          ap₂ (λ a b. a ++ b) on_cut.are rest
          ∙ append_assoc (take room es) (replicate (length cut - min room (length es)) blank_change_line) (replicate (length sheet - room) blank_change_line)
          ∙ ap (λ t. take room es ++ t) (replicate-append-replicate (length cut - min room (length es)) (length sheet - room) blank_change_line)
          ∙ ap (λ m. take room es ++ replicate m blank_change_line) (n ∙ ap (λ m. m - min room (length es)) (sym whole));
    }
