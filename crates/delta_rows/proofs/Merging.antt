-- The lines of the turns of a merge, written one by one. Assumes nothing.
--     left_in merge               the turns that are left in a merge
--     turns_written f ts          the lines that f makes of turns, without those of 0
--     Merging f P v whole w done merge     of the turns `whole`, w, which was v, has written those that are done, and the others are left
--                                 in the merge, if P holds of all turns
--     merging_none, merging_more  none is done; one more is
--     merging_stopped             the line of the next turn brings its row to too many copies
--     merging_all                 all are done
use Rattle.std.proofs.Common.{◌≡◌, List, [], ◌∷◌, ◌++◌, ℤ, sym, ap, ◌∙◌, subst}
use Rattle.std.specs.List.{AllByRecursion}
use Rattle.std.proofs.lemmas.List.{append_assoc, append-nil, map-append}
use Rattle.bag.specs.Order.{Row}
use Rattle.bag.specs.Bag.{Lines, with_line}
use Rattle.stock.specs.Holding.{Holding}
use Rattle.delta.specs.declared.fault.NodeFault.{NodeFault}
use Rattle.delta.specs.declared.writer.ChangeWriter.{ChangeWriter}
use Rattle.delta.specs.Writing.{SameTask, Written, TooMany, without_zeros}
use Rattle.delta.proofs.Steps.{same_itself, same_then, front_too_many}
use Rattle.delta.proofs.Zeros.{without-++, without_last}
use Rattle.delta_rows.specs.declared.merge.Merge.{Merge}
use Rattle.delta_rows.specs.declared.merge.Turn.{Turn}
use Rattle.delta_rows.specs.Merges.{turns}
use Rattle.delta_rows.proofs.Merged.{turn_line, turn_lines}

abbrev pub left_in : Merge → List Turn
left_in merge = turns merge.left.now merge.right.now

all_at : (P : Turn → Type 0) (done left : List Turn) (t : Turn) → AllByRecursion P (done ++ t ∷ left) → P t
all_at P [] left t h = h.0
all_at P (s ∷ done) left t h = all_at P done left t h.1

module _ (f : Row → ℤ → ℤ → ℤ) where
  abbrev pub turns_written : List Turn → Lines
  turns_written ts = without_zeros (turn_lines f ts)

  written_last : (done : List Turn) (t : Turn) → turns_written done ++ with_line t.row (f t.row t.left t.right) [] ≡ turns_written (done ++ t ∷ [])
  written_last done t = sym (ap without_zeros (map-append (turn_line f) done (t ∷ [])) ∙ without_last (turn_lines f done) (turn_line f t))

  written_rest : (done left : List Turn) → turns_written done ++ turns_written left ≡ turns_written (done ++ left)
  written_rest done left = sym (ap without_zeros (map-append (turn_line f) done left) ∙ without-++ (turn_lines f done) (turn_lines f left))

module _ {S : Type 0} (meaning : S → Holding) (f : Row → ℤ → ℤ → ℤ) (P : Turn → Type 0) (v : ChangeWriter S) (whole : List Turn) where
  pub record Merging (w : ChangeWriter S) (done : List Turn) (merge : Merge) : Type 0 where
    pub same : SameTask v w
    pub all : done ++ left_in merge ≡ whole
    pub written : AllByRecursion P whole → Written meaning v [] → Written meaning w (turns_written f done)

  pub merging_none : (merge : Merge) → left_in merge ≡ whole → Merging v [] merge
  unfolding without_zeros
  merging_none merge e = record { same = same_itself v; all = e; written = λ p was. was }

  module _ (u : ChangeWriter S) (done : List Turn) (merge after : Merge) (t : Turn) (n : ℤ) (was : Merging u done merge) (next : left_in merge ≡ t ∷ left_in after) (is : P t → n ≡ f t.row t.left t.right) where
    behind : (done ++ t ∷ []) ++ left_in after ≡ whole
    behind = append_assoc done (t ∷ []) (left_in after) ∙ ap (λ x. done ++ x) (sym next) ∙ was.all

    line : AllByRecursion P whole → turns_written f done ++ with_line t.row n [] ≡ turns_written f (done ++ t ∷ [])
    line p = ap (λ z. turns_written f done ++ with_line t.row z []) (is (all_at P done (left_in after) t (subst (AllByRecursion P) (sym (ap (λ x. done ++ x) (sym next) ∙ was.all)) p))) ∙ written_last f done t

    pub merging_more : (w : ChangeWriter S) → SameTask u w → ((d : Lines) → Written meaning u d → Written meaning w (d ++ with_line t.row n [])) → Merging w (done ++ t ∷ []) after
    merging_more w same put =
        record {
          same = same_then v u w was.same same;
          all = behind;
          written = λ p none. subst (Written meaning w) (line p) (put (turns_written f done) (was.written p none));
        }

    pub merging_stopped : (e : NodeFault) → ((d : Lines) → Written meaning u d → TooMany meaning u (d ++ with_line t.row n []) e) → AllByRecursion P whole → Written meaning v [] → TooMany meaning v (turns_written f whole) e
    merging_stopped e put p none =
        front_too_many meaning v u (turns_written f (done ++ t ∷ [])) (turns_written f (left_in after)) (turns_written f whole) e was.same (written_rest f (done ++ t ∷ []) (left_in after) ∙ ap (turns_written f) behind)
        (subst (λ d. TooMany meaning u d e) (line p) (put (turns_written f done) (was.written p none)))

  pub merging_all : (w : ChangeWriter S) (done : List Turn) (merge : Merge) → Merging w done merge → left_in merge ≡ [] → AllByRecursion P whole → Written meaning v [] → Written meaning w (turns_written f whole)
  merging_all w done merge was e p none = subst (λ d. Written meaning w (turns_written f d)) (sym (append-nil done) ∙ ap (λ x. done ++ x) (sym e) ∙ was.all) (was.written p none)
