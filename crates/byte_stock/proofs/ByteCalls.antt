-- What each way through a put and a take leaves in bytes. Assumes nothing.
--     left_over, left_more       a line of the row is there, and a put adds to it
--     taken_short .. taken_some  a line of the row is there, and a take removes from it
--     left_idle .. taken_idle    no line has the row
--     count_found, count_none    the count that a search tells
--     line_read, counted         the line that is read at a place, and the same with another count
use Rattle.std.proofs.Common.{◌≡◌, ℕ, ◌+◌, ◌-◌, ◌*◌, ◌<◌, ◌≤◌, List, [], ◌∷◌, ◌++◌, length, get_or, map, set, None, Some, Ok, Err, sym, refl, ap, ap₂, ◌∙◌, arith}
use Rattle.std.proofs.lemmas.List.{length-set, length_push, get_or-map}
use Rattle.std.proofs.ByRecursion.{All-get_or}
use Rattle.bag.specs.Order.{Row}
use Rattle.bag.specs.Lines.{blank_stock_line}
use Rattle.bag.specs.declared.lines.StockLine.{StockLine}
use Rattle.stock.specs.declared.fault.StockFault.TheVariants as faults
use Rattle.bag.specs.Refusal.{refusal}
use Rattle.bag.specs.Columns.{IsRow}
use Rattle.stock.specs.Holding.{LawfulLine, copies}
use Rattle.byte_stock.specs.ByteLines.{line_bytes, line_in, stored_in, capacity_in, laid, freed_bytes}
use Rattle.byte_stock.specs.ByteStored.{Stored, line_of, place_of, new_line, freed}
use Rattle.byte_stock.specs.ByteLawful.{copies_found, copies_none}
use Rattle.byte_stock.proofs.ByteSteps.{put_over, put_more, put_idle, put_full, put_new, take_short, take_all_copies, take_some, take_none, take_idle, length_freed}
use Rattle.byte_stock.proofs.ByteKept.{held_in, SoundLines, PutLeft, TakeLeft, length_stored, kept_in, left_from, left_same, found_at, found_none, bytes_set, bytes_push, bytes_freed}

pub line_read : (chunks : List (List ℕ)) (ls : Stored) (i : ℕ) → map line_in chunks ≡ ls → i < length chunks → line_in (get_or chunks i []) ≡ line_of ls i
line_read chunks ls i e h = sym (get_or-map line_in chunks i [] blank_stock_line h) ∙ ap (λ x. line_of x i) e

-- a line that was read, with another count
pub counted : (l k : StockLine) (m n : ℕ) → l ≡ k → m ≡ n → new_line l.shelf l.row m ≡ new_line k.shelf k.row n
counted l k m n e f = ap₂ (λ (x : StockLine) y. new_line x.shelf x.row y) e f

module _ (b : List ℕ) (len n : ℕ) (h : SoundLines b len) where
  -- the line at place i
  module _ (i : ℕ) (inside : i < len) where
    abbrev pub here : StockLine
    here = line_of (stored_in len b) i

    within : i < length (stored_in len b)
    within = let x = length_stored b len in omega arith

    lawful_here : LawfulLine here
    lawful_here = All-get_or LawfulLine (stored_in len b) i blank_stock_line within h.lawful

    pub left_over : 65535 < here.count + n → PutLeft b len here.shelf here.row n (Err (faults.Over here.shelf)) b len
    left_over g =
        left_same b (Err (faults.Over here.shelf)) len (Err (refusal 6 here.shelf)) h
        (put_over (capacity_in (length b)) here.shelf here.row n (stored_in len b) (kept_in b len h) lawful_here.shelf i within refl refl g) refl

    pub taken_short : here.count < n → TakeLeft b len here.shelf here.row n (Err (faults.Short here.shelf)) b len
    taken_short g =
        left_same b (Err (faults.Short here.shelf)) len (Err (refusal 5 here.shelf)) h
        (take_short (capacity_in (length b)) here.shelf here.row n (stored_in len b) (kept_in b len h) lawful_here.shelf i within refl refl g) refl

    pub left_more : (d : List ℕ) → here.count + n ≤ 65535 → d ≡ laid b (35 * i) (line_bytes (new_line here.shelf here.row (here.count + n))) → length d ≡ length b → PutLeft b len here.shelf here.row n (Ok tt) d len
    left_more d g e l =
        let ls = stored_in len b in
        let k = new_line here.shelf here.row (here.count + n) in
        let some = lawful_here.some in
        left_from b (Ok tt) d len (set ls i k) (Ok tt)
        (put_more (capacity_in (length b)) here.shelf here.row n ls (kept_in b len h) lawful_here.shelf i within refl refl lawful_here.row g) refl l
        (e ∙ bytes_set b ls i k h.lawful (record { shelf = lawful_here.shelf; row = lawful_here.row; some = omega arith; most = g }) within h.whole)
        (sym (length-set ls i k ∙ length_stored b len))

    pub taken_some : (d : List ℕ) → n < here.count → d ≡ laid b (35 * i) (line_bytes (new_line here.shelf here.row (here.count - n))) → length d ≡ length b → TakeLeft b len here.shelf here.row n (Ok tt) d len
    taken_some d g e l =
        let ls = stored_in len b in
        let k = new_line here.shelf here.row (here.count - n) in
        let most = lawful_here.most in
        left_from b (Ok tt) d len (set ls i k) (Ok tt)
        (take_some (capacity_in (length b)) here.shelf here.row n ls (kept_in b len h) lawful_here.shelf i within refl refl lawful_here.row g) refl l
        (e ∙ bytes_set b ls i k h.lawful (record { shelf = lawful_here.shelf; row = lawful_here.row; some = omega arith; most = omega arith }) within h.whole)
        (sym (length-set ls i k ∙ length_stored b len))

    pub taken_all : (d : List ℕ) → here.count ≡ n → d ≡ freed_bytes b i len → length d ≡ length b → TakeLeft b len here.shelf here.row n (Ok tt) d (len - 1)
    taken_all d g e l =
        let ls = stored_in len b in
        let x = length_stored b len in
        left_from b (Ok tt) d (len - 1) (freed i ls) (Ok tt)
        (take_all_copies (capacity_in (length b)) here.shelf here.row n ls (kept_in b len h) lawful_here.shelf i within refl refl g) refl l
        (e ∙ bytes_freed b len i h inside)
        (let y = length_freed ls i within in omega arith)

  -- no line has the row
  module _ (s : ℕ) (r : Row) (p : place_of s r (stored_in len b) ≡ None) where
    pub left_idle : s ≤ 15 → n ≡ 0 → PutLeft b len s r n (Ok tt) b len
    left_idle small g = left_same b (Ok tt) len (Ok tt) h (put_idle (capacity_in (length b)) s r n (stored_in len b) (kept_in b len h) small (found_none s r (stored_in len b) p) g) refl

    pub left_full : s ≤ 15 → (c : ℕ) → c ≡ capacity_in (length b) → n ≤ 65535 → 0 < n → c ≤ len → PutLeft b len s r n (Err (faults.Room c)) b len
    left_full small c e most g w =
        let x = length_stored b len in
        let y = h.room in
        left_same b (Err (faults.Room c)) len (Err (refusal 9 (capacity_in (length b)))) h
        (put_full (capacity_in (length b)) s r n (stored_in len b) (kept_in b len h) small (found_none s r (stored_in len b) p) most g (omega arith))
        (ap (λ z. Err (refusal 9 z)) e)

    pub left_new : s ≤ 15 → IsRow r → (d : List ℕ) → n ≤ 65535 → 0 < n → len < capacity_in (length b) → d ≡ laid b (35 * len) (line_bytes (new_line s r n)) → length d ≡ length b → PutLeft b len s r n (Ok tt) d (len + 1)
    left_new small q d most g w e l =
        let ls = stored_in len b in
        let x = length_stored b len in
        left_from b (Ok tt) d (len + 1) (ls ++ new_line s r n ∷ []) (Ok tt)
        (put_new (capacity_in (length b)) s r n ls (kept_in b len h) small (found_none s r ls p) q most g (omega arith)) refl l
        (e ∙ ap (λ z. laid b (35 * z) (line_bytes (new_line s r n))) (sym x) ∙ bytes_push b ls (new_line s r n) h.lawful (record { shelf = small; row = q; some = g; most = most }) (omega arith) h.whole)
        (let y = length_push ls (new_line s r n) in omega arith)

    pub taken_none : s ≤ 15 → 0 < n → TakeLeft b len s r n (Err (faults.Short s)) b len
    taken_none small g = left_same b (Err (faults.Short s)) len (Err (refusal 5 s)) h (take_none (capacity_in (length b)) s r n (stored_in len b) (kept_in b len h) small (found_none s r (stored_in len b) p) g) refl

    pub taken_idle : s ≤ 15 → n ≡ 0 → TakeLeft b len s r n (Ok tt) b len
    taken_idle small g = left_same b (Ok tt) len (Ok tt) h (take_idle (capacity_in (length b)) s r n (stored_in len b) (kept_in b len h) small (found_none s r (stored_in len b) p) g) refl

module _ (b : List ℕ) (len s : ℕ) (r : Row) (h : SoundLines b len) where
  pub count_found : (i : ℕ) → place_of s r (stored_in len b) ≡ Some i → copies (held_in b len) s r ≡ (line_of (stored_in len b) i).count
  count_found i p =
      let w = found_at s r (stored_in len b) i p in
      copies_found (capacity_in (length b)) (stored_in len b) h.lawful h.apart s r i w.inside w.shelf w.row

  pub count_none : place_of s r (stored_in len b) ≡ None → copies (held_in b len) s r ≡ 0
  count_none p = copies_none (capacity_in (length b)) (stored_in len b) h.lawful h.apart s r (found_none s r (stored_in len b) p)
