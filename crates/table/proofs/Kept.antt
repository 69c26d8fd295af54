-- What replacing, inserting and removing by place make of a sound run. Assumes nothing.
--     holds_from_whole         a run that is xs with blanks behind holds xs
--     sound_from_holds         a run that holds an ascending list is sound
--     replaced, inserted, removed      what the run holds afterwards
--     add_replaces, add_inserts, remove_closes, remove_leaves      the same, from what the search answered
--     unchanged                a table stands over its own run
--     accepts_present, accepts_room, refuses_full      what `add` answers
--     goes_in                  an absent key goes in among the entries or behind them
use Rattle.std.proofs.Common.{◌≡◌, ℕ, suc, ◌+◌, ◌-◌, ◌<◌, ◌≤◌, min, List, ◌∷◌, ◌++◌, length, take, drop, set, replicate, Some, None, Ok, Err, false, Ordering, sym, refl, ap, ◌∙◌, subst, ⊎_elim, arith}
use Rattle.std.proofs.lemmas.List.{length-set, length-take-le, length-append, length-replicate, length-take, length-drop, take-take, take_at, drop_at, take_all, drop-drop, drop-replicate, set-append_left}
use Rattle.std.proofs.lemmas.Bool.{cases_lt, eq-eqb, ne_eqb}
use Rattle.table.specs.Order.{Lawful}
use Rattle.table.specs.Entries.{Ascending, has_key, smaller, looked_up, with_entry, without_key}
use Rattle.table.specs.Refusals.{full_at}
use Rattle.table.specs.Runs.{opened, closed}
use Rattle.table.specs.declared.entry.Entry.{Ghosts}
use Rattle.table.specs.declared.table.Table.{Table}
use Rattle.table.specs.Tables.{HoldsRun, SoundRun, SameRun, add_answer}
use Rattle.table.proofs.Located.{AbsentAt, present, absent, present_from, absent_from}
use Rattle.table.proofs.Searched.{found, missing}
use Rattle.table.proofs.Ascends.{ascending_with, ascending_without}

pub take_min : {E : Type 0} (n : ℕ) (run : List E) → take (min n (length run)) run ≡ take n run
take_min n run =
    ⊎_elim (λ (h : n < length run). let q : min n (length run) ≡ n = omega arith in ap (λ k. take k run) q)
    (λ (h : length run ≤ n). let q : min n (length run) ≡ length run = omega arith in ap (λ k. take k run) q ∙ take_all (length run) run (omega arith) ∙ sym (take_all n run h))
    (cases_lt n (length run))

module _ {E : Type 0} (blank : E) where
  pub holds_from_whole : (run : List E) (len : ℕ) (xs : List E) (m : ℕ) → run ≡ xs ++ replicate m blank → len ≡ length xs → HoldsRun blank run len xs
  holds_from_whole run len xs m q l =
      let long : length run ≡ length xs + m = ap length q ∙ length-append xs (replicate m blank) ∙ ap (λ n. length xs + n) (length-replicate m blank) in
      let n : m ≡ length run - length xs = omega arith in
      record {
        entries = ap (take len) q ∙ take_at xs (replicate m blank) len (sym l);
        count = l;
        whole = q ∙ ap (λ n. xs ++ replicate n blank) n;
      }

  module _ (order : E → E → Ordering) where
    pub sound_from_holds : (run : List E) (len : ℕ) (xs : List E) → HoldsRun blank run len xs → Ascending order xs → SoundRun order blank run len
    sound_from_holds run len xs h up =
        let long : length run ≡ length xs + (length run - length xs) = ap length h.whole ∙ length-append xs (replicate (length run - length xs) blank) ∙ ap (λ n. length xs + n) (length-replicate (length run - length xs) blank) in
        let l = h.count in
        record {
          within = omega arith;
          ascending = subst (Ascending order) (sym h.entries) up;
          whole = h.whole ∙ ap (λ n. xs ++ replicate (length run - n) blank) (sym h.count) ∙ ap (λ ys. ys ++ replicate (length run - len) blank) (sym h.entries);
        }

    pub holds_from_sound : (run : List E) (len : ℕ) → SoundRun order blank run len → HoldsRun blank run len (take len run)
    holds_from_sound run len s = holds_from_whole run len (take len run) (length run - len) s.whole (sym (length-take-le len run s.within))

    module _ (run : List E) (len : ℕ) (s : SoundRun order blank run len) (k : E) (i : ℕ) where
      rest : drop len run ≡ replicate (length run - len) blank
      rest = ap (drop len) s.whole ∙ drop_at (take len run) (replicate (length run - len) blank) len (length-take-le len run s.within)

      pub replaced : i < len → with_entry order k (take len run) ≡ set (take len run) i k → HoldsRun blank (set run i k) len (with_entry order k (take len run))
      replaced lt q =
          let l = length-take-le len run s.within in
          holds_from_whole (set run i k) len (with_entry order k (take len run)) (length run - len)
          (ap (λ ys. set ys i k) s.whole ∙ set-append_left (take len run) (replicate (length run - len) blank) i k (omega arith) ∙ ap (λ ys. ys ++ replicate (length run - len) blank) (sym q))
          (sym (ap length q ∙ length-set (take len run) i k ∙ l))

      pub inserted : (after : List E) → i ≤ len → len < length run → with_entry order k (take len run) ≡ take i (take len run) ++ (k ∷ drop i (take len run)) → after ≡ opened run i len k → HoldsRun blank after (len + 1) (with_entry order k (take len run))
      inserted after le room q o =
          let xs = take len run in
          let l = length-take-le len run s.within in
          let one : len + 1 ≡ suc len = omega arith in
          let m : (length run - len) - 1 ≡ length run - suc len = omega arith in
          let first : take i run ≡ take i xs = sym (take-take i len run le) in
          let behind : drop (suc len) run ≡ replicate (length run - suc len) blank =
          ap (λ n. drop n run) (sym one) ∙ sym (drop-drop 1 len run) ∙ ap (drop 1) rest ∙ drop-replicate 1 (length run - len) blank ∙ ap (λ n. replicate n blank) m in
          holds_from_whole after (len + 1) (with_entry order k xs) (length run - suc len)
          (o ∙ ap (λ ys. (ys ++ (k ∷ drop i xs)) ++ drop (suc len) run) first ∙ ap (λ ys. (take i xs ++ (k ∷ drop i xs)) ++ ys) behind ∙ ap (λ ys. ys ++ replicate (length run - suc len) blank) (sym q))
          (sym (ap length q ∙ simp (length-append, length-take, length-drop) (omega arith)))

      pub removed : (after : List E) → i < len → without_key order k (take len run) ≡ take i (take len run) ++ drop (suc i) (take len run) → after ≡ closed run i len blank → HoldsRun blank after (len - 1) (without_key order k (take len run))
      removed after lt q o =
          let xs = take len run in
          let l = length-take-le len run s.within in
          let le : i ≤ len = omega arith in
          let first : take i run ≡ take i xs = sym (take-take i len run le) in
          holds_from_whole after (len - 1) (without_key order k xs) (suc (length run - len))
          (o ∙ ap (λ ys. (ys ++ drop (suc i) xs) ++ (blank ∷ drop len run)) first ∙ ap (λ ys. (take i xs ++ drop (suc i) xs) ++ (blank ∷ ys)) rest ∙ ap (λ ys. ys ++ (blank ∷ replicate (length run - len) blank)) (sym q))
          (sym (ap length q ∙ simp (length-append, length-take, length-drop) (omega arith)))

pub unchanged : {E : Type 0} {g : Ghosts E} (t : Table E g) → SameRun t t
unchanged t = record { lender = refl; long = refl }

-- what a call leaves, from what its search answered
module _ {E : Type 0} {order : E → E → Ordering} (law : Lawful order) (blank : E) (run : List E) (len : ℕ) (s : SoundRun order blank run len) (k : E) where
  pub add_replaces : (i : ℕ) → Ok i ≡ looked_up order k (take len run) → HoldsRun blank (set run i k) len (with_entry order k (take len run))
  add_replaces i q =
      let p = present_from order law k (take len run) i s.ascending (found order k (take len run) i q) in
      let l = length-take-le len run s.within in
      let w = p.within in
      replaced blank order run len s k i (omega arith) (present order k (take len run) i p).added

  pub add_inserts : (i : ℕ) (after : List E) → Err i ≡ looked_up order k (take len run) → (len ≡ length run → ⊥) → after ≡ opened run i len k → HoldsRun blank after (len + 1) (with_entry order k (take len run))
  add_inserts i after q room o =
      let m = missing order k (take len run) i q in
      let a = subst (AbsentAt order k (take len run)) (sym m.count) (absent_from order law k (take len run) s.ascending m.place) in
      let l = length-take-le len run s.within in
      let w = a.within in
      let v = s.within in
      inserted blank order run len s k i after (omega arith) (omega arith) (absent order k (take len run) i a).added o

  pub remove_closes : (i : ℕ) (after : List E) → Ok i ≡ looked_up order k (take len run) → after ≡ closed run i len blank → HoldsRun blank after (len - 1) (without_key order k (take len run))
  remove_closes i after q o =
      let p = present_from order law k (take len run) i s.ascending (found order k (take len run) i q) in
      let l = length-take-le len run s.within in
      let w = p.within in
      removed blank order run len s k i after (omega arith) (present order k (take len run) i p).removed o

  pub remove_leaves : (i : ℕ) → Err i ≡ looked_up order k (take len run) → HoldsRun blank run len (without_key order k (take len run))
  remove_leaves i q =
      let a = absent_from order law k (take len run) s.ascending (missing order k (take len run) i q).place in
      subst (HoldsRun blank run len) (sym (absent order k (take len run) (smaller order k (take len run)) a).removed) (holds_from_sound blank order run len s)

  pub sound_with : (after : List E) (n : ℕ) → HoldsRun blank after n (with_entry order k (take len run)) → SoundRun order blank after n
  sound_with after n h = sound_from_holds blank order after n (with_entry order k (take len run)) h (ascending_with order law k (take len run) s.ascending)

  pub sound_without : (after : List E) (n : ℕ) → HoldsRun blank after n (without_key order k (take len run)) → SoundRun order blank after n
  sound_without after n h = sound_from_holds blank order after n (without_key order k (take len run)) h (ascending_without order k (take len run) s.ascending)

-- what `add` answers, from what its search answered
module _ {E : Type 0} {order : E → E → Ordering} (law : Lawful order) (n : ℕ) (k : E) (xs : List E) (up : Ascending order xs) where
  pub accepts_present : (i : ℕ) → Ok i ≡ looked_up order k xs → None ≡ add_answer order n k xs
  accepts_present i q = let h = (present order k xs i (present_from order law k xs i up (found order k xs i q))).has in rw h

  pub goes_in : (i : ℕ) → Err i ≡ looked_up order k xs → i ≤ length xs
  goes_in i q =
      let m = missing order k xs i q in
      let count = m.count in
      let within = (absent_from order law k xs up m.place).within in
      omega arith

  no_key : (i : ℕ) → Err i ≡ looked_up order k xs → has_key order k xs ≡ false
  no_key i q = (absent order k xs (smaller order k xs) (absent_from order law k xs up (missing order k xs i q).place)).has

  pub accepts_room : (i : ℕ) → Err i ≡ looked_up order k xs → (length xs ≡ n → ⊥) → None ≡ add_answer order n k xs
  accepts_room i q room = let h = no_key i q in rw (h, ne_eqb (length xs) n room)

  pub refuses_full : (i m : ℕ) → Err i ≡ looked_up order k xs → m ≡ length xs → m ≡ n → Some (full_at m) ≡ add_answer order n k xs
  refuses_full i m q count full = let h = no_key i q in ap (λ j. Some (full_at j)) full ∙ rw (h, eq-eqb (length xs) n (sym count ∙ full))
