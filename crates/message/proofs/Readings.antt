-- A message read from the cursor's place on: at each step it is at its end, refused, or one record further.
use Rattle.std.proofs.Common.{◌≡◌, ℕ, zero, suc, ◌+◌, ◌-◌, ◌<◌, ◌≤◌, ◌⊎◌, List, [], ◌∷◌, length, drop, Some, None, Ok, Err, Option, Result, sym, refl, ap, ◌∙◌, inl, inr, ⊎_elim, arith, length-append, length-drop}
use Rattle.std.proofs.lemmas.List.{drop_all, drop-drop}
use Rattle.std.proofs.lemmas.Bool.{le-leb, lt-leb, cases_lt}
use Rattle.message.specs.declared.record.Record.{Record}
use Rattle.bag.specs.Refusal.{Refusal, refusal}
use Rattle.message.specs.Decode.{decode}
use Rattle.message.specs.Reading.{Reading, ends, refused, item, proceed, reading_from, records_of, behind, Step, moved, step}
use Rattle.bag.specs.Bytes.{Bytes}
use Rattle.message.specs.Encode.{encode}
use Rattle.message.proofs.Fronts.{decode_left, decode_place, dropped}
use Rattle.message.proofs.Decoded.{decode_was}
use Rattle.message.proofs.Steps.{step_decodes}

-- what is still to be read from the byte `at` on, after `seen` records
abbrev pub onward : List ℕ → ℕ → ℕ → Reading
onward bytes at seen = reading_from (1024 - seen) at (drop at bytes)

pub record AtEnd (bytes : List ℕ) (at seen : ℕ) : Type 0 where
  pub rest : onward bytes at seen ≡ ends
  pub stepped : step bytes at seen ≡ (Ok None, at, seen)

pub record Refused (bytes : List ℕ) (at seen : ℕ) : Type 0 where
  pub fault : Refusal
  pub rest : onward bytes at seen ≡ refused fault
  pub stepped : step bytes at seen ≡ (Err fault, at, seen)
  pub here : fault.place ≡ at

pub record Further (bytes : List ℕ) (at seen : ℕ) : Type 0 where
  pub got : Record
  pub to : ℕ
  pub rest : onward bytes at seen ≡ item at got (onward bytes to (seen + 1))
  pub stepped : step bytes at seen ≡ (Ok (Some got), to, seen + 1)
  pub forward : at < to
  pub inside : to ≤ length bytes
  pub few : seen < 1024
  -- the cursor moves by the record's bytes
  pub by_bytes : Bytes (drop at bytes) → to ≡ at + length (encode got)

reading_more : (n at : ℕ) (xs : List ℕ) → 0 < length xs → reading_from (suc n) at xs ≡ proceed at (decode at xs) (λ rest. reading_from n (at + (length xs - length rest)) rest)
unfolding reading_from
reading_more n at [] h = absurd (omega arith)
reading_more n at (x ∷ xs) h = refl

reading_full : (at : ℕ) (xs : List ℕ) → 0 < length xs → reading_from 0 at xs ≡ refused (refusal 3 at)
unfolding reading_from
reading_full at [] h = absurd (omega arith)
reading_full at (x ∷ xs) h = refl

reading_end : (n at : ℕ) → reading_from n at [] ≡ ends
unfolding reading_from
reading_end zero at = refl
reading_end (suc n) at = refl

module _ (bytes : List ℕ) (at seen : ℕ) where
  at_end : length bytes ≤ at → AtEnd bytes at seen
  at_end h =
      record {
        rest = ap (reading_from (1024 - seen) at) (drop_all at bytes h) ∙ reading_end (1024 - seen) at;
        stepped = rw (le-leb (length bytes) at h) refl;
      }

  module _ (h : at < length bytes) where
    some_left : 0 < length (drop at bytes)
    some_left = omega (arith, length-drop at bytes)

    too_long : 1024 ≤ seen → Refused bytes at seen
    too_long l =
        record {
          fault = refusal 3 at;
          rest = ap (λ n. reading_from n at (drop at bytes)) (omega arith) ∙ reading_full at (drop at bytes) some_left;
          stepped = rw (lt-leb (length bytes) at h, le-leb 1024 seen l) refl;
          here = refl;
        }

    module _ (l : seen < 1024) where
      onward_is : (d : Result (Record × List ℕ) Refusal) → decode at (drop at bytes) ≡ d → onward bytes at seen ≡ proceed at d (λ rest. reading_from (1024 - (seen + 1)) (at + (length (drop at bytes) - length rest)) rest)
      onward_is d e =
          let n : 1024 - seen ≡ suc (1024 - (seen + 1)) = omega arith in
          ap (λ k. reading_from k at (drop at bytes)) n ∙ (reading_more (1024 - (seen + 1)) at (drop at bytes) some_left ∙ ap (λ x. proceed at x (λ rest. reading_from (1024 - (seen + 1)) (at + (length (drop at bytes) - length rest)) rest)) e)

      step_is : (d : Result (Record × List ℕ) Refusal) → decode at (drop at bytes) ≡ d → step bytes at seen ≡ moved bytes at seen d
      step_is d e = step_decodes bytes at seen h l ∙ ap (moved bytes at seen) e

      decoded : (d : Result (Record × List ℕ) Refusal) → decode at (drop at bytes) ≡ d → Refused bytes at seen ⊎ Further bytes at seen
      decoded (Err f) e = inl (record { fault = f; rest = onward_is (Err f) e; stepped = step_is (Err f) e; here = decode_place at (drop at bytes) f e })
      decoded (Ok got) e =
          let xs = drop at bytes in
          let b = decode_left at xs got.0 got.1 e in
          let long : length xs ≡ length b.0 + length got.1 = ap length b.1 ∙ length-append b.0 got.1 in
          let to = length bytes - length got.1 in
          let two : 2 ≤ length b.0 = b.2 in
          let place : at + (length xs - length got.1) ≡ to = omega (arith, length-drop at bytes) in
          let tail : got.1 ≡ drop to bytes = sym (dropped 2 xs got.1 b) ∙ (drop-drop (length xs - length got.1) at bytes ∙ ap (λ n. drop n bytes) place) in
          inr (record {
            got = got.0;
            to = to;
            rest = onward_is (Ok got) e ∙ ap (item at got.0) (ap (λ p. reading_from (1024 - (seen + 1)) p got.1) place ∙ ap (reading_from (1024 - (seen + 1)) to) tail);
            stepped = step_is (Ok got) e;
            forward = omega (arith, length-drop at bytes);
            inside = omega arith;
            few = l;
            by_bytes = λ h. let w = decode_was at xs got.0 got.1 h e in omega (arith, length-drop at bytes, ap length w.split, length-append (encode got.0) got.1);
          })

  pub next_is : AtEnd bytes at seen ⊎ (Refused bytes at seen ⊎ Further bytes at seen)
  next_is =
      ⊎_elim
      (λ h. inr (⊎_elim (λ l. decoded h l (decode at (drop at bytes)) refl) (λ l. inl (too_long h l)) (cases_lt seen 1024)))
      (λ h. inl (at_end h))
      (cases_lt at (length bytes))

-- what a step's answer tells
module _ (bytes : List ℕ) (at seen to then : ℕ) where
  answer : (a b : Step) → a ≡ b → a.0 ≡ b.0
  answer a b e = ap (λ (x : Step). x.0) e

  pub step_ended : (Ok None, to, then) ≡ step bytes at seen → onward bytes at seen ≡ ends
  step_ended e =
      ⊎_elim
      (λ (v : AtEnd bytes at seen). v.rest)
      (⊎_elim
      (λ (v : Refused bytes at seen). let f = answer (Ok None, to, then) (Err v.fault, at, seen) (e ∙ v.stepped) in let z : ◌≡◌ {A = ℕ} 0 1 = cc in absurd (omega arith))
      (λ (v : Further bytes at seen). let f = answer (Ok None, to, then) (Ok (Some v.got), v.to, seen + 1) (e ∙ v.stepped) in let z : ◌≡◌ {A = ℕ} 0 1 = cc in absurd (omega arith)))
      (next_is bytes at seen)

  pub step_refused : (r : Refusal) → (Err r, to, then) ≡ step bytes at seen → onward bytes at seen ≡ refused r
  step_refused r e =
      ⊎_elim
      (λ (v : AtEnd bytes at seen). let f = answer (Err r, to, then) (Ok None, at, seen) (e ∙ v.stepped) in let z : ◌≡◌ {A = ℕ} 0 1 = cc in absurd (omega arith))
      (⊎_elim
      (λ (v : Refused bytes at seen). let f = answer (Err r, to, then) (Err v.fault, at, seen) (e ∙ v.stepped) in let g : v.fault ≡ r = cc in v.rest ∙ ap refused g)
      (λ (v : Further bytes at seen). let f = answer (Err r, to, then) (Ok (Some v.got), v.to, seen + 1) (e ∙ v.stepped) in let z : ◌≡◌ {A = ℕ} 0 1 = cc in absurd (omega arith)))
      (next_is bytes at seen)

  -- a record was read
  pub record Read (r : Record) : Type 0 where
    pub rest : onward bytes at seen ≡ item at r (onward bytes to (seen + 1))
    pub counted : then ≡ seen + 1
    pub forward : at < to
    pub inside : to ≤ length bytes
    pub few : seen < 1024

  pub step_read_one : (r : Record) → (Ok (Some r), to, then) ≡ step bytes at seen → Read r
  step_read_one r e =
      ⊎_elim
      (λ (v : AtEnd bytes at seen). let f = answer (Ok (Some r), to, then) (Ok None, at, seen) (e ∙ v.stepped) in let z : ◌≡◌ {A = ℕ} 0 1 = cc in absurd (omega arith))
      (⊎_elim
      (λ (v : Refused bytes at seen). let f = answer (Ok (Some r), to, then) (Err v.fault, at, seen) (e ∙ v.stepped) in let z : ◌≡◌ {A = ℕ} 0 1 = cc in absurd (omega arith))
      (λ (v : Further bytes at seen).
      let f = answer (Ok (Some r), to, then) (Ok (Some v.got), v.to, seen + 1) (e ∙ v.stepped) in
      let g : v.got ≡ r = cc in
      let t : v.to ≡ to = sym (ap (λ (x : Step). x.1) (e ∙ v.stepped)) in
      record {
        rest = v.rest ∙ (ap (λ x. item at x (onward bytes v.to (seen + 1))) g ∙ ap (λ p. item at r (onward bytes p (seen + 1))) t);
        counted = ap (λ (x : Step). x.2) (e ∙ v.stepped);
        forward = omega (arith, v.forward);
        inside = omega (arith, v.inside);
        few = v.few;
      }))
      (next_is bytes at seen)

-- what the records of a reading are, by how it begins
pub records_end : records_of ends ≡ Ok []
unfolding records_of
records_end = refl

pub records_refused : (e : Refusal) → records_of (refused e) ≡ Err e
unfolding records_of
records_refused e = refl

pub records_item : (at : ℕ) (r : Record) (rest : Reading) → records_of (item at r rest) ≡ behind r (records_of rest)
unfolding records_of
records_item at r rest = refl

-- what a step over a lent message answered, where the message and the count of records are known by other names
module _ (m b : List ℕ) (same : b ≡ m) (at seen n : ℕ) (counted : seen ≡ n) (to then : ℕ) where
  same_step : step b at seen ≡ step m at n
  same_step = ap (λ l. step l at seen) same ∙ ap (step m at) counted

  pub read_one : (o : Option Record) (r : Record) → o ≡ Some r → ◌≡◌ {A = Step} (Ok o, to, then) (step b at seen) → Read m at n to then r
  read_one o r is s = step_read_one m at n to then r (sym (ap (λ (v : Option Record). (Ok v, to, then)) is) ∙ (s ∙ same_step))

  pub read_none : (o : Option Record) → o ≡ None → ◌≡◌ {A = Step} (Ok o, to, then) (step b at seen) → onward m at n ≡ ends
  read_none o is s = step_ended m at n to then (sym (ap (λ (v : Option Record). (Ok v, to, then)) is) ∙ (s ∙ same_step))

  pub read_fault : (e : Refusal) → ◌≡◌ {A = Step} (Err e, to, then) (step b at seen) → onward m at n ≡ refused e
  read_fault e s = step_refused m at n to then e (s ∙ same_step)
