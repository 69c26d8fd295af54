-- The steps of a cursor, one after the other, answer what the message holds.
use Rattle.std.proofs.Common.{◌≡◌, ℕ, zero, suc, ◌+◌, ◌<◌, List, [], ◌∷◌, ◌++◌, length, drop, Ok, Err, sym, refl, ap, ◌∙◌, ⊎_elim, arith, length-append}
use Rattle.message.specs.declared.record.Record.{Record}
use Rattle.bag.specs.Refusal.{Refusal}
use Rattle.std.specs.List.{slice_get}
use Rattle.message.specs.Reading.{Reading, ends, refused, item, reading, records_of, answer_at, first_records, Step, step, stand}
use Rattle.message.proofs.Listings.{behind_ok}
use Rattle.bag.specs.Bytes.{Bytes}
use Rattle.message.specs.Encode.{encode, encode_all}
use Rattle.message.specs.Laws.{CursorReads, CursorStands}
use Rattle.std.proofs.lemmas.Grind.{flat_map-append}
use Rattle.std.proofs.ByRecursion.{All-drop}
use Rattle.message.proofs.Readings.{onward, AtEnd, Refused, Further, next_is}

-- the first answer from a place on, and the others
module _ (bytes : List ℕ) (at seen : ℕ) where
  first : answer_at (onward bytes at seen) 0 ≡ (step bytes at seen).0
  unfolding answer_at
  first =
      ⊎_elim
      (λ (v : AtEnd bytes at seen). ap (λ x. answer_at x 0) v.rest ∙ sym (ap (λ (x : Step). x.0) v.stepped))
      (⊎_elim
      (λ (v : Refused bytes at seen). ap (λ x. answer_at x 0) v.rest ∙ sym (ap (λ (x : Step). x.0) v.stepped))
      (λ (v : Further bytes at seen). ap (λ x. answer_at x 0) v.rest ∙ sym (ap (λ (x : Step). x.0) v.stepped)))
      (next_is bytes at seen)

  others : (i : ℕ) → answer_at (onward bytes at seen) (suc i) ≡ answer_at (onward bytes (step bytes at seen).1 (step bytes at seen).2) i
  unfolding answer_at
  others i =
      ⊎_elim
      (λ (v : AtEnd bytes at seen).
      ap (λ x. answer_at x (suc i)) v.rest ∙ (sym (ap (λ x. answer_at x i) v.rest) ∙ sym (ap (λ (x : Step). answer_at (onward bytes x.1 x.2) i) v.stepped)))
      (⊎_elim
      (λ (v : Refused bytes at seen).
      ap (λ x. answer_at x (suc i)) v.rest ∙ (sym (ap (λ x. answer_at x i) v.rest) ∙ sym (ap (λ (x : Step). answer_at (onward bytes x.1 x.2) i) v.stepped)))
      (λ (v : Further bytes at seen).
      ap (λ x. answer_at x (suc i)) v.rest ∙ sym (ap (λ (x : Step). answer_at (onward bytes x.1 x.2) i) v.stepped)))
      (next_is bytes at seen)

-- after i steps what is still to be read answers what the message answers from its i-th answer on
from_stand : (bytes : List ℕ) (i j : ℕ) → answer_at (onward bytes (stand bytes i).0 (stand bytes i).1) j ≡ answer_at (reading bytes) (i + j)
unfolding stand
from_stand bytes zero j = ap (answer_at (reading bytes)) (omega arith)
from_stand bytes (suc i) j =
    sym (others bytes (stand bytes i).0 (stand bytes i).1 j) ∙ (from_stand bytes i (suc j) ∙ ap (answer_at (reading bytes)) (omega arith))

pub cursor_reads : CursorReads
cursor_reads bytes i =
    let e : i + 0 ≡ i = omega arith in
    sym (first bytes (stand bytes i).0 (stand bytes i).1) ∙ (from_stand bytes i 0 ∙ ap (answer_at (reading bytes)) e)

-- the answers of a message that is read without a refusal are its records, and then none
pub answers_of : (x : Reading) (rs : List Record) (i : ℕ) → records_of x ≡ Ok rs → answer_at x i ≡ Ok (slice_get rs i)
unfolding records_of answer_at
answers_of ends rs i e = let z : rs ≡ [] = cc in ap (λ l. Ok (slice_get l i)) (sym z)
answers_of (refused f) rs i e = let z : ◌≡◌ {A = ℕ} 0 1 = cc in absurd (omega arith)
answers_of (item at r rest) rs zero e = let b = behind_ok r (records_of rest) rs e in ap (λ l. Ok (slice_get l 0)) (sym b.2)
answers_of (item at r rest) rs (suc i) e =
    let b = behind_ok r (records_of rest) rs e in
    answers_of rest b.0 i b.1 ∙ ap (λ l. Ok (slice_get l (suc i))) (sym b.2)

-- what is left of a reading after a step, and the record that the step answered
abbrev beyond : Reading → Reading
beyond ends = ends
beyond (refused e) = refused e
beyond (item at r rest) = rest

abbrev answered : Reading → List Record
answered ends = []
answered (refused e) = []
answered (item at r rest) = r ∷ []

abbrev left : Reading → ℕ → Reading
left x zero = x
left x (suc i) = beyond (left x i)

left_later : (x : Reading) (i : ℕ) → left (beyond x) i ≡ left x (suc i)
left_later x zero = refl
left_later x (suc i) = ap beyond (left_later x i)

none_yet : (x : Reading) → first_records x 0 ≡ []
unfolding first_records
none_yet ends = refl
none_yet (refused e) = refl
none_yet (item at r rest) = refl

stay_ended : (i : ℕ) → left ends i ≡ ends
stay_ended zero = refl
stay_ended (suc i) = ap beyond (stay_ended i)

stay_refused : (e : Refusal) (i : ℕ) → left (refused e) i ≡ refused e
stay_refused e zero = refl
stay_refused e (suc i) = ap beyond (stay_refused e i)

one_more : (x : Reading) (i : ℕ) → first_records x (suc i) ≡ first_records x i ++ answered (left x i)
unfolding first_records
one_more ends i = sym (ap answered (stay_ended i))
one_more (refused e) i = sym (ap answered (stay_refused e i))
one_more (item at r rest) zero = ap (λ l. r ∷ l) (none_yet rest)
one_more (item at r rest) (suc i) = ap (λ l. r ∷ l) (one_more rest i ∙ ap (λ y. first_records rest i ++ answered y) (left_later (item at r rest) i))

module _ (bytes : List ℕ) (at seen : ℕ) where
  onward_beyond : onward bytes (step bytes at seen).1 (step bytes at seen).2 ≡ beyond (onward bytes at seen)
  onward_beyond =
      ⊎_elim
      (λ (v : AtEnd bytes at seen). ap (λ (x : Step). onward bytes x.1 x.2) v.stepped ∙ (v.rest ∙ sym (ap beyond v.rest)))
      (⊎_elim
      (λ (v : Refused bytes at seen). ap (λ (x : Step). onward bytes x.1 x.2) v.stepped ∙ (v.rest ∙ sym (ap beyond v.rest)))
      (λ (v : Further bytes at seen). ap (λ (x : Step). onward bytes x.1 x.2) v.stepped ∙ sym (ap beyond v.rest)))
      (next_is bytes at seen)

  moved_by : Bytes (drop at bytes) → (step bytes at seen).1 ≡ at + length (encode_all (answered (onward bytes at seen)))
  moved_by h =
      ⊎_elim
      (λ (v : AtEnd bytes at seen). ap (λ (x : Step). x.1) v.stepped ∙ sym (still (onward bytes at seen) (ap answered v.rest)))
      (⊎_elim
      (λ (v : Refused bytes at seen). ap (λ (x : Step). x.1) v.stepped ∙ sym (still (onward bytes at seen) (ap answered v.rest)))
      (λ (v : Further bytes at seen).
      ap (λ (x : Step). x.1) v.stepped ∙ (v.by_bytes h ∙ sym (one (onward bytes at seen) v.got (ap answered v.rest)))))
      (next_is bytes at seen)
    where
      still : (x : Reading) → answered x ≡ [] → at + length (encode_all (answered x)) ≡ at
      still x e = ap (λ l. at + length (encode_all l)) e ∙ omega arith

      one : (x : Reading) (r : Record) → answered x ≡ r ∷ [] → at + length (encode_all (answered x)) ≡ at + length (encode r)
      one x r e = ap (λ l. at + length (encode_all l)) e ∙ omega (arith, length-append (encode r) [])

  refused_here : (e : Refusal) → (step bytes at seen).0 ≡ Err e → e.place ≡ at
  refused_here e f =
      ⊎_elim
      (λ (v : AtEnd bytes at seen). let g = sym (ap (λ (x : Step). x.0) v.stepped) ∙ f in let z : ◌≡◌ {A = ℕ} 0 1 = cc in absurd (omega arith))
      (⊎_elim
      (λ (v : Refused bytes at seen).
      let g = sym (ap (λ (x : Step). x.0) v.stepped) ∙ f in
      let k : v.fault ≡ e = cc in
      sym (ap (λ (r : Refusal). r.place) k) ∙ v.here)
      (λ (v : Further bytes at seen). let g = sym (ap (λ (x : Step). x.0) v.stepped) ∙ f in let z : ◌≡◌ {A = ℕ} 0 1 = cc in absurd (omega arith)))
      (next_is bytes at seen)

-- after i steps the cursor stands before what is left
left_is : (bytes : List ℕ) (i : ℕ) → onward bytes (stand bytes i).0 (stand bytes i).1 ≡ left (reading bytes) i
unfolding stand
left_is bytes zero = refl
left_is bytes (suc i) = onward_beyond bytes (stand bytes i).0 (stand bytes i).1 ∙ ap beyond (left_is bytes i)

stands : (bytes : List ℕ) → Bytes bytes → (i : ℕ) → (stand bytes i).0 ≡ length (encode_all (first_records (reading bytes) i))
unfolding stand
stands bytes h zero = sym (ap (λ l. length (encode_all l)) (none_yet (reading bytes)))
stands bytes h (suc i) =
    let at = (stand bytes i).0 in
    let seen = (stand bytes i).1 in
    let so_far = first_records (reading bytes) i in
    let new = answered (left (reading bytes) i) in
    moved_by bytes at seen (All-drop (λ b. b < 256) at bytes h)
    ∙ (ap (λ x. at + length (encode_all (answered x))) (left_is bytes i)
    ∙ (ap (λ n. n + length (encode_all new)) (stands bytes h i)
    ∙ (sym (ap length (flat_map-append encode so_far new) ∙ length-append (encode_all so_far) (encode_all new))
    ∙ sym (ap (λ l. length (encode_all l)) (one_more (reading bytes) i)))))

pub cursor_stands : CursorStands
cursor_stands bytes h i =
    record {
      behind_records = stands bytes h i;
      at_refusal = λ e f. refused_here bytes (stand bytes i).0 (stand bytes i).1 e (cursor_reads bytes i ∙ f);
    }
