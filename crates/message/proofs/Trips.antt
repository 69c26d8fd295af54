-- Whole messages, read and written and written and read.
use Rattle.std.proofs.Common.{◌≡◌, ℕ, zero, suc, ◌+◌, ◌-◌, ◌≤◌, Bool, true, false, cond, ltb, List, [], ◌∷◌, ◌++◌, length, take, drop, Some, None, Ok, Err, Option, Result, sym, refl, ap, ◌∙◌, arith, length-append}
use Rattle.std.specs.List.{AllByRecursion}
use Rattle.std.specs.Option.{option_map}
use Rattle.std.proofs.lemmas.List.{take_at}
use Rattle.std.proofs.lemmas.Bool.{ltb-false}
use Rattle.message.specs.declared.record.Record.{Record}
use Rattle.bag.specs.Bytes.{Bytes}
use Rattle.bag.specs.Refusal.{Refusal, refusal}
use Rattle.message.specs.Decode.{decode}
use Rattle.message.specs.Lawful.{lawful, first_unlawful, InRange}
use Rattle.message.specs.Encode.{encode, encode_all}
use Rattle.message.specs.Reading.{proceed, reading_from, reading, records_of, behind}
use Rattle.message.specs.Writing.{Written, filled, unless_unlawful, written}
use Rattle.message.specs.Laws.{ReadThenWritten, WrittenThenRead, OneToOne}
use Rattle.message.proofs.Cursors.{cursor_reads, answers_of}
use Rattle.message.proofs.Listings.{behind_ok}
use Rattle.message.proofs.Codec.{decode_encode}
use Rattle.message.proofs.Decoded.{decode_was}
use Rattle.message.specs.RoundTrip.{by_writer, unless_refused, rewritten, same_records, reread}
use Rattle.message.proofs.Writings.{written_whole, written_lawfully}

-- what a message read without a refusal was
pub record Whole (n : ℕ) (xs : List ℕ) (rs : List Record) : Type 0 where
  pub bytes : encode_all rs ≡ xs
  pub few : length rs ≤ n
  pub law : first_unlawful rs ≡ None

pub whole : (n at : ℕ) (xs : List ℕ) (rs : List Record) → Bytes xs → records_of (reading_from n at xs) ≡ Ok rs → Whole n xs rs
unfolding reading_from records_of
whole n at [] rs h e = let z : rs ≡ [] = nothing n e in record { bytes = ap encode_all z; few = omega (arith, ap length z); law = ap first_unlawful z }
  where
    nothing : (n : ℕ) → records_of (reading_from n at []) ≡ Ok rs → rs ≡ []
    nothing zero e = cc
    nothing (suc n) e = cc
whole zero at (b ∷ xs) rs h e = let z : ◌≡◌ {A = ℕ} 0 1 = cc in absurd (omega arith)
whole (suc n) at (b ∷ xs) rs h e = on (decode at (b ∷ xs)) refl e (λ at' ys ss l. whole n at' ys ss l)
  where
    on : (d : Result (Record × List ℕ) Refusal) → decode at (b ∷ xs) ≡ d → records_of (proceed at d (λ rest. reading_from n (at + (length (b ∷ xs) - length rest)) rest)) ≡ Ok rs → ((at' : ℕ) (ys : List ℕ) (ss : List Record) → Bytes ys → records_of (reading_from n at' ys) ≡ Ok ss → Whole n ys ss) → Whole (suc n) (b ∷ xs) rs
    on (Err f) d e again = let z : ◌≡◌ {A = ℕ} 0 1 = cc in absurd (omega arith)
    on (Ok got) d e again =
        let w = decode_was at (b ∷ xs) got.0 got.1 h d in
        let s = behind_ok got.0 (records_of (reading_from n (at + (length (b ∷ xs) - length got.1)) got.1)) rs e in
        let t = again (at + (length (b ∷ xs) - length got.1)) got.1 s.0 w.left s.1 in
        record {
          bytes = ap encode_all s.2 ∙ (ap (λ l. encode got.0 ++ l) t.bytes ∙ sym w.split);
          few = omega (arith, ap length s.2, t.few);
          law = ap first_unlawful s.2 ∙ (ap (λ b. cond b (option_map suc (first_unlawful s.0)) (Some 0)) w.law ∙ ap (option_map suc) t.law);
        }

pub read_then_written : ReadThenWritten
read_then_written bytes rs buffer h e room =
    let w = whole 1024 0 bytes rs h e in
    let l : length (encode_all rs) ≤ length buffer = omega (arith, ap length w.bytes) in
    written_whole rs buffer w.few w.law l ∙ ap (λ (x : List ℕ). (Ok (length x), x ++ drop (length x) buffer)) w.bytes

-- lawful records, read back from their bytes
pub lawful_first : (r : Record) (rs : List Record) → first_unlawful (r ∷ rs) ≡ None → (lawful r ≡ true) × (first_unlawful rs ≡ None)
lawful_first r rs e = on (lawful r) refl e
  where
    none : (o : Option ℕ) → option_map suc o ≡ None → o ≡ None
    none None e = refl
    none (Some n) e = let z : ◌≡◌ {A = ℕ} 0 1 = cc in absurd (omega arith)

    on : (t : Bool) → lawful r ≡ t → cond t (option_map suc (first_unlawful rs)) (Some 0) ≡ None → (lawful r ≡ true) × (first_unlawful rs ≡ None)
    on true l e = (l, none (first_unlawful rs) e)
    on false l e = let z : ◌≡◌ {A = ℕ} 0 1 = cc in absurd (omega arith)

-- a record's bytes are not empty
some_bytes : (n at : ℕ) (r : Record) (xs : List ℕ) → reading_from (suc n) at (encode r ++ xs) ≡ proceed at (decode at (encode r ++ xs)) (λ rest. reading_from n (at + (length (encode r ++ xs) - length rest)) rest)
unfolding encode reading_from
some_bytes n at r xs = refl

pub read_back : (n at : ℕ) (rs : List Record) → AllByRecursion InRange rs → first_unlawful rs ≡ None → length rs ≤ n → records_of (reading_from n at (encode_all rs)) ≡ Ok rs
unfolding records_of reading_from
read_back zero at [] h l k = refl
read_back (suc n) at [] h l k = refl
read_back zero at (r ∷ rs) h l k = absurd (omega arith)
read_back (suc n) at (r ∷ rs) h l k =
    let p = lawful_first r rs l in
    let e = some_bytes n at r (encode_all rs) in
    let d = decode_encode r h.0 p.0 at (encode_all rs) in
    let f = ap (λ x. proceed at x (λ rest. reading_from n (at + (length (encode r ++ encode_all rs) - length rest)) rest)) d in
    ap records_of (e ∙ f) ∙ ap (behind r) (read_back n (at + (length (encode r ++ encode_all rs) - length (encode_all rs))) rs h.1 p.1 (omega arith))

-- what was written without a refusal
pub record Accepted (rs : List Record) (n : ℕ) (buffer after : List ℕ) : Type 0 where
  pub few : length rs ≤ 1024
  pub law : first_unlawful rs ≡ None
  pub length_is : n ≡ length (encode_all rs)
  pub after_is : after ≡ encode_all rs ++ drop (length (encode_all rs)) buffer
  pub room : length (encode_all rs) ≤ length buffer

pub accepted : (rs : List Record) (n : ℕ) (buffer after : List ℕ) → written rs buffer ≡ (Ok n, after) → Accepted rs n buffer after
unfolding written
accepted rs n buffer after e = long (ltb 1024 (length rs)) refl e
  where
    never : (f : Refusal) → ◌≡◌ {A = Written} (Err f, buffer) (Ok n, after) → ⊥
    never f e = let g = ap (λ (x : Written). x.0) e in let z : ◌≡◌ {A = ℕ} 0 1 = cc in omega arith

    short : length rs ≤ 1024 → first_unlawful rs ≡ None → (t : Bool) → ltb (length buffer) (length (encode_all rs)) ≡ t → ◌≡◌ {A = Written} (cond {A = Written} t (Err (refusal 8 0), buffer) (Ok (length (encode_all rs)), encode_all rs ++ drop (length (encode_all rs)) buffer)) (Ok n, after) → Accepted rs n buffer after
    short few law true l e = absurd (never (refusal 8 0) e)
    short few law false l e =
        let g = ap (λ (x : Written). x.0) e in
        record { few = few; law = law; length_is = cc; after_is = sym (ap (λ (x : Written). x.1) e); room = ltb-false (length buffer) (length (encode_all rs)) l }

    unlawful : length rs ≤ 1024 → (o : Option ℕ) → first_unlawful rs ≡ o → unless_unlawful o (encode_all rs) buffer ≡ (Ok n, after) → Accepted rs n buffer after
    unlawful few (Some i) l e = absurd (never (refusal 2 i) e)
    unlawful few None l e = short few l (ltb (length buffer) (length (encode_all rs))) refl e

    long : (t : Bool) → ltb 1024 (length rs) ≡ t → ◌≡◌ {A = Written} (cond {A = Written} t (Err (refusal 3 1024), buffer) (unless_unlawful (first_unlawful rs) (encode_all rs) buffer)) (Ok n, after) → Accepted rs n buffer after
    long true l e = absurd (never (refusal 3 1024) e)
    long false l e = unlawful (ltb-false 1024 (length rs) l) (first_unlawful rs) refl e

read_after_write : (rs : List Record) (n : ℕ) (buffer after : List ℕ) → AllByRecursion InRange rs → written rs buffer ≡ (Ok n, after) → records_of (reading (take n after)) ≡ Ok rs
read_after_write rs n buffer after h e =
    let a = accepted rs n buffer after e in
    let t : take n after ≡ encode_all rs = ap (take n) a.after_is ∙ take_at (encode_all rs) (drop (length (encode_all rs)) buffer) n (sym a.length_is) in
    ap (λ l. records_of (reading l)) t ∙ read_back 1024 0 rs h a.law a.few

pub written_then_read : WrittenThenRead
written_then_read rs buffer h room =
    let w = read_back 1024 0 rs h.range h.law h.few in
    record {
      accepted = written_whole rs buffer h.few h.law room;
      whole = w;
      steps = λ i. cursor_reads (encode_all rs) i ∙ answers_of (reading (encode_all rs)) rs i w;
    }

pub one_to_one : OneToOne
one_to_one rs ss hr hs e =
    let a = read_back 1024 0 rs hr.range hr.law hr.few in
    let b = read_back 1024 0 ss hs.range hs.law hs.few in
    let c : Ok rs ≡ Ok ss = sym a ∙ (ap (λ l. records_of (reading l)) e ∙ b) in
    cc

-- the records of a message, written again
pub rewritten_is : (message buffer : List ℕ) (rs : List Record) → Bytes message → Ok rs ≡ records_of (reading message) → (by_writer (written rs buffer).0, (written rs buffer).1) ≡ rewritten message buffer
unfolding rewritten
rewritten_is message buffer rs h e =
    let w = whole 1024 0 message rs h (sym e) in
    let f : written rs buffer ≡ filled message buffer = written_lawfully rs buffer w.few w.law ∙ ap (λ l. filled l buffer) w.bytes in
    ap (λ (x : Written). (by_writer x.0, x.1)) f ∙ ap (λ o. unless_refused o (filled message buffer) buffer) e

pub room_of : (rs : List Record) (n : ℕ) (buffer after : List ℕ) → written rs buffer ≡ (Ok n, after) → n ≤ length after
room_of rs n buffer after e =
    let a = accepted rs n buffer after e in
    omega (arith, ap length a.after_is, length-append (encode_all rs) (drop (length (encode_all rs)) buffer), a.length_is)

-- records that were written, read again: they are the same, and nothing refuses them
module _ (rs : List Record) (n : ℕ) (buffer after : List ℕ) (range : AllByRecursion InRange rs) (e : written rs buffer ≡ (Ok n, after)) where
  again : records_of (reading (take (n - 0) after)) ≡ Ok rs
  again =
      let k : n - 0 ≡ n = omega arith in
      ap (λ m. records_of (reading (take m after))) k ∙ read_after_write rs n buffer after range e

  pub reread_is : (ss : List Record) → Ok ss ≡ records_of (reading (take (n - 0) after)) → (Ok ss, after) ≡ reread rs buffer
  unfolding reread
  reread_is ss f =
      let g : Ok ss ≡ Ok rs = f ∙ again in
      let h : ss ≡ rs = cc in
      ap (λ (x : List Record). (Ok x, after)) h ∙ sym (ap (λ (w : Written). (same_records rs w.0, w.1)) e)

  pub never_refused : (r : Refusal) → Err r ≡ records_of (reading (take (n - 0) after)) → ⊥
  never_refused r f =
      let g : Err r ≡ Ok rs = f ∙ again in
      let z : ◌≡◌ {A = ℕ} 0 1 = cc in
      omega arith
