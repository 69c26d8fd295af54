-- What is written, by the ways that the writer takes.
use Rattle.std.proofs.Common.{◌≡◌, ℕ, ◌<◌, ◌≤◌, List, ◌++◌, length, drop, Some, None, Ok, Err, refl, ◌∙◌}
use Rattle.std.proofs.lemmas.Bool.{lt-ltb, le-ltb}
use Rattle.message.specs.declared.record.Record.{Record}
use Rattle.bag.specs.Refusal.{refusal}
use Rattle.message.specs.Lawful.{first_unlawful}
use Rattle.message.specs.Buffer.{laid}
use Rattle.message.specs.Encode.{encode_all}
use Rattle.message.specs.Writing.{Written, filled, written}
use Rattle.message.proofs.Laid.{laid_first}

module _ (rs : List Record) (buffer : List ℕ) where
  pub written_long : 1024 < length rs → ◌≡◌ {A = Written} (Err (refusal 3 1024), buffer) (written rs buffer)
  unfolding written
  written_long h = rw (lt-ltb 1024 (length rs) h) refl

  pub written_lawfully : length rs ≤ 1024 → first_unlawful rs ≡ None → written rs buffer ≡ filled (encode_all rs) buffer
  unfolding written
  written_lawfully h e = rw (le-ltb 1024 (length rs) h, e) refl

  pub written_unlawful : (i : ℕ) → length rs ≤ 1024 → first_unlawful rs ≡ Some i → ◌≡◌ {A = Written} (Err (refusal 2 i), buffer) (written rs buffer)
  unfolding written
  written_unlawful i h e = rw (le-ltb 1024 (length rs) h, e) refl

  pub written_short : length rs ≤ 1024 → first_unlawful rs ≡ None → length buffer < length (encode_all rs) → ◌≡◌ {A = Written} (Err (refusal 8 0), buffer) (written rs buffer)
  written_short h e l = rw (written_lawfully h e, lt-ltb (length buffer) (length (encode_all rs)) l) refl

  pub written_whole : length rs ≤ 1024 → first_unlawful rs ≡ None → length (encode_all rs) ≤ length buffer → written rs buffer ≡ (Ok (length (encode_all rs)), encode_all rs ++ drop (length (encode_all rs)) buffer)
  written_whole h e l = rw (written_lawfully h e, le-ltb (length buffer) (length (encode_all rs)) l) refl

  pub written_laid : (n : ℕ) (after : List ℕ) → length rs ≤ 1024 → first_unlawful rs ≡ None → n ≡ length (encode_all rs) → n ≤ length buffer → after ≡ laid buffer 0 (encode_all rs) → (Ok n, after) ≡ written rs buffer
  written_laid n after h e m l a =
      let l' : length (encode_all rs) ≤ length buffer = rw m at l in
      let w = written_whole h e l' in
      let b = a ∙ laid_first buffer (encode_all rs) in
      rw (w, m, b) refl
