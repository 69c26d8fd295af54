-- One step of the cursor inside a message, and what is left behind the record.
use Rattle.std.proofs.Common.{◌≡◌, ℕ, ◌-◌, ◌<◌, ◌≤◌, List, length, take, drop, Some, refl, arith, length-drop}
use Rattle.std.proofs.lemmas.Bool.{lt-leb}
use Rattle.message.specs.declared.record.Record.{Record}
use Rattle.message.specs.Decode.{fields, decode}
use Rattle.message.specs.Reading.{moved, step}
use Rattle.std.proofs.lemmas.List.{take_rest}
use Rattle.message.proofs.Fronts.{fields_shorter}

pub step_decodes : (bytes : List ℕ) (at seen : ℕ) → at < length bytes → seen < 1024 → step bytes at seen ≡ moved bytes at seen (decode at (drop at bytes))
step_decodes bytes at seen inside few = rw (lt-leb (length bytes) at inside, lt-leb 1024 seen few) refl

-- `part` is what `&bytes[at..]` is
abbrev pub part : List ℕ → ℕ → List ℕ
part bytes at = take (length bytes - at) (drop at bytes)

abbrev pub tail : List ℕ → ℕ → List ℕ
tail bytes at = take (length (part bytes at) - 2) (drop 2 (part bytes at))

pub left_within : (bytes : List ℕ) (at m : ℕ) (r : Record) (rest : List ℕ) → fields m (tail bytes at) ≡ Some (r, rest) → length rest ≤ length bytes
left_within bytes at m r rest e =
    let f : fields m (drop 2 (drop at bytes)) ≡ Some (r, rest) = rw (take_rest (part bytes at) 2, take_rest bytes at) at e in
    let l = fields_shorter m (drop 2 (drop at bytes)) r rest f in
    omega (arith, length-drop 2 (drop at bytes), length-drop at bytes)
