-- What adding a line to a table of nets, or taking one out, makes of the nets. Assumes nothing.
--     net_gone       the line of a net that comes to 0 taken out
--     net_stored     the line of any other net added
--     canonical_without, canonical_left      either way the nets stay canonical
--     some_bits      a number whose bits are not 0 is not 0
use Rattle.std.proofs.Common.{◌-ℤ◌, neg_ℤ, List, ◌≡◌, zero, suc, true, false, map, length, ℤ, pos, negsuc, ◌+ℤ◌, Ok, Err, Result, sym, refl, ap, ◌∙◌, subst, ap₂, arith, w32, of_z}
use Rattle.std.proofs.lemmas.List.{length-map}
use Rattle.std.proofs.lemmas.Int.{ints}
use Rattle.bag.specs.declared.lines.ChangeLine.{ChangeLine}
use Rattle.bag.specs.Order.{change_line_order}
use Rattle.bag.specs.Bag.{is_zero, count, add_copies, Canonical}
use Rattle.bag.specs.Refusal.{left_by}
use Rattle.bag.proofs.CanonicalForm.{canonical_add_copies}
use Rattle.table.specs.declared.full.Full.{Full}
use Rattle.table.specs.LineTables.{ChangeTable}
use Rattle.table.specs.Entries.{with_entry, without_key}
use Rattle.table.specs.Refusals.{refusal_in}
use Rattle.table.specs.Tables.{items, capacity, add_answer}
use Rattle.table.proofs.Answered.{refused_since}
use Rattle.message.specs.declared.record.Record.{Record}
use Rattle.settling.specs.Keys.{key, key_of, keyed}
use Rattle.nets.specs.Nets.{signed_copies}
use Rattle.nets.specs.NetTable.{changes, Addable, Added}
use Rattle.nets.proofs.KeyedLines.{with_net, without_net, longer_by_one}

pub some_bits : (z : ℤ) → (of_z w32 z ≡ 0 → ⊥) → is_zero z ≡ false
some_bits (pos zero) n = absurd (n refl)
some_bits (pos (suc n)) h = refl
some_bits (negsuc n) h = refl

-- of any table of nets, with a place left or not
pub canonical_without : (e : ChangeLine) (xs : List ChangeLine) → Canonical (map keyed xs) → Canonical (map keyed (without_key change_line_order e xs))
canonical_without e xs c =
    let n = count (map keyed xs) (key_of e) in
    let none : neg_ℤ n +ℤ n ≡ pos 0 = omega (arith, ints) in
    subst Canonical (sym (without_net e (neg_ℤ n) xs c (ap is_zero none))) (canonical_add_copies (key_of e) (neg_ℤ n) (map keyed xs) c)

pub canonical_left : (e : ChangeLine) (xs : List ChangeLine) → is_zero e.change ≡ false → Canonical (map keyed xs) → (r : Result (Unit {0}) Full) → Canonical (map keyed (left_by r xs (with_entry change_line_order e xs)))
canonical_left e xs z c (Err f) = c
canonical_left e xs z c (Ok u) =
    let n = count (map keyed xs) (key_of e) in
    let sum : e.change ≡ (e.change -ℤ n) +ℤ n = omega (arith, ints) in
    subst Canonical (sym (with_net e (e.change -ℤ n) xs c sum z)) (canonical_add_copies (key_of e) (e.change -ℤ n) (map keyed xs) c)

module _ (s t : ChangeTable) (canonical : Canonical (changes s)) (m : Record) (e : ChangeLine) (node : e.node ≡ m.node) (row : e.row ≡ m.row) (can : Addable s m)
    (net : e.change ≡ signed_copies m +ℤ count (changes s) (key m.node m.row)) where
  same : key_of e ≡ key m.node m.row
  same = ap₂ key node row

  added : changes t ≡ add_copies (key_of e) (signed_copies m) (changes s) → Added s m t
  added q =
      let p : changes t ≡ add_copies (key m.node m.row) (signed_copies m) (changes s) = q ∙ ap (λ k. add_copies k (signed_copies m) (changes s)) same in
      let l = longer_by_one (key m.node m.row) (signed_copies m) (changes s) in
      let n = ap length p in
      let a = length-map (items t) keyed in
      let b = length-map (items s) keyed in
      record { after = p; longer = omega arith }

  here : e.change ≡ signed_copies m +ℤ count (changes s) (key_of e)
  here = net ∙ ap (λ k. signed_copies m +ℤ count (changes s) k) (sym same)

  pub net_gone : is_zero e.change ≡ true → items t ≡ without_key change_line_order e (items s) → Added s m t
  net_gone z h = added (ap (map keyed) h ∙ without_net e (signed_copies m) (items s) canonical (ap is_zero (sym here) ∙ z))

  pub net_stored : is_zero e.change ≡ false → (r : Result (Unit {0}) Full) → refusal_in r ≡ add_answer change_line_order (capacity s) e (items s)
      → items t ≡ left_by r (items s) (with_entry change_line_order e (items s)) → Added s m t
  net_stored z (Ok u) q h = added (ap (map keyed) h ∙ with_net e (signed_copies m) (items s) canonical here z)
  net_stored z (Err f) q h =
      let full = (refused_since change_line_order (capacity s) e (items s) f q).full in
      let room = can.room in
      absurd (let y : ⊥ = omega arith in y)
