-- A message gathered record by record: what is known after some of its records. Assumes nothing.
--     prefixed             movements before those of a reading that is still to come
--     Reached              where gathering stands: the movements so far, what is still to come, and what the table has
--     reached_first        before the first record
--     reached_more         one record more, added to the table
--     reached_end, reached_refused, reached_misfit      how it ends
--     reached_nets         what the table has then
use Rattle.std.proofs.Common.{◌≡◌, ℕ, suc, ◌+◌, ◌*◌, ◌<◌, ◌≤◌, Bool, true, false, cond, List, [], ◌∷◌, ◌++◌, map, length, ℤ, pos, ◌+ℤ◌, neg_ℤ, ◌≤ℤ◌, Ok, Err, Result, Ordering, Less, Equal, Greater, sym, refl, ap, ◌∙◌, subst, append_assoc, arith, w32, SFits}
use Rattle.std.specs.List.{AllByRecursion}
use Rattle.std.proofs.lemmas.List.{length-map, length-append, map-append, append-nil}
use Rattle.std.proofs.ByRecursion.{All-push, All-weaker}
use Rattle.std.proofs.lemmas.Int.{ints}
use Rattle.bag.specs.Order.{Row, row_order}
use Rattle.bag.specs.Bag.{if_equal, copies_at, count, add_copies, collect}
use Rattle.bag.specs.Refusal.{Refusal}
use Rattle.bag.specs.Integers.{count_collect}
use Rattle.table.specs.LineTables.{ChangeTable}
use Rattle.table.specs.Tables.{items, capacity, SameRun}
use Rattle.message.specs.declared.record.Record.{Record}
use Rattle.message.specs.Reading.{ends, refused}
use Rattle.message.proofs.Readings.{onward, Read}
use Rattle.plan.specs.declared.node.Node.{Node}
use Rattle.settling.specs.Keys.{key, keyed}
use Rattle.nets.specs.Nets.{signed_copies, nets_of}
use Rattle.nets.specs.NetTable.{keyed_movement, changes, Addable, Added}
use Rattle.nets.specs.GatherRefusal.{Told, of_message, table_refusal}
use Rattle.nets.specs.Gathered.{of_base, behind, movements_in, movements_until, gathered, gathered_until}
use Rattle.nets.proofs.BaseRows.{base_low}
use Rattle.nets.proofs.KeyedNets.{collect_push, length_collect, keyed_nets, keyed_same}

abbrev pub prefixed : List Record → Result (List Record) Told → Result (List Record) Told
prefixed ms (Ok rest) = Ok (ms ++ rest)
prefixed ms (Err e) = Err e

prefixed_none : (o : Result (List Record) Told) → prefixed [] o ≡ o
prefixed_none (Ok rest) = refl
prefixed_none (Err e) = refl

prefixed_more : (ms : List Record) (r : Record) (o : Result (List Record) Told) → prefixed ms (behind r o) ≡ prefixed (ms ++ r ∷ []) o
prefixed_more ms r (Ok rest) = ap Ok (sym (append_assoc ms (r ∷ []) rest))
prefixed_more ms r (Err e) = refl

-- a count fits 16 bits
abbrev pub Counted : Record → Type 0
Counted r = r.count ≤ 65535

-- z is at most n, either way
abbrev Within : ℕ → ℤ → Type 0
Within n z = (neg_ℤ (pos n) ≤ℤ z) × (z ≤ℤ pos n)

copies_within : (r : Record) → Counted r → Within 65535 (signed_copies r)
copies_within r l = by r.take
  where
    by : (b : Bool) → Within 65535 (cond b (neg_ℤ (pos r.count)) (pos r.count))
    by true = (omega (arith, ints), omega (arith, ints))
    by false = (omega (arith, ints), omega (arith, ints))

at_within : (o : Ordering) (z : ℤ) → Within 65535 z → Within 65535 (if_equal o z)
at_within Less z w = (omega (arith, ints), omega (arith, ints))
at_within Equal z w = w
at_within Greater z w = (omega (arith, ints), omega (arith, ints))

sum_within : (n : ℕ) (a b : ℤ) → Within 65535 a → Within (65535 * n) b → Within (65535 * suc n) (a +ℤ b)
sum_within n a b v w =
    let p = v.0 in
    let q = v.1 in
    let s = w.0 in
    let t = w.1 in
    (omega (arith, ints), omega (arith, ints))

count_within : (m : List Record) → AllByRecursion Counted m → (q : Row) → Within (65535 * length m) (count (map keyed_movement m) q)
unfolding count
count_within [] all q = (omega (arith, ints), omega (arith, ints))
count_within (r ∷ m) all q = sum_within (length m) (copies_at q (key r.node r.row) (signed_copies r)) (count (map keyed_movement m) q) (at_within (row_order (key r.node r.row) q) (signed_copies r) (copies_within r all.0)) (count_within m all.1 q)

fits_within : (n : ℕ) (a b : ℤ) → Within 65535 a → Within (65535 * n) b → n < 1024 → SFits w32 (a +ℤ b)
fits_within n a b v w l =
    let p = v.0 in
    let q = v.1 in
    let s = w.0 in
    let t = w.1 in
    omega (arith, ints)

pub record Empty (s : ChangeTable) : Type 0 where
  pub none : items s ≡ []
  pub long : 1024 ≤ capacity s

module _ (nodes : List Node) (bytes : List ℕ) where
  pub record Reached (s t : ChangeTable) (at seen : ℕ) : Type 0 where
    pub movements : List Record
    pub many : length movements ≡ seen
    pub counted : AllByRecursion Counted movements
    pub based : AllByRecursion (λ r. of_base nodes r ≡ true) movements
    pub answer : prefixed movements (movements_in nodes (onward bytes at seen)) ≡ gathered nodes bytes
    pub until : movements ++ movements_until nodes (onward bytes at seen) ≡ gathered_until nodes bytes
    pub nets : Empty s → changes t ≡ collect (map keyed_movement movements)

  pub reached_first : (s : ChangeTable) → Reached s s 0 0
  unfolding collect
  reached_first s =
      record {
        movements = [];
        many = refl;
        counted = tt;
        based = tt;
        answer = prefixed_none (gathered nodes bytes);
        until = refl;
        nets = λ e. ap (map keyed) e.none;
      }

  module _ (s t : ChangeTable) (at seen : ℕ) (x : Reached s t at seen) (same : SameRun s t) where
    addable : (r : Record) → Counted r → seen < 1024 → Empty s → Addable t r
    addable r c few e =
        let n = x.nets e in
        let l = length_collect (map keyed_movement x.movements) in
        let a = ap length n in
        let b = length-map (items t) keyed in
        let d = length-map x.movements keyed_movement in
        let long = e.long in
        let cap = same.long in
        let many = x.many in
        let k = key r.node r.row in
        let there : count (changes t) k ≡ count (map keyed_movement x.movements) k = ap (λ v. count v k) n ∙ count_collect (map keyed_movement x.movements) k in
        record {
          room = omega arith;
          fits = subst (λ z. SFits w32 (signed_copies r +ℤ z)) (sym there) (fits_within (length x.movements) (signed_copies r) (count (map keyed_movement x.movements) k) (copies_within r c) (count_within x.movements x.counted k) (omega arith));
        }

    pub reached_more : (r : Record) (to then : ℕ) (u : ChangeTable) → Read bytes at seen to then r → of_base nodes r ≡ true → Counted r → (Addable t r → Added t r u) → Reached s u to then
    unfolding movements_in movements_until
    reached_more r to then u v b c add =
        let next = onward bytes to (seen + 1) in
        let ms = x.movements in
        let answer : prefixed ms (movements_in nodes (onward bytes at seen)) ≡ prefixed (ms ++ r ∷ []) (movements_in nodes next) =
        ap (λ o. prefixed ms (movements_in nodes o)) v.rest ∙ ap (λ f. prefixed ms (cond f (behind r (movements_in nodes next)) (Err (table_refusal at)))) b ∙ prefixed_more ms r (movements_in nodes next) in
        let until : ms ++ movements_until nodes (onward bytes at seen) ≡ (ms ++ r ∷ []) ++ movements_until nodes next =
        ap (λ o. ms ++ movements_until nodes o) v.rest ∙ ap (λ f. ms ++ cond f (r ∷ movements_until nodes next) []) b ∙ sym (append_assoc ms (r ∷ []) (movements_until nodes next)) in
        let counted = v.counted in
        let m = x.many in
        record {
          movements = ms ++ r ∷ [];
          many = length-append ms (r ∷ []) ∙ (omega arith);
          counted = All-push Counted ms r x.counted c;
          based = All-push (λ r. of_base nodes r ≡ true) ms r x.based b;
          answer = ap (λ n. prefixed (ms ++ r ∷ []) (movements_in nodes (onward bytes to n))) counted ∙ (sym answer ∙ x.answer);
          until = ap (λ n. (ms ++ r ∷ []) ++ movements_until nodes (onward bytes to n)) counted ∙ (sym until ∙ x.until);
          nets = λ e. (add (addable r c v.few e)).after ∙ ap (add_copies (key r.node r.row) (signed_copies r)) (x.nets e) ∙ sym (ap collect (map-append keyed_movement ms (r ∷ [])) ∙ collect_push (map keyed_movement ms) (keyed_movement r));
        }

    pub record Ended (o : Result (List Record) Told) : Type 0 where
      pub answer : gathered nodes bytes ≡ o
      pub until : gathered_until nodes bytes ≡ x.movements

    pub reached_end : onward bytes at seen ≡ ends → Ended (Ok x.movements)
    unfolding movements_in movements_until
    reached_end o =
        record {
          answer = sym x.answer ∙ ap (λ v. prefixed x.movements (movements_in nodes v)) o ∙ ap Ok (append-nil x.movements);
          until = sym x.until ∙ ap (λ v. x.movements ++ movements_until nodes v) o ∙ append-nil x.movements;
        }

    pub reached_refused : (e : Refusal) → onward bytes at seen ≡ refused e → Ended (Err (of_message e))
    unfolding movements_in movements_until
    reached_refused e o =
        record {
          answer = sym x.answer ∙ ap (λ v. prefixed x.movements (movements_in nodes v)) o;
          until = sym x.until ∙ ap (λ v. x.movements ++ movements_until nodes v) o ∙ append-nil x.movements;
        }

    pub reached_misfit : (r : Record) (to then : ℕ) → Read bytes at seen to then r → false ≡ of_base nodes r → Ended (Err (table_refusal at))
    unfolding movements_in movements_until
    reached_misfit r to then v b =
        let next = onward bytes to (seen + 1) in
        record {
          answer = sym x.answer ∙ ap (λ o. prefixed x.movements (movements_in nodes o)) v.rest ∙ ap (λ f. prefixed x.movements (cond f (behind r (movements_in nodes next)) (Err (table_refusal at)))) (sym b);
          until = sym x.until ∙ ap (λ o. x.movements ++ movements_until nodes o) v.rest ∙ ap (λ f. x.movements ++ cond f (r ∷ movements_until nodes next) []) (sym b) ∙ append-nil x.movements;
        }

    -- what the table has at the end
    pub reached_nets : (o : Result (List Record) Told) → Ended o → length nodes ≤ 16 → items s ≡ [] → 1024 ≤ capacity s → items t ≡ nets_of (gathered_until nodes bytes)
    reached_nets o d few none long =
        let n = x.nets (record { none = none; long = long }) in
        let low : AllByRecursion (λ r. r.node ≤ 15) x.movements = All-weaker (λ r. of_base nodes r ≡ true) (λ r. r.node ≤ 15) (λ r b. let l = base_low nodes r b in omega arith) x.movements x.based in
        keyed_same (items t) (nets_of x.movements) (n ∙ sym (keyed_nets x.movements low)) ∙ ap nets_of (sym d.until)
