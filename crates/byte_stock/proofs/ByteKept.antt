-- From stored lines to the bytes that hold them. Assumes nothing.
--     SoundLines b len               what a stock keeps, told of its bytes and of how many lines there are
--     PutLeft, TakeLeft              all that a put and a take leave in bytes, and that the bytes are sound
--     sound_from                     bytes that hold kept lines, and 00 behind them, are sound
--     left_from, left_same           what a call leaves, from what it makes of the lines; a call that changes nothing
--     bytes_set, bytes_push, bytes_freed      what the writes leave
--     order_decides                  comparing two rows decides whether they are the same
--     found_at, found_none           what the place of a line says of the lines
use Rattle.std.proofs.Common.{◌≡◌, ℕ, zero, suc, ◌+◌, ◌-◌, ◌*◌, ◌<◌, ◌≤◌, Bool, true, false, cond, eqb, Some, None, Option, List, [], ◌∷◌, ◌++◌, length, take, set, replicate, Result, Decides, sym, refl, ap, ◌∙◌, subst, ap₂, arith}
use Rattle.std.specs.Ordering.{is_eq}
use Rattle.std.specs.Cmp.{Equal-is}
use Rattle.std.specs.List.{AllByRecursion}
use Rattle.std.specs.Option.{option_map}
use Rattle.std.proofs.lemmas.Bool.{and_parts, eqb-true, both_ways}
use Rattle.std.proofs.lemmas.List.{length-set, length_push}
use Rattle.std.proofs.ByRecursion.{All-get_or, All-set}
use Rattle.std.proofs.lemmas.List.FromFn.{length-map-range_with_len, get_or-map-range_with_len}
use Rattle.bag.specs.Order.{Row, row_order}
use Rattle.bag.specs.Lines.{blank_stock_line}
use Rattle.bag.specs.declared.lines.StockLine.{StockLine}
use Rattle.bag.specs.RowOrder.{order_equal, order_itself}
use Rattle.stock.specs.declared.fault.StockFault.{StockFault}
use Rattle.bag.specs.Refusal.{Refusal}
use Rattle.stock.specs.Refusal.{told}
use Rattle.stock.specs.Holding.{Holding, put_answer, after_put, take_answer, after_take}
use Rattle.byte_stock.specs.ByteLines.{line_bytes, layout, padded, line_at, stored_in, capacity_in, laid, freed_bytes}
use Rattle.stock.specs.Holding.{LawfulLine}
use Rattle.byte_stock.specs.ByteStored.{Stored, line_of, Apart, holding_of, has_key, place_of, freed, lines_after_put, lines_after_take}
use Rattle.byte_stock.proofs.ByteCodec.{stored_back}
use Rattle.byte_stock.proofs.ByteWrites.{set_laid, append_laid, shrink_laid}
use Rattle.byte_stock.specs.ByteTally.{Absent}
use Rattle.byte_stock.proofs.ByteSteps.{Kept, Makes, key_true, length_freed}

abbrev pub held_in : List ℕ → ℕ → Holding
held_in b len = holding_of (capacity_in (length b)) (stored_in len b)

pub record SoundLines (b : List ℕ) (len : ℕ) : Type 0 where
  pub room : len ≤ capacity_in (length b)
  pub lawful : AllByRecursion LawfulLine (stored_in len b)
  pub apart : Apart (stored_in len b)
  pub whole : b ≡ padded (length b) (stored_in len b)

-- a call over the bytes b answers and leaves what it is to: the answer a, the lines `made`, and `holding`
pub record Left (b : List ℕ) (a : Result (Unit {0}) Refusal) (holding : Holding) (made : Stored) (answered : Result (Unit {0}) StockFault) (bytes_after : List ℕ) (len_after : ℕ) : Type 0 where
  pub answer : told answered ≡ a
  pub after : held_in bytes_after len_after ≡ holding
  pub lines : stored_in len_after bytes_after ≡ made
  pub bytes : bytes_after ≡ padded (length b) made
  pub sound : SoundLines bytes_after len_after

abbrev pub PutLeft : List ℕ → ℕ → ℕ → Row → ℕ → Result (Unit {0}) StockFault → List ℕ → ℕ → Type 0
PutLeft b len s r n = Left b (put_answer (held_in b len) s r n) (after_put (held_in b len) s r n) (lines_after_put (capacity_in (length b)) s r n (stored_in len b))

abbrev pub TakeLeft : List ℕ → ℕ → ℕ → Row → ℕ → Result (Unit {0}) StockFault → List ℕ → ℕ → Type 0
TakeLeft b len s r n = Left b (take_answer (held_in b len) s r n) (after_take (held_in b len) s r n) (lines_after_take (capacity_in (length b)) s r n (stored_in len b))

pub length_stored : (b : List ℕ) (len : ℕ) → length (stored_in len b) ≡ len
length_stored b len = length-map-range_with_len (line_at b) 0 len

pub line_in : (b : List ℕ) (len i : ℕ) → i < len → line_of (stored_in len b) i ≡ line_at b i
line_in b len i h = get_or-map-range_with_len (line_at b) 0 len i i blank_stock_line h (omega arith)

pub kept_in : (b : List ℕ) (len : ℕ) → SoundLines b len → Kept (capacity_in (length b)) (stored_in len b)
kept_in b len h = record { lawful = h.lawful; apart = h.apart; room = let n = length_stored b len in let m = h.room in omega arith }

pub stored_from : (b : List ℕ) (len : ℕ) (ks : Stored) → AllByRecursion LawfulLine ks → b ≡ padded (length b) ks → len ≡ length ks → stored_in len b ≡ ks
stored_from b len ks a e n = ap₂ stored_in n e ∙ stored_back ks (replicate (length b - 35 * length ks) 0) a

pub sound_from : (b : List ℕ) (len : ℕ) (ks : Stored) → Kept (capacity_in (length b)) ks → b ≡ padded (length b) ks → len ≡ length ks → SoundLines b len
sound_from b len ks k e n =
    let s = stored_from b len ks k.lawful e n in
    let m = k.room in
    record {
      room = omega arith;
      lawful = subst (AllByRecursion LawfulLine) (sym s) k.lawful;
      apart = subst Apart (sym s) k.apart;
      whole = e ∙ ap (padded (length b)) (sym s);
    }

module _ (b : List ℕ) {a : Result (Unit {0}) Refusal} {holding : Holding} {made : Stored} (answered : Result (Unit {0}) StockFault) where
  pub left_from : (d : List ℕ) (len_after : ℕ) (ks : Stored) (x : Result (Unit {0}) Refusal) → Makes (capacity_in (length b)) a holding made ks x → told answered ≡ x → length d ≡ length b → d ≡ padded (length b) ks → len_after ≡ length ks → Left b a holding made answered d len_after
  left_from d len_after ks x m t l e k =
      let f : d ≡ padded (length d) ks = e ∙ ap (λ z. padded z ks) (sym l) in
      let g : Kept (capacity_in (length d)) ks = subst (λ z. Kept (capacity_in z) ks) (sym l) m.kept in
      let w = stored_from d len_after ks m.kept.lawful f k in
      record {
        answer = t ∙ sym m.answer;
        after = ap₂ (λ z y. holding_of (capacity_in z) y) l w ∙ sym m.after;
        lines = w ∙ sym m.lines;
        bytes = e ∙ ap (padded (length b)) (sym m.lines);
        sound = sound_from d len_after ks g f k;
      }

  -- a call that changes nothing
  pub left_same : (len : ℕ) (x : Result (Unit {0}) Refusal) → SoundLines b len → Makes (capacity_in (length b)) a holding made (stored_in len b) x → told answered ≡ x → Left b a holding made answered b len
  left_same len x h m t = left_from b len (stored_in len b) x m t refl h.whole (sym (length_stored b len))

-- the writes
pub bytes_set : (b : List ℕ) (ls : Stored) (i : ℕ) (l : StockLine) → AllByRecursion LawfulLine ls → LawfulLine l → i < length ls → b ≡ padded (length b) ls → laid b (35 * i) (line_bytes l) ≡ padded (length b) (set ls i l)
bytes_set b ls i l a k h e =
    ap (λ x. laid x (35 * i) (line_bytes l)) e
    ∙ set_laid ls i l (replicate (length b - 35 * length ls) 0) a k h
    ∙ ap (λ n. layout (set ls i l) ++ replicate (length b - 35 * n) 0) (sym (length-set ls i l))

pub bytes_push : (b : List ℕ) (ls : Stored) (l : StockLine) → AllByRecursion LawfulLine ls → LawfulLine l → length ls < capacity_in (length b) → b ≡ padded (length b) ls → laid b (35 * length ls) (line_bytes l) ≡ padded (length b) (ls ++ l ∷ [])
bytes_push b ls l a k h e =
    let m = length b - 35 * length ls in
    let n = length_push ls l in
    ap (λ x. laid x (35 * length ls) (line_bytes l)) e
    ∙ append_laid ls l m a k (omega arith)
    ∙ ap (λ z. layout (ls ++ l ∷ []) ++ replicate z 0) (omega arith)

pub bytes_freed : (b : List ℕ) (len i : ℕ) → SoundLines b len → i < len → freed_bytes b i len ≡ padded (length b) (freed i (stored_in len b))
unfolding freed_bytes
bytes_freed b len i h k =
    let ls = stored_in len b in
    let n : length ls ≡ len = length_stored b len in
    let m = h.room in
    let l = line_of ls (length ls - 1) in
    let inside : length ls - 1 < length ls = omega arith in
    let g : LawfulLine l = All-get_or LawfulLine ls (length ls - 1) blank_stock_line inside h.lawful in
    let ks = set ls i l in
    let q : length ks ≡ length ls = length-set ls i l in
    let z = length b - 35 * length ks in
    let last : line_at b (len - 1) ≡ l = sym (line_in b len (len - 1) (omega arith)) ∙ ap (λ x. line_of ls (x - 1)) (sym n) in
    let one : laid b (35 * i) (line_bytes (line_at b (len - 1))) ≡ padded (length b) ks =
    ap (λ x. laid b (35 * i) (line_bytes x)) last ∙ bytes_set b ls i l h.lawful g (omega arith) h.whole in
    let two : laid (padded (length b) ks) (35 * (length ks - 1)) (replicate 35 0) ≡ layout (take (length ks - 1) ks) ++ replicate (35 + z) 0 =
    shrink_laid ks z (All-set LawfulLine ls i l g h.lawful) (omega arith) in
    let w = length_freed ls i (omega arith) in
    ap₂ (λ x y. laid x (35 * (y - 1)) (replicate 35 0)) one (sym n ∙ sym q)
    ∙ two
    ∙ ap (λ x. layout (take (x - 1) ks) ++ replicate (35 + z) 0) q
    ∙ ap (λ x. layout (freed i ls) ++ replicate x 0) (omega arith)

-- what a search finds
pub order_decides : (a b : Row) → Decides (is_eq (row_order a b)) (a ≡ b)
order_decides a b = (λ t. order_equal a b ((Equal-is (row_order a b)).0 t), λ e. ap is_eq (ap (row_order a) (sym e) ∙ order_itself a))

pub record LineAtPlace (ls : Stored) (s : ℕ) (r : Row) (i : ℕ) : Type 0 where
  pub inside : i < length ls
  pub shelf : (line_of ls i).shelf ≡ s
  pub row : (line_of ls i).row ≡ r

key_parts : (l : StockLine) (s : ℕ) (r : Row) → has_key s r l ≡ true → (l.shelf ≡ s) × (l.row ≡ r)
key_parts l s r h =
    let k = and_parts (eqb l.shelf s) (is_eq (row_order l.row r)) h in
    (eqb-true l.shelf s k.0, (order_decides l.row r).0 k.1)

none_or_some : {X : Type 0} {x : X} → ◌≡◌ {A = Option X} None (Some x) → ⊥
none_or_some e = let z : ◌≡◌ {A = ℕ} 0 1 = cc in let y : ⊥ = omega arith in y

pub found_at : (s : ℕ) (r : Row) (ls : Stored) (i : ℕ) → place_of s r ls ≡ Some i → LineAtPlace ls s r i
unfolding place_of
found_at s r [] i e = absurd (none_or_some e)
found_at s r (l ∷ ls) i e = by (has_key s r l) refl (place_of s r ls) refl (found_at s r ls) e
  where
    behind : (j : ℕ) → LineAtPlace ls s r j → i ≡ suc j → LineAtPlace (l ∷ ls) s r i
    behind j p q = subst (LineAtPlace (l ∷ ls) s r) (sym q) (let m = p.inside in record { inside = omega arith; shelf = p.shelf; row = p.row })

    by : (b : Bool) → has_key s r l ≡ b → (o : Option ℕ) → place_of s r ls ≡ o → ((j : ℕ) → place_of s r ls ≡ Some j → LineAtPlace ls s r j) →
        cond b (Some 0) (option_map suc o) ≡ Some i → LineAtPlace (l ∷ ls) s r i
    by true h o q ih e =
        let k = key_parts l s r h in
        let z : i ≡ 0 = cc in
        subst (LineAtPlace (l ∷ ls) s r) (sym z) (record { inside = omega arith; shelf = k.0; row = k.1 })
    by false h None q ih e = absurd (none_or_some e)
    by false h (Some j) q ih e = behind j (ih j q) (let z : i ≡ suc j = cc in z)

pub found_none : (s : ℕ) (r : Row) (ls : Stored) → place_of s r ls ≡ None → Absent s r ls
unfolding place_of
found_none s r [] e = λ k h. absurd (omega arith)
found_none s r (l ∷ ls) e = by (has_key s r l) refl (place_of s r ls) refl (found_none s r ls) e
  where
    both : has_key s r l ≡ false → Absent s r ls → (k : ℕ) → k < suc (length ls) → (line_of (l ∷ ls) k).shelf ≡ s → (line_of (l ∷ ls) k).row ≡ r → ⊥
    both h rest zero m f g = both_ways (has_key s r l) h (key_true l s r f g)
    both h rest (suc k) m f g = rest k (omega arith) f g

    by : (b : Bool) → has_key s r l ≡ b → (o : Option ℕ) → place_of s r ls ≡ o → (place_of s r ls ≡ None → Absent s r ls) → cond b (Some 0) (option_map suc o) ≡ None → Absent s r (l ∷ ls)
    by true h o q ih e = absurd (none_or_some (sym e))
    by false h (Some j) q ih e = absurd (none_or_some (sym e))
    by false h None q ih e = both h (ih q)

-- a stock without lines
pub none_kept : (c : ℕ) → Kept c []
none_kept c = record { lawful = tt; apart = λ i j a b e f. absurd (omega arith); room = omega arith }

pub blank_padded : (n : ℕ) → replicate n 0 ≡ padded n []
unfolding layout
blank_padded n = ap (λ m. replicate m 0) (let z : n ≡ n - 0 = omega arith in z)
