-- What a holding is after some lines. Assumes nothing.
--     moved_none, moved_then, moved_more      after none, after some and then others, after one more
--     moved_one, moved_still                  after more copies of a row, and after a line that has nothing to settle
--     accepted_take, accepted_put             what a call leaves that is not refused
use Rattle.std.proofs.Common.{◌≡◌, ℕ, ◌+◌, ◌<◌, ◌≤◌, false, List, [], ◌∷◌, ◌++◌, map, length, get_or, take, ℤ, pos, ◌+ℤ◌, neg_ℤ, sym, refl, ap, ◌∙◌, subst, arith}
use lib.IntN.{+ℤ_idr}
use Rattle.std.proofs.lemmas.List.{take_more, map-append}
use Rattle.std.proofs.lemmas.Int.{ints}
use Rattle.std.proofs.lemmas.Bool.{le-ltb}
use Rattle.bag.specs.declared.lines.ChangeLine.{ChangeLine}
use Rattle.bag.specs.Order.{Row, row_order}
use Rattle.bag.specs.Bag.{Line, Lines, if_equal, count}
use Rattle.bag.specs.Integers.{count-++, if_equal_zero}
use Rattle.stock.specs.Holding.{Holding, shelf_of, copies, with_copies, lacks_room, after_take, after_put}
use Rattle.settling.specs.Keys.{key}
use Rattle.settling.specs.Steps.{Moved}
use Rattle.settling.proofs.HoldingCounts.{count_with_copies}
use Rattle.settling.proofs.ByPlace.{count_none}

pub moved_none : (h : Holding) → Moved h h []
moved_none h = record { capacity = refl; counts = λ t l q. sym (ap (λ z. count (shelf_of h t) q +ℤ z) (count_none (key t q)) ∙ +ℤ_idr (count (shelf_of h t) q)) }

pub moved_then : (h k m : Holding) (d e : Lines) → Moved h k d → Moved k m e → Moved h m (d ++ e)
moved_then h k m d e a b =
    record {
      capacity = b.capacity ∙ a.capacity;
      counts = λ t l q. let x = a.counts t l q in let y = b.counts t l q in let z = count-++ d e (key t q) in omega (arith, ints);
    }

-- one more line, for whatever is read off the lines
module _ (f : ChangeLine → Line) where
  pub moved_more : (h k m : Holding) (ps : List ChangeLine) (i : ℕ) (d : ChangeLine) → i < length ps → Moved h k (map f (take i ps)) → Moved k m (map f (get_or ps i d ∷ [])) → Moved h m (map f (take (i + 1) ps))
  moved_more h k m ps i d l a b =
      let more = ap (map f) (take_more ps i d l) ∙ map-append f (take i ps) (get_or ps i d ∷ []) in
      subst (Moved h m) (sym more) (moved_then h k m (map f (take i ps)) (map f (get_or ps i d ∷ [])) a b)

count_one : (k : Row) (z : ℤ) (q : Row) → count ((k, z) ∷ []) q ≡ if_equal (row_order k q) z
unfolding count
count_one k z q = +ℤ_idr (if_equal (row_order k q) z)

pub moved_one : (h : Holding) (s : ℕ) (r : Row) (z : ℤ) → length h.shelves ≡ 16 → Moved h (with_copies h s r z) ((key s r, z) ∷ [])
moved_one h s r z six =
    record {
      capacity = refl;
      counts = λ t l q. let a = count_with_copies h s r z t q (omega arith) in let b = count_one (key s r) z (key t q) in omega (arith, ints);
    }

pub moved_still : (h : Holding) (k : Row) → Moved h h ((k, pos 0) ∷ [])
moved_still h k =
    record {
      capacity = refl;
      counts = λ t l q. let b = count_one k (pos 0) (key t q) in let c = if_equal_zero (row_order k (key t q)) in omega (arith, ints);
    }

pub accepted_take : (h : Holding) (s : ℕ) (r : Row) (n : ℕ) → s ≤ 15 → n ≤ copies h s r → after_take h s r n ≡ with_copies h s r (neg_ℤ (pos n))
accepted_take h s r n l m = rw (le-ltb 15 s l, le-ltb (copies h s r) n m)

pub accepted_put : (h : Holding) (s : ℕ) (r : Row) (n : ℕ) → s ≤ 15 → copies h s r + n ≤ 65535 → lacks_room h s r n ≡ false → after_put h s r n ≡ with_copies h s r (pos n)
accepted_put h s r n l m room = rw (le-ltb 15 s l, le-ltb 65535 (copies h s r + n) m, room)
