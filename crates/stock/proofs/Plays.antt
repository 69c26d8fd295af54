-- Playing a list of calls on two stocks, call by call. Assumes nothing.
--     stocks_alike         the law of lists of calls
--     Compared             what is left of the calls decides with the comparison so far whether all answers are alike
--     compared_none, compared_more, compared_all      before the first call, after one more, and after the last
--     after_more, after_all      what a list of calls leaves, call by call
--     next_call            what is left begins with the next call
use Rattle.std.proofs.Common.{◌≡◌, ℕ, ◌+◌, ◌<◌, Bool, true, false, ◌&&◌, List, [], ◌∷◌, length, get_or, drop, Ok, Err, Decides, Result, sym, refl, ap, ◌∙◌, ap₂, add-one, arith, drop-cons}
use Rattle.bag.specs.Refusal.{Refusal, left_by}
use Rattle.stock.specs.Holding.{Holding, put_answer, take_answer}
use Rattle.stock.specs.Calls.{Answer, call_answer, after_call, answers, after_calls, StocksAlike}
use Rattle.stock.specs.declared.call.StockCall.{StockCall}
use Rattle.stock.specs.declared.call.StockCall.TheVariants as calls

capacity_left : (r : Result (Unit {0}) Refusal) (h k : Holding) → k.capacity ≡ h.capacity → (left_by r h k).capacity ≡ h.capacity
capacity_left (Ok u) h k e = e
capacity_left (Err f) h k e = refl

capacity_after : (h : Holding) (c : StockCall) → (after_call h c).capacity ≡ h.capacity
capacity_after h calls.Capacity = refl
capacity_after h calls.Lines = refl
capacity_after h (calls.Count s r) = refl
capacity_after h (calls.Next s r) = refl
capacity_after h (calls.Put s r n) = capacity_left (put_answer h s r n) h _ refl
capacity_after h (calls.Take s r n) = capacity_left (take_answer h s r n) h _ refl

capacity_stays : (h : Holding) (cs : List StockCall) → (after_calls h cs).capacity ≡ h.capacity
unfolding after_calls
capacity_stays h [] = refl
capacity_stays h (c ∷ cs) = capacity_stays (after_call h c) cs ∙ capacity_after h c

pub stocks_alike : StocksAlike
stocks_alike = record { answer_alike = λ h k cs e. ap (λ m. answers m cs) e; stay_equal = λ h k cs e. ap (λ m. after_calls m cs) e; capacity_stays = capacity_stays }

-- the calls `left` are still to be made, on stocks that then hold h and k
pub record Compared (h₀ k₀ : Holding) (cs : List StockCall) (h k : Holding) (left : List StockCall) (alike : Bool) : Type 0 where
  pub fore : alike ≡ true → answers h left ≡ answers k left → answers h₀ cs ≡ answers k₀ cs
  pub back : answers h₀ cs ≡ answers k₀ cs → (alike ≡ true) × (answers h left ≡ answers k left)

pub compared_none : (h k : Holding) (cs : List StockCall) → Compared h k cs h k cs true
compared_none h k cs = record { fore = λ t e. e; back = λ e. (refl, e) }

both_true : (a b : Bool) → (a && b) ≡ true → (a ≡ true) × (b ≡ true)
both_true true b e = (refl, e)
both_true false b e = let z : ◌≡◌ {A = ℕ} 0 1 = cc in absurd (let y : ⊥ = omega arith in y)

true_both : (a b : Bool) → a ≡ true → b ≡ true → (a && b) ≡ true
true_both true b e f = f
true_both false b e f = e

module _ (h₀ k₀ : Holding) (cs : List StockCall) (h k h' k' : Holding) (c : StockCall) (left : List StockCall) (alike same : Bool) where
  pub compared_more : h' ≡ after_call h c → k' ≡ after_call k c → Decides same (call_answer h c ≡ call_answer k c) → Compared h₀ k₀ cs h k (c ∷ left) alike → Compared h₀ k₀ cs h' k' left (alike && same)
  unfolding answers
  compared_more e f d before =
      let eh : answers h' left ≡ answers (after_call h c) left = ap (λ m. answers m left) e in
      let ek : answers k' left ≡ answers (after_call k c) left = ap (λ m. answers m left) f in
      record {
        fore = λ t r. before.fore (both_true alike same t).0 (ap₂ (λ (a : Answer) (rest : List Answer). a ∷ rest) (d.0 (both_true alike same t).1) (sym eh ∙ r ∙ ek));
        back = λ r. let b = before.back r in (true_both alike same b.0 (d.1 (head b.1)), eh ∙ tail b.1 ∙ sym ek);
      }
    where
      head : (call_answer h c ∷ answers (after_call h c) left) ≡ (call_answer k c ∷ answers (after_call k c) left) → call_answer h c ≡ call_answer k c
      head q = cc

      tail : (call_answer h c ∷ answers (after_call h c) left) ≡ (call_answer k c ∷ answers (after_call k c) left) → answers (after_call h c) left ≡ answers (after_call k c) left
      tail q = cc

pub compared_all : (h₀ k₀ : Holding) (cs : List StockCall) (h k : Holding) (alike : Bool) → Compared h₀ k₀ cs h k [] alike → Decides alike (answers h₀ cs ≡ answers k₀ cs)
unfolding answers
compared_all h₀ k₀ cs h k alike p = (λ t. p.fore t refl, λ e. (p.back e).0)

pub after_more : (h h' : Holding) (c : StockCall) (left : List StockCall) → h' ≡ after_call h c → after_calls h' left ≡ after_calls h (c ∷ left)
unfolding after_calls
after_more h h' c left e = ap (λ m. after_calls m left) e

pub after_all : (h m : Holding) → after_calls h [] ≡ m → h ≡ m
unfolding after_calls
after_all h m e = e

pub next_call : (cs : List StockCall) (i : ℕ) → i < length cs → drop i cs ≡ get_or cs i calls.Capacity ∷ drop (i + 1) cs
next_call cs i l = drop-cons cs i calls.Capacity l ∙ ap (λ j. get_or cs i calls.Capacity ∷ drop j cs) (sym (add-one i))
