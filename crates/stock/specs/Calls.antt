-- Lists of calls on a stock: what each is answered, and what they leave. Assumes nothing.
--     Answer                     a number, a row with its count or none, or the outcome of a put or a take
--     call_answer, after_call    what one call is answered and leaves
--     answers, after_calls       the same of a list of calls, made one after the other
--     StocksAlike                holdings that are equal answer equal calls alike and stay equal; the capacity never changes
use Rattle.std.specs.Prelude.{◌≡◌, ℕ, List, [], ◌∷◌, Option, Result}
use Rattle.bag.specs.Order.{Row}
use Rattle.bag.specs.Refusal.{Refusal}
use Rattle.stock.specs.Holding.{Holding, copies, lines_of, next_answer, put_answer, after_put, take_answer, after_take}
use Rattle.stock.specs.declared.call.StockCall.{StockCall}
use Rattle.stock.specs.declared.call.StockCall.TheVariants as calls

pub data Answer : Type 0 where
  number : ℕ → Answer
  line : Option (Row × ℕ) → Answer
  outcome : Result (Unit {0}) Refusal → Answer

abbrev pub call_answer : Holding → StockCall → Answer
call_answer h calls.Capacity = number h.capacity
call_answer h calls.Lines = number (lines_of h)
call_answer h (calls.Count s r) = number (copies h s r)
call_answer h (calls.Next s r) = line (next_answer h s r)
call_answer h (calls.Put s r n) = outcome (put_answer h s r n)
call_answer h (calls.Take s r n) = outcome (take_answer h s r n)

abbrev pub after_call : Holding → StockCall → Holding
after_call h calls.Capacity = h
after_call h calls.Lines = h
after_call h (calls.Count s r) = h
after_call h (calls.Next s r) = h
after_call h (calls.Put s r n) = after_put h s r n
after_call h (calls.Take s r n) = after_take h s r n

unfoldable pub answers : Holding → List StockCall → List Answer
answers h [] = []
answers h (c ∷ cs) = call_answer h c ∷ answers (after_call h c) cs

unfoldable pub after_calls : Holding → List StockCall → Holding
after_calls h [] = h
after_calls h (c ∷ cs) = after_calls (after_call h c) cs

pub record StocksAlike : Type 0 where
  pub answer_alike : (h k : Holding) (cs : List StockCall) → h ≡ k → answers h cs ≡ answers k cs
  pub stay_equal : (h k : Holding) (cs : List StockCall) → h ≡ k → after_calls h cs ≡ after_calls k cs
  pub capacity_stays : (h : Holding) (cs : List StockCall) → (after_calls h cs).capacity ≡ h.capacity
