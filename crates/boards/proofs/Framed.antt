-- A frame whose length and bytes are whole.
use Rattle.std.proofs.Common.{◌≡◌, ℕ, ◌+◌, ◌-◌, ◌*◌, ◌<◌, ◌≤◌, List, length, get_or, take, drop, Option, Some, None, refl}
use Rattle.std.specs.Option.{MatchOption}
use Rattle.std.proofs.lemmas.List.{take_rest}
use Rattle.std.proofs.lemmas.Bool.{le-ltb, lt-ltb}
use Rattle.message.proofs.Cuts.{first_two_is}
use Rattle.boards.specs.Frame.{framed}

-- what a pattern `[high, low, rest @ ..]` binds to `rest`
abbrev pub rest_of : List ℕ → List ℕ
rest_of input = take (length input - 2) (drop 2 input)

module _ (input : List ℕ) (n : ℕ) (two : 2 ≤ length input) (e : n ≡ get_or input 0 0 * 256 + get_or input 1 0) where
  -- `k` is where the bytes behind the length are cut
  pub framed_whole : {k : ℕ} (front back : List ℕ) → k ≤ length (rest_of input) → front ≡ take k (rest_of input) → back ≡ drop k (rest_of input) → k ≡ n → framed input ≡ Some (front, back)
  framed_whole front back l f b is =
      let r = take_rest input 2 in
      let l' : n ≤ length (drop 2 input) = rw (r, is) at l in
      let f' : front ≡ take n (drop 2 input) = rw (r, is) at f in
      let b' : back ≡ drop n (drop 2 input) = rw (r, is) at b in
      rw (first_two_is input two, ← e, le-ltb (length (drop 2 input)) n l', f', b') refl

  pub framed_torn : length (rest_of input) < n → framed input ≡ None
  framed_torn l =
      let l' : length (drop 2 input) < n = rw (take_rest input 2) at l in
      rw (first_two_is input two, ← e, lt-ltb (length (drop 2 input)) n l') refl

-- what follows in either case of an option
pub in_either : {X : Type 0} {P P' : Type 0} {Q Q' : X → Type 0} (o : Option X) → (P → P') → ((x : X) → Q x → Q' x) → MatchOption o P Q → MatchOption o P' Q'
in_either None f g h = f h
in_either (Some x) f g h = g x h
