-- Where the changes of the nodes stand, one behind the other. Assumes nothing.
--     differences_at, differences_long     the change of a node, and how many there are
--     changes_more     the change of one node more
--     flattened-++, flattened_one, flattened_last      lines of some nodes and of others behind them
--     board_short      the lines of a node are no more than all lines
--     run_at           the lines of a node stand where those of the nodes before end
use Rattle.std.proofs.Common.{◌≡◌, ℕ, zero, suc, ◌+◌, ◌-◌, ◌<◌, ◌≤◌, min, List, [], ◌∷◌, ◌++◌, length, take, drop, sym, refl, ap, ◌∙◌, arith}
use Rattle.std.proofs.lemmas.List.{append-nil, append_assoc, length-append, length-map, length-take, length-take-le, take_more, drop_more, take-append-drop, take_at, drop_at}
use Rattle.bag.specs.Bag.{Lines, difference}
use Rattle.stock.specs.Holding.{Holding, shelf_of}
use Rattle.plan.specs.Afresh.{board}
use Rattle.sheet.specs.Sheets.{of_node, change_line, flattened, RunOf}
use Rattle.settling.specs.Boards.{differences}
use Rattle.posting.specs.Changes.{changes_to}

pub differences_at : (olds news : List Lines) (i : ℕ) → i < length olds → i < length news → board (differences olds news) i ≡ difference (board olds i) (board news i)
unfolding differences
differences_at [] news i h k = absurd (let z : ⊥ = omega arith in z)
differences_at (o ∷ olds) [] i h k = absurd (let z : ⊥ = omega arith in z)
differences_at (o ∷ olds) (n ∷ news) zero h k = refl
differences_at (o ∷ olds) (n ∷ news) (suc i) h k = differences_at olds news i (omega arith) (omega arith)

pub differences_long : (olds news : List Lines) → length (differences olds news) ≡ min (length olds) (length news)
unfolding differences
differences_long [] news = omega arith
differences_long (o ∷ olds) [] = omega arith
differences_long (o ∷ olds) (n ∷ news) = let e = differences_long olds news in omega arith

module _ (h : Holding) (news : List Lines) (sixteen : length h.shelves ≡ 16) (few : length news ≤ 16) where
  pub changes_long : (k : ℕ) → k ≤ length news → length (changes_to h news k) ≡ k
  changes_long k l = let e = length-take k (differences h.shelves news) in let f = differences_long h.shelves news in omega arith

  pub changes_more : (k : ℕ) → k < length news → changes_to h news (k + 1) ≡ changes_to h news k ++ (difference (shelf_of h k) (board news k) ∷ [])
  changes_more k l =
      let f = differences_long h.shelves news in
      take_more (differences h.shelves news) k [] (omega arith)
      ∙ ap (λ d. changes_to h news k ++ (d ∷ [])) (differences_at h.shelves news k (omega arith) l)

pub flattened-++ : (k : ℕ) (a b : List Lines) → flattened k (a ++ b) ≡ flattened k a ++ flattened (k + length a) b
unfolding flattened
flattened-++ k [] b = let z : k ≡ k + 0 = omega arith in ap (λ n. flattened n b) z
flattened-++ k (d ∷ a) b =
    let z : suc k + length a ≡ k + suc (length a) = omega arith in
    ap (λ t. of_node k d ++ t) (flattened-++ (suc k) a b ∙ ap (λ n. flattened (suc k) a ++ flattened n b) z) ∙ sym (append_assoc (of_node k d) (flattened (suc k) a) (flattened (k + suc (length a)) b))

pub flattened_one : (n c : ℕ) (d : Lines) (ds : List Lines) → n ≡ c → flattened n (d ∷ ds) ≡ of_node c d ++ flattened (suc c) ds
unfolding flattened
flattened_one n c d ds e = ap (λ m. of_node m d ++ flattened (suc m) ds) e

pub flattened_last : (c : ℕ) (d : Lines) → of_node c d ++ flattened (suc c) [] ≡ of_node c d
unfolding flattened
flattened_last c d = append-nil (of_node c d)

pub run_at : (ds : List Lines) (c : ℕ) → c < length ds → RunOf (flattened 0 ds) (length (flattened 0 (take c ds))) (length (flattened 0 (take (c + 1) ds))) c (board ds c)
run_at ds c h =
    let a = take c ds in
    let d = board ds c in
    let n : length a ≡ c = length-take-le c ds (omega arith) in
    let front = flattened 0 a in
    let rest = flattened (suc c) (drop (c + 1) ds) in
    let here : flattened 0 ds ≡ front ++ (of_node c d ++ rest) =
    ap (flattened 0) (sym (take-append-drop c ds) ∙ ap (λ t. a ++ t) (drop_more ds c [] h)) ∙ flattened-++ 0 a (d ∷ drop (c + 1) ds) ∙ ap (λ t. front ++ t) (flattened_one (0 + length a) c d (drop (c + 1) ds) (omega arith)) in
    let more : flattened 0 (take (c + 1) ds) ≡ front ++ of_node c d =
    ap (flattened 0) (take_more ds c [] h) ∙ flattened-++ 0 a (d ∷ []) ∙ ap (λ t. front ++ t) (flattened_one (0 + length a) c d [] (omega arith) ∙ flattened_last c d) in
    let l = ap length more ∙ length-append front (of_node c d) in
    let whole = ap length here ∙ length-append front (of_node c d ++ rest) ∙ ap (λ n. length front + n) (length-append (of_node c d) rest) in
    let gap : length (flattened 0 (take (c + 1) ds)) - length front ≡ length (of_node c d) = omega arith in
    record {
      ascends = omega arith;
      inside = omega arith;
      holds = ap (λ n. take n (drop (length front) (flattened 0 ds))) gap ∙ ap (λ t. take (length (of_node c d)) t) (ap (drop (length front)) here ∙ drop_at front (of_node c d ++ rest) (length front) refl) ∙ take_at (of_node c d) rest (length (of_node c d)) refl;
    }

-- no board is longer than all lines
pub board_short : (k : ℕ) (ds : List Lines) (i : ℕ) → length (board ds i) ≤ length (flattened k ds)
unfolding flattened
board_short k [] i = omega arith
board_short k (d ∷ ds) zero = let e = length-append (of_node k d) (flattened (suc k) ds) in let f = length-map d (change_line k) in omega arith
board_short k (d ∷ ds) (suc i) = let e = length-append (of_node k d) (flattened (suc k) ds) in let f = board_short (suc k) ds i in omega arith
