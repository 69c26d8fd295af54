-- The boards of a plan worked out afresh, seen from all boards at once. Assumes nothing.
--     afresh_long      there is a board for each node
--     afresh_at        the board of a node is what its operator gives over all boards, since it names lower ones only
use Rattle.std.proofs.Common.{◌≡◌, ℕ, zero, suc, ◌+◌, ◌<◌, ◌≤◌, List, [], ◌∷◌, ◌++◌, length, get_or, take, sym, refl, ap, ◌∙◌, subst, ap₂, arith}
use Rattle.std.proofs.lemmas.List.{length_push, get_or_at, get_or-take, take_at, take_all, take-take}
use Rattle.bag.specs.Bag.{Lines}
use Rattle.bag.specs.Measure.{Measure}
use Rattle.bag.specs.Operators.{keep, pick, pair, both, monus, total}
use Rattle.plan.specs.declared.node.Node.{Node}
use Rattle.plan.specs.declared.node.Node.TheVariants.{Base, Keep, Pick, Pair, Both, Less, Total}
use Rattle.plan.specs.Lawful.{width, widths}
use Rattle.plan.specs.Sound.{Sound}
use Rattle.plan.proofs.Growth.{widths_front}
use Rattle.plan.specs.Afresh.{board, pairs_of, board_of, afresh_from, afresh}

-- a list that begins with a and b begins with a
shorter : {A : Type 0} (m n : ℕ) (a b c : List A) → length a ≡ m → m ≤ n → take n c ≡ a ++ b → take m c ≡ a
shorter m n a b c e h t = sym (take-take m n c h) ∙ ap (take m) t ∙ take_at a b m e

read_front : {A : Type 0} (n : ℕ) (a : List A) (y : A) (c : List A) (d : A) → n ≡ length a + 1 → take n c ≡ a ++ (y ∷ []) → get_or c (length a) d ≡ y
read_front n a y c d e t = sym (get_or-take n c (length a) d (omega arith)) ∙ ap (λ l. get_or l (length a) d) t ∙ get_or_at a y [] d (length a) refl

-- the nodes that come later leave what stands
module _ {V : Type 0} (M : Measure V) (net : ℕ → Lines) where
  afresh_front : (ws : List ℕ) (bs : List Lines) (xs : List Node) → take (length bs) (afresh_from M net ws bs xs) ≡ bs
  unfolding afresh_from
  afresh_front ws bs [] = take_all (length bs) bs (omega arith)
  afresh_front ws bs (x ∷ xs) =
      let b = board_of M ws (net (length bs)) bs x in
      let n = length_push bs b in
      shorter (length bs) (length (bs ++ (b ∷ []))) bs (b ∷ []) (afresh_from M net (ws ++ (width M.shows ws x ∷ [])) (bs ++ (b ∷ [])) xs) refl (omega arith) (afresh_front (ws ++ (width M.shows ws x ∷ [])) (bs ++ (b ∷ [])) xs)

  pub afresh_from_long : (ws : List ℕ) (bs : List Lines) (xs : List Node) → length (afresh_from M net ws bs xs) ≡ length bs + length xs
  unfolding afresh_from
  afresh_from_long ws bs [] = omega arith
  afresh_from_long ws bs (x ∷ xs) =
      let b = board_of M ws (net (length bs)) bs x in
      let n = length_push bs b in
      afresh_from_long (ws ++ (width M.shows ws x ∷ [])) (bs ++ (b ∷ [])) xs ∙ omega arith

  afresh_front_at : (ws : List ℕ) (bs : List Lines) (xs : List Node) (j : ℕ) (d : Node) → length ws ≡ length bs → j < length xs →
      board (afresh_from M net ws bs xs) (length bs + j)
      ≡ board_of M (take (length bs + j) (widths M.shows ws xs)) (net (length bs + j)) (take (length bs + j) (afresh_from M net ws bs xs)) (get_or xs j d)
  unfolding afresh_from widths
  afresh_front_at ws bs [] j d e h = absurd (let z : ⊥ = omega arith in z)
  afresh_front_at ws bs (x ∷ xs) zero d e h =
      let b = board_of M ws (net (length bs)) bs x in
      let w = width M.shows ws x in
      let all = afresh_from M net (ws ++ (w ∷ [])) (bs ++ (b ∷ [])) xs in
      let wide = widths M.shows (ws ++ (w ∷ [])) xs in
      let z : length bs + 0 ≡ length bs = omega arith in
      let front = afresh_front (ws ++ (w ∷ [])) (bs ++ (b ∷ [])) xs in
      let left : take (length bs + 0) all ≡ bs = ap (λ n. take n all) z ∙ shorter (length bs) (length (bs ++ (b ∷ []))) bs (b ∷ []) all refl (let n = length_push bs b in omega arith) front in
      let narrow : take (length bs + 0) wide ≡ ws = ap (λ n. take n wide) (z ∙ sym e) ∙ shorter (length ws) (length (ws ++ (w ∷ []))) ws (w ∷ []) wide refl (let n = length_push ws w in omega arith) (widths_front M.shows (ws ++ (w ∷ [])) xs) in
      ap (λ n. board all n) z ∙ read_front (length (bs ++ (b ∷ []))) bs b all [] (length_push bs b) front
      ∙ sym (ap₂ (λ t u. board_of M t (net (length bs + 0)) u x) narrow left ∙ ap (λ n. board_of M ws (net n) bs x) z)
  afresh_front_at ws bs (x ∷ xs) (suc j) d e h =
      let b = board_of M ws (net (length bs)) bs x in
      let w = width M.shows ws x in
      let all = afresh_from M net (ws ++ (w ∷ [])) (bs ++ (b ∷ [])) xs in
      let wide = widths M.shows (ws ++ (w ∷ [])) xs in
      let n : length (bs ++ (b ∷ [])) + j ≡ length bs + suc j = let m = length_push bs b in omega arith in
      subst (λ i. board all i ≡ board_of M (take i wide) (net i) (take i all) (get_or xs j d)) n
      (afresh_front_at (ws ++ (w ∷ [])) (bs ++ (b ∷ [])) xs j d (length_push ws w ∙ ap (λ m. m + 1) e ∙ sym (length_push bs b)) (omega arith))

board_take : (k : ℕ) (bs : List Lines) (c : ℕ) → c < k → board (take k bs) c ≡ board bs c
board_take k bs c h = get_or-take k bs c [] h

-- an operator looks at lower boards and widths only
module _ {V : Type 0} (M : Measure V) where
  board_of_lower : (s : ℕ) (ws vs : List ℕ) (k : ℕ) (n : Lines) (bs : List Lines) (x : Node) → Sound s vs k x → board_of M (take k ws) n (take k bs) x ≡ board_of M ws n bs x
  unfolding board_of
  board_of_lower s ws vs k n bs (Base w) f = refl
  board_of_lower s ws vs k n bs (Keep c a relation operand) f = ap (keep a relation operand) (board_take k bs c f.lower)
  board_of_lower s ws vs k n bs (Pick c columns) f = ap (pick (take columns.count columns.places)) (board_take k bs c f.lower)
  board_of_lower s ws vs k n bs (Pair l r pairs) f =
      ap (λ w. pair w (pairs_of pairs.count pairs.places) (board (take k bs) l) (board (take k bs) r)) (get_or-take k ws l 0 f.left)
      ∙ ap₂ (pair (get_or ws l 0) (pairs_of pairs.count pairs.places)) (board_take k bs l f.left) (board_take k bs r f.right)
  board_of_lower s ws vs k n bs (Both l r) f = ap₂ both (board_take k bs l f.left) (board_take k bs r f.right)
  board_of_lower s ws vs k n bs (Less l r) f = ap₂ monus (board_take k bs l f.left) (board_take k bs r f.right)
  board_of_lower s ws vs k n bs (Total c j columns) f = ap (total M j (take columns.count columns.places)) (board_take k bs c f.lower)

  pub afresh_long : (xs : List Node) (net : ℕ → Lines) → length (afresh M xs net) ≡ length xs
  unfolding afresh
  afresh_long xs net = afresh_from_long M net [] [] xs ∙ omega arith

  pub afresh_at : (xs : List Node) (net : ℕ → Lines) (k s : ℕ) (vs : List ℕ) (d : Node) → k < length xs → Sound s vs k (get_or xs k d) →
      board (afresh M xs net) k ≡ board_of M (widths M.shows [] xs) (net k) (afresh M xs net) (get_or xs k d)
  unfolding afresh
  afresh_at xs net k s vs d h f =
      let z : 0 + k ≡ k = omega arith in
      let at = afresh_front_at M net [] [] xs k d refl h in
      subst (λ i. board (afresh_from M net [] [] xs) i ≡ board_of M (take i (widths M.shows [] xs)) (net i) (take i (afresh_from M net [] [] xs)) (get_or xs k d)) z at
      ∙ board_of_lower s (widths M.shows [] xs) vs k (net k) (afresh_from M net [] [] xs) (get_or xs k d) f
