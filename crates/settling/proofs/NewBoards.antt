-- The lines of a sheet lead from the old bags to the new. Assumes nothing.
--     length_differences, canonical_differences      as many as there are new bags, each canonical
--     getD_differences               the difference of a node that has a new bag
--     sheet_leads_to_new_boards      the law
use Rattle.std.proofs.Common.{◌≡◌, ℕ, zero, suc, ◌+◌, ◌-◌, ◌<◌, ◌≤◌, List, [], ◌∷◌, length, get_or, drop, pos, ◌+ℤ◌, ◌≤ℤ◌, sym, refl, ap, ◌∙◌, subst, ⊎_elim, arith}
use lib.IntN.{+ℤ_idr}
use Rattle.std.specs.List.{AllByRecursion}
use Rattle.std.proofs.lemmas.List.{length-append, length-drop, get_or_append_left, get_or-append_right, get_or-drop, get_or_past}
use Rattle.std.proofs.ByRecursion.{All-get_or}
use Rattle.std.proofs.lemmas.Int.{ints}
use Rattle.std.proofs.lemmas.Bool.{cases_lt}
use Rattle.bag.specs.Order.{Row}
use Rattle.bag.specs.Columns.{IsRow}
use Rattle.bag.specs.Bag.{Lines, count, difference, Canonical, IsBag, EachRow}
use Rattle.bag.proofs.Moves.{difference_moves, canonical_difference}
use Rattle.bag.proofs.OperatorBags.{count_low}
use Rattle.stock.specs.Holding.{Holding, LawfulHolding, shelf_of, copies, lines_of}
use Rattle.sheet.specs.Sheets.{flattened}
use Rattle.settling.specs.Keys.{change_at}
use Rattle.settling.specs.Leading.{LeadsInCounts}
use Rattle.settling.specs.Boards.{differences, replaced, NewBoards, SheetLeadsToNewBoards}
use Rattle.settling.proofs.Flattened.{change_flattened, canonical_flattened, nodes_flattened}

length_differences : (olds news : List Lines) → length news ≤ length olds → length (differences olds news) ≡ length news
unfolding differences
length_differences [] news l = omega arith
length_differences (old ∷ olds) [] l = refl
length_differences (old ∷ olds) (new ∷ news) l = ap suc (length_differences olds news (omega arith))

canonical_differences : (olds news : List Lines) → AllByRecursion Canonical (differences olds news)
unfolding differences
canonical_differences [] news = tt
canonical_differences (old ∷ olds) [] = tt
canonical_differences (old ∷ olds) (new ∷ news) = (canonical_difference old new, canonical_differences olds news)

getD_differences : (olds news : List Lines) (k : ℕ) → length news ≤ length olds → k < length news → get_or (differences olds news) k [] ≡ difference (get_or olds k []) (get_or news k [])
unfolding differences
getD_differences [] news k l m = absurd (let z : ⊥ = omega arith in z)
getD_differences (old ∷ olds) [] k l m = absurd (let z : ⊥ = omega arith in z)
getD_differences (old ∷ olds) (new ∷ news) zero l m = refl
getD_differences (old ∷ olds) (new ∷ news) (suc k) l m = getD_differences olds news k (omega arith) (omega arith)

module _ (h : Holding) (news : List Lines) (law : LawfulHolding h) (boards : NewBoards news) where
  fits : length news ≤ length h.shelves
  fits = omega (arith, law.sixteen, boards.few)

  -- a shelf of the new holding is a new bag, or the old one if there is none
  new_shelf : (s : ℕ) → s < length news → shelf_of (replaced h news) s ≡ get_or news s []
  new_shelf s m = get_or_append_left news (drop (length news) h.shelves) [] s m

  old_shelf : (s : ℕ) → length news ≤ s → shelf_of (replaced h news) s ≡ shelf_of h s
  old_shelf s m =
      get_or-append_right news (drop (length news) h.shelves) (length news) s [] refl m
      ∙ get_or-drop (length news) h.shelves (s - length news) []
      ∙ ap (λ n. get_or h.shelves n []) (let e : length news + (s - length news) ≡ s = omega arith in e)

  each_shelf : (P : Lines → Type 0) → ((s : ℕ) → s < length news → P (get_or news s [])) → ((s : ℕ) → P (shelf_of h s)) → (s : ℕ) → P (shelf_of (replaced h news) s)
  each_shelf P a b s =
      ⊎_elim (λ (m : s < length news). subst P (sym (new_shelf s m)) (a s m))
      (λ (m : length news ≤ s). subst P (sym (old_shelf s m)) (b s))
      (cases_lt s (length news))

  change_is : (s : ℕ) (q : Row) → change_at (flattened 0 (differences h.shelves news)) s q ≡ count (get_or (differences h.shelves news) s []) q
  change_is s q = change_flattened 0 (differences h.shelves news) s s q (omega arith)

  counts : (s : ℕ) (q : Row) → count (shelf_of (replaced h news) s) q ≡ count (shelf_of h s) q +ℤ change_at (flattened 0 (differences h.shelves news)) s q
  unfolding count
  counts s q =
      ⊎_elim (λ (m : s < length news).
      ap (λ (xs : Lines). count xs q) (new_shelf s m) ∙ difference_moves (shelf_of h s) (get_or news s []) q
      ∙ ap (λ z. count (shelf_of h s) q +ℤ z) (sym (change_is s q ∙ ap (λ (xs : Lines). count xs q) (getD_differences h.shelves news s fits m))))
      (λ (m : length news ≤ s).
      let none : change_at (flattened 0 (differences h.shelves news)) s q ≡ pos 0 = change_is s q ∙ ap (λ (xs : Lines). count xs q) (get_or_past (differences h.shelves news) s [] (omega (arith, length_differences h.shelves news fits))) in
      ap (λ (xs : Lines). count xs q) (old_shelf s m) ∙ sym (ap (λ z. count (shelf_of h s) q +ℤ z) none ∙ +ℤ_idr (count (shelf_of h s) q)))
      (cases_lt s (length news))

  sixteen : length (replaced h news).shelves ≡ 16
  sixteen =
      let a = length-append news (drop (length news) h.shelves) in
      let b = length-drop (length news) h.shelves in
      omega (arith, a, b, fits, law.sixteen)

  bags : (s : ℕ) → IsBag (shelf_of (replaced h news) s)
  bags = each_shelf IsBag (λ s m. All-get_or IsBag news s [] m boards.bags) law.bags

  leads_in_counts : LeadsInCounts h (flattened 0 (differences h.shelves news)) (replaced h news)
  leads_in_counts =
      record {
        in_order = canonical_flattened 0 (differences h.shelves news) (canonical_differences h.shelves news);
        nodes = nodes_flattened 0 (differences h.shelves news) (omega (arith, length_differences h.shelves news fits, boards.few));
        sixteen = sixteen;
        bags = bags;
        capacity = refl;
        counts = λ s l q. counts s q;
      }

  lawful : lines_of (replaced h news) ≤ h.capacity → LawfulHolding (replaced h news)
  lawful room =
      record {
        sixteen = sixteen;
        bags = bags;
        rows = each_shelf (EachRow IsRow) (λ s m. All-get_or (EachRow IsRow) news s [] m boards.rows) law.rows;
        counts = λ s q. few s q;
        room = room;
        small = law.small;
      }
    where
      at_most : (s : ℕ) (q : Row) → count (shelf_of (replaced h news) s) q ≤ℤ pos 65535
      at_most s q = each_shelf (λ xs. count xs q ≤ℤ pos 65535) (λ t m. boards.counts t q) (λ t. let a = law.counts t q in let b = count_low (shelf_of h t) (law.bags t).1 q in omega (arith, ints, a, b)) s

      few : (s : ℕ) (q : Row) → copies (replaced h news) s q ≤ 65535
      few s q = let a = at_most s q in let b = count_low (shelf_of (replaced h news) s) (bags s).1 q in omega (arith, ints, a, b)

pub sheet_leads_to_new_boards : SheetLeadsToNewBoards
sheet_leads_to_new_boards =
    record {
      in_counts = leads_in_counts;
      with_room = λ h news law boards room. record { in_counts = leads_in_counts h news law boards; lawful = lawful h news law boards room };
    }
