-- Tests of lines, told from the changed rows and the touched groups alone. Assumes nothing.
--     every_passes, every_if_each      that each line passes a test, by counts
--     tests_follow_change, fit_follows_change      their laws
--     bag_from_counts                  a canonical list without negative counts is a bag
use Rattle.std.proofs.Common.{◌≡◌, ℕ, zero, suc, Bool, true, false, cond, List, [], ◌∷◌, length, ℤ, pos, negsuc, ◌+ℤ◌, ◌≤ℤ◌, ◌<ℤ◌, Ordering, Less, Equal, Greater, sym, refl, ap, ◌∙◌, subst, ap₂, arith}
use lib.IntN.{+ℤ_idl, +ℤ_idr}
use Rattle.std.proofs.lemmas.Int.{ints}
use Rattle.bag.specs.Order.{Row, row_order}
use Rattle.bag.specs.Columns.{listed}
use Rattle.bag.specs.Bag.{Lines, is_zero, if_equal, count, Before, Canonical, Positive, EachRow, every_line}
use Rattle.bag.specs.Group.{AddsUp}
use Rattle.bag.specs.Measure.{Measure, MeasureLaws}
use Rattle.bag.specs.Operators.{pick, support, group_copies, group_value, column_worth, total_row, total, all_groups_fit}
use Rattle.bag.specs.Changes.{Moves}
use Rattle.bag.specs.Propagation.{touched_groups, group_of, read_group, fits_after}
use Rattle.bag.specs.Laws.{FitFollowsChange, TestsFollowChange}
use Rattle.bag.proofs.Numbers.{not_zero, zero_is, above_positive}
use Rattle.bag.specs.RowOrder.{order_equal}
use Rattle.bag.proofs.CanonicalForm.{count_before, count_head}
use Rattle.bag.proofs.Moves.{canonical_project, project_copies}
use Rattle.bag.proofs.GroupMoves.{group_value_ok, group_value_moves, group_copies_moves}
use Rattle.bag.proofs.AggregateMoves.{Touched}
use Rattle.bag.proofs.ChangeLaws.{touched}
use Rattle.bag.proofs.GroupKeys.{Key, keys_project}
use Rattle.bag.proofs.ReadBack.{column_worth_adds_up, read_group_is}

same_test : (a b : Bool) → (a ≡ true → b ≡ true) → (b ≡ true → a ≡ true) → a ≡ b
same_test true b f g = sym (f refl)
same_test false true f g = g refl
same_test false false f g = refl

both_true : (t a : Bool) → cond t a false ≡ true → (t ≡ true) × (a ≡ true)
both_true true a h = (refl, h)
both_true false a h = let z : ⊥ = cc in absurd z

module _ (f : Row → ℤ → Bool) where
  pub every_passes : (xs : Lines) → Canonical xs → every_line f xs ≡ true → (q : Row) → is_zero (count xs q) ≡ false → f q (count xs q) ≡ true
  unfolding every_line count
  every_passes [] c h q z = let y : ◌≡◌ {A = ℕ} 0 1 = cc in absurd (omega arith)
  every_passes (e ∷ xs) c h q z = let p = both_true (f e.0 e.1) (every_line f xs) h in by (row_order e.0 q) refl p.0 (every_passes xs c.2 p.1 q)
    where
      rest : (o : Ordering) → row_order e.0 q ≡ o → if_equal o e.1 ≡ pos 0 → count (e ∷ xs) q ≡ count xs q
      rest o p k = ap (λ o. if_equal o e.1 +ℤ count xs q) p ∙ ap (λ k. k +ℤ count xs q) k ∙ +ℤ_idl (count xs q)

      by : (o : Ordering) → row_order e.0 q ≡ o → f e.0 e.1 ≡ true → (is_zero (count xs q) ≡ false → f q (count xs q) ≡ true) → f q (count (e ∷ xs) q) ≡ true
      by Less p a ih = let k = rest Less p refl in ap (f q) k ∙ ih (sym (ap is_zero k) ∙ z)
      by Equal p a ih = let r = order_equal e.0 q p in ap₂ f (sym r) (ap (count (e ∷ xs)) (sym r) ∙ count_head e xs c) ∙ a
      by Greater p a ih = let k = rest Greater p refl in ap (f q) k ∙ ih (sym (ap is_zero k) ∙ z)

  pub every_if_each : (xs : Lines) → Canonical xs → ((q : Row) → is_zero (count xs q) ≡ false → f q (count xs q) ≡ true) → every_line f xs ≡ true
  unfolding every_line count
  every_if_each [] c h = refl
  every_if_each (e ∷ xs) c h =
      let k = count_head e xs c in
      let a : f e.0 e.1 ≡ true = ap (f e.0) (sym k) ∙ h e.0 (ap is_zero k ∙ c.0) in
      ap (λ t. cond t (every_line f xs) false) a ∙ every_if_each xs c.2 (λ q. by q (row_order e.0 q) refl)
    where
      by : (q : Row) (o : Ordering) → row_order e.0 q ≡ o → is_zero (count xs q) ≡ false → f q (count xs q) ≡ true
      by q Less p z = let k : count (e ∷ xs) q ≡ count xs q = ap (λ o. if_equal o e.1 +ℤ count xs q) p ∙ +ℤ_idl (count xs q) in ap (f q) (sym k) ∙ h q (ap is_zero k ∙ z)
      by q Equal p z = absurd (not_zero (count xs q) z (count_before q xs c.2 (subst (λ (a : Row). Before a xs) (order_equal e.0 q p) c.1)))
      by q Greater p z = let k : count (e ∷ xs) q ≡ count xs q = ap (λ o. if_equal o e.1 +ℤ count xs q) p ∙ +ℤ_idl (count xs q) in ap (f q) (sym k) ∙ h q (ap is_zero k ∙ z)

pub tests_follow_change : TestsFollowChange
tests_follow_change test at_none old d new co cd cn m o = same_test _ _
    (λ h. every_if_each (λ q n. test (count old q +ℤ n)) d cd (λ q z. ap test (sym (m q)) ∙ there new cn h q (is_zero (count new q)) refl))
    (λ h. every_if_each (λ q n. test n) new cn (λ q z. by q h (is_zero (count d q)) refl))
  where
    there : (xs : Lines) → Canonical xs → every_line (λ q n. test n) xs ≡ true → (q : Row) (t : Bool) → is_zero (count xs q) ≡ t → test (count xs q) ≡ true
    there xs c h q true e = ap test (zero_is (count xs q) e) ∙ at_none
    there xs c h q false e = every_passes (λ q n. test n) xs c h q e

    by : (q : Row) → every_line (λ q n. test (count old q +ℤ n)) d ≡ true → (t : Bool) → is_zero (count d q) ≡ t → test (count new q) ≡ true
    by q h true e = ap test (m q ∙ ap (λ k. count old q +ℤ k) (zero_is (count d q) e) ∙ +ℤ_idr (count old q)) ∙ there old co o q (is_zero (count old q)) refl
    by q h false e = ap test (m q) ∙ every_passes (λ q n. test (count old q +ℤ n)) d cd h q e

-- counts that are not negative make a canonical list a bag
pub bag_from_counts : (xs : Lines) → Canonical xs → ((q : Row) → pos 0 ≤ℤ count xs q) → Positive xs
unfolding count
bag_from_counts [] c h = tt
bag_from_counts (e ∷ xs) c h = (above_positive e.1 (head e.1 c.0 (subst (λ (z : ℤ). pos 0 ≤ℤ z) (count_head e xs c) (h e.0))), bag_from_counts xs c.2 (λ q. by q (row_order e.0 q) refl (h q)))
  where
    head : (n : ℤ) → is_zero n ≡ false → pos 0 ≤ℤ n → pos 0 <ℤ n
    head (pos zero) z l = absurd (not_zero (pos 0) z refl)
    head (pos (suc n)) z l = omega (arith, ints)
    head (negsuc n) z l = omega (arith, ints)

    by : (q : Row) (o : Ordering) → row_order e.0 q ≡ o → pos 0 ≤ℤ (if_equal (row_order e.0 q) e.1 +ℤ count xs q) → pos 0 ≤ℤ count xs q
    by q Less p l = subst (λ (z : ℤ). pos 0 ≤ℤ z) (ap (λ o. if_equal o e.1 +ℤ count xs q) p ∙ +ℤ_idl (count xs q)) l
    by q Equal p l = subst (λ (z : ℤ). pos 0 ≤ℤ z) (sym (count_before q xs c.2 (subst (λ (a : Row). Before a xs) (order_equal e.0 q p) c.1))) (omega (arith, ints))
    by q Greater p l = subst (λ (z : ℤ). pos 0 ≤ℤ z) (ap (λ o. if_equal o e.1 +ℤ count xs q) p ∙ +ℤ_idl (count xs q)) l

every_key : (n : ℕ) (f g : Row → ℤ → Bool) → ((k : Row) (z : ℤ) → Key n k → f k z ≡ g k z) → (gs : Lines) → EachRow (Key n) gs → every_line f gs ≡ every_line g gs
unfolding every_line
every_key n f g h [] ks = refl
every_key n f g h (e ∷ gs) ks = ap₂ (λ a b. cond a b false) (h e.0 e.1 ks.0) (every_key n f g h gs ks.1)

module _ {V : Type 0} {ok : V → Type 0} (M : Measure V) (L : MeasureLaws ok M) (j : ℕ) (is : List ℕ) where
  abbrev copies : Lines → Row → ℤ
  copies xs k = group_copies (listed is) xs k

  abbrev val : Lines → Row → V
  val xs k = group_value M.group (listed is) (column_worth M j) xs k

  worths : AddsUp ok M.group (column_worth M j)
  worths = column_worth_adds_up M L.adds_up j

  -- of a group that has copies, that the value fits
  abbrev fits_if_any : Lines → Row → ℤ → Bool
  fits_if_any xs k n = cond (is_zero (copies xs k)) true (M.fits (val xs k))

  fit_touched : (old d new : Lines) → Canonical d → Moves old d new → all_groups_fit M j is old ≡ true → all_groups_fit M j is new ≡ every_line (fits_if_any new) (touched_groups (listed is) d)
  fit_touched old d new cd m o = same_test _ _
      (λ h. every_if_each (fits_if_any new) t (canonical_project (listed is) (support d)) (λ k z. to k h (is_zero (copies new k)) refl))
      (λ h. every_if_each (λ k n. M.fits (val new k)) (pick is new) (canonical_project (listed is) new) (λ k z. from k h (sym (ap is_zero (project_copies (listed is) new k)) ∙ z) (is_zero (count t k)) refl))
    where
      t : Lines
      t = touched_groups (listed is) d

      T : Touched M.group L.group_laws (listed is) (column_worth M j) worths (total_row M (length is)) d t
      T = touched M.group L.group_laws (listed is) (column_worth M j) worths (total_row M (length is)) d cd

      to : (k : Row) → all_groups_fit M j is new ≡ true → (b : Bool) → is_zero (copies new k) ≡ b → cond b true (M.fits (val new k)) ≡ true
      to k h true e = refl
      to k h false e = every_passes (λ k n. M.fits (val new k)) (pick is new) (canonical_project (listed is) new) h k (ap is_zero (project_copies (listed is) new k) ∙ e)

      from : (k : Row) → every_line (fits_if_any new) t ≡ true → is_zero (copies new k) ≡ false → (b : Bool) → is_zero (count t k) ≡ b → M.fits (val new k) ≡ true
      from k h z true e =
          let c : copies new k ≡ copies old k = group_copies_moves M.group L.group_laws (listed is) (column_worth M j) worths old d new m k ∙ ap (λ x. copies old k +ℤ x) (T.no_copies k e) ∙ +ℤ_idr _ in
          let v : val new k ≡ val old k =
          group_value_moves M.group L.group_laws (listed is) (column_worth M j) worths old d new m k
          ∙ ap (M.group.plus (val old k)) (T.no_value k e)
          ∙ L.group_laws.commutative _ _ (old_ok k) L.group_laws.ok_zero
          ∙ L.group_laws.neutral _ (old_ok k) in
          ap M.fits v ∙ every_passes (λ k n. M.fits (val old k)) (pick is old) (canonical_project (listed is) old) o k (ap is_zero (project_copies (listed is) old k ∙ sym c) ∙ z)
        where
          old_ok : (k : Row) → ok (val old k)
          old_ok k = group_value_ok M.group L.group_laws (listed is) (column_worth M j) worths old k
      from k h z false e = sym (ap (λ b. cond b true (M.fits (val new k))) z) ∙ every_passes (fits_if_any new) t (canonical_project (listed is) (support d)) h k e

pub fit_follows_change : {V : Type 0} {ok : V → Type 0} (M : Measure V) → MeasureLaws ok M → FitFollowsChange M
fit_follows_change {V = V} M L j is old d new room fits h =
    fit_touched M L j is old d new h.in_order h.moves fits
    ∙ every_key (length is) _ _ (λ k z key. same k key) (touched_groups (listed is) d) (keys_project is (support d) (omega arith))
  where
    same : (k : Row) → Key (length is) k → fits_if_any M L j is new k (pos 0) ≡ fits_after M (read_group M (length is) (total M j is old) k) (group_of M j is d k)
    same k key =
        ap₂ (λ c v. cond (is_zero c) true (M.fits v))
        (group_copies_moves M.group L.group_laws (listed is) (column_worth M j) (worths M L j is) old d new h.moves k)
        (group_value_moves M.group L.group_laws (listed is) (column_worth M j) (worths M L j is) old d new h.moves k)
        ∙ ap (λ (x : ℤ × V). fits_after M x (group_of M j is d k)) (sym (read_group_is M L.group_laws L.adds_up (L.showing (omega arith)) j is room old h.old_bag fits k key))
