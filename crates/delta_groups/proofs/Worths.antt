-- The values of groups, added up line by line. Assumes nothing.
--     worth_put, worth_none      what a worth does to the values, where its group stands and where it does not
--     values_none        the values over no line
--     value_more, values_more        the values over one line more
--     deltas_are         copies and values as the walk over the groups takes them
use Rattle.std.proofs.Common.{◌≡◌, ℕ, ◌+◌, ◌<◌, ◌≤◌, ◌≢◌, ◌⊎◌, List, [], ◌∷◌, ◌++◌, length, get_or, take, replicate, set, ℤ, pos, Some, None, Ordering, Less, Equal, Greater, sym, refl, ap, ◌∙◌, ap₂, inl, inr, arith, get_or-set_other, get_or-set_same}
use lib.IntN.{+ℤ_idl}
use Rattle.std.proofs.lemmas.List.{take_more, get_or-map, length-map, get_or_default, get_or-replicate}
use Rattle.std.proofs.lemmas.Bool.{cases_lt}
use Rattle.bag.specs.declared.lines.ChangeLine.{ChangeLine}
use Rattle.bag.specs.Order.{Row, row_order, change_line_order}
use Rattle.bag.specs.Columns.{listed}
use Rattle.bag.specs.Bag.{Line, Lines, count}
use Rattle.bag.specs.Group.{Group, sum_over}
use Rattle.bag.specs.Measure.{Measure, MeasureLaws}
use Rattle.bag.specs.Operators.{map_rows, group_copies, worth_if_equal, group_value, column_worth, total_value}
use Rattle.bag.specs.Propagation.{group_of}
use Rattle.bag.proofs.KeyOrder.{change_lines_are_ordered_by_key}
use Rattle.bag.specs.Integers.{count-++}
use Rattle.bag.proofs.GroupMoves.{group_value_ok, group_value_moves}
use Rattle.bag.proofs.ReadBack.{column_worth_adds_up}
use Rattle.table.specs.LineTables.{ChangeTable}
use Rattle.table.specs.Order.{Lawful}
use Rattle.table.specs.Entries.{place_of, smaller}
use Rattle.table.specs.Tables.{items}
use Rattle.table.specs.Ordered.{lawful_from_keys}
use Rattle.table.proofs.Located.{PresentAt, AbsentAt, present_from, absent_from}
use Rattle.sheet.specs.Sheets.{change_line}
use Rattle.delta_groups.specs.Nets.{gathered, Nets}
use Rattle.delta_groups.specs.Groups.{plus_if_equal, ValuesOf}
use Rattle.delta_groups.proofs.Gathered.{ascends_gathered, count_gathered}
use Rattle.delta_groups.proofs.Touched.{count_at}

lawful : Lawful change_line_order
lawful = lawful_from_keys change_lines_are_ordered_by_key

module _ (t : ChangeTable) (xs : Lines) (n : Nets t xs) (r : Row) where
  abbrev key : ChangeLine
  key = change_line 0 (r, pos 0)

  long : length (items t) ≡ length xs
  long = ap length n.entries ∙ length-map xs (change_line 0)

  order_at : (i : ℕ) (e : Line) → i < length xs → change_line_order key (get_or (items t) i key) ≡ row_order r (get_or xs i e).0
  order_at i e h = ap (λ (ls : List ChangeLine). change_line_order key (get_or ls i key)) n.entries ∙ ap (change_line_order key) (get_or-map (change_line 0) xs i e key h)

  module _ {V : Type 0} (G : Group V) where
    apart : (o : Ordering) (v w : V) → (o ≡ Less) ⊎ (o ≡ Greater) → v ≡ plus_if_equal G o v w
    apart o v w (inl e) = ap (λ p. plus_if_equal G p v w) (sym e)
    apart o v w (inr e) = ap (λ p. plus_if_equal G p v w) (sym e)

    pub worth_put : (vs : List V) (p : ℕ) (a w b : V) → Some p ≡ place_of change_line_order key (items t) → length xs ≤ length vs → a ≡ get_or vs p a → b ≡ G.plus a w → (i : ℕ) (e : Line) (z : V) → i < length xs →
        get_or (set vs p b) i z ≡ plus_if_equal G (row_order r (get_or xs i e).0) (get_or vs i z) w
    worth_put vs p a w b at fits is sum i e z h = by (cases_lt i p) (cases_lt p i)
      where
        there : PresentAt change_line_order key (items t) p
        there = present_from change_line_order lawful key (items t) p t.ascending (sym at)

        inside : p < length vs
        inside = let a = there.within in let l = long in omega arith

        by : (i < p) ⊎ (p ≤ i) → (p < i) ⊎ (i ≤ p) → get_or (set vs p b) i z ≡ plus_if_equal G (row_order r (get_or xs i e).0) (get_or vs i z) w
        by (inl l) q =
            get_or-set_other vs p i b z (let ne : i ≢ p = omega arith in ne)
            ∙ apart (row_order r (get_or xs i e).0) (get_or vs i z) w (inr (sym (order_at i e h) ∙ there.before i l))
        by (inr m) (inl l) =
            get_or-set_other vs p i b z (let ne : i ≢ p = omega arith in ne)
            ∙ apart (row_order r (get_or xs i e).0) (get_or vs i z) w (inl (sym (order_at i e h) ∙ there.behind i l (let s = long in omega arith)))
        by (inr m) (inr l) =
            let q : i ≡ p = omega arith in
            ap (λ j. get_or (set vs p b) j z) q ∙ get_or-set_same vs p b z inside ∙ sum
            ∙ ap (λ v. G.plus v w) (is ∙ get_or_default vs p a z inside ∙ ap (λ j. get_or vs j z) (sym q))
            ∙ ap (λ o. plus_if_equal G o (get_or vs i z) w) (sym (sym (order_at i e h) ∙ ap (λ j. change_line_order key (get_or (items t) j key)) q ∙ there.here))

    pub worth_none : (vs : List V) (w : V) → None ≡ place_of change_line_order key (items t) → (i : ℕ) (e : Line) (z : V) → i < length xs → get_or vs i z ≡ plus_if_equal G (row_order r (get_or xs i e).0) (get_or vs i z) w
    worth_none vs w at i e z h = apart (row_order r (get_or xs i e).0) (get_or vs i z) w (by (cases_lt i (smaller change_line_order key (items t))))
      where
        there : AbsentAt change_line_order key (items t) (smaller change_line_order key (items t))
        there = absent_from change_line_order lawful key (items t) t.ascending (sym at)

        by : (i < smaller change_line_order key (items t)) ⊎ (smaller change_line_order key (items t) ≤ i) → (row_order r (get_or xs i e).0 ≡ Less) ⊎ (row_order r (get_or xs i e).0 ≡ Greater)
        by (inl l) = inr (sym (order_at i e h) ∙ there.before i l)
        by (inr l) = inl (sym (order_at i e h) ∙ there.behind i l (let s = long in omega arith))

module _ {V : Type 0} {ok : V → Type 0} (M : Measure V) (L : MeasureLaws ok M) (j : ℕ) (is : List ℕ) where
  abbrev G : Group V
  G = M.group

  pub values_none : (xs : Lines) (vs : List V) → length xs ≤ length vs → vs ≡ replicate (length vs) M.group.zero → ValuesOf M j is [] xs vs
  unfolding group_value sum_over
  values_none xs vs l are i e z h = ap (λ (t : List V). get_or t i z) are ∙ get_or-replicate (length vs) i M.group.zero z (omega arith)

  one_line : (e : Line) (k : Row) (o : Ordering) → G.plus (worth_if_equal G o (column_worth M j e.0 e.1)) G.zero ≡ worth_if_equal G o (column_worth M j e.0 e.1)
  one_line e k o = L.group_laws.commutative _ _ (fine o) L.group_laws.ok_zero ∙ L.group_laws.neutral _ (fine o)
    where
      fine : (o : Ordering) → ok (worth_if_equal G o (column_worth M j e.0 e.1))
      fine Less = L.group_laws.ok_zero
      fine Equal = (column_worth_adds_up M L.adds_up j).ok_worth e.0 e.1
      fine Greater = L.group_laws.ok_zero

  -- adding nothing changes no value
  onto : (o : Ordering) (v w : V) → ok v → plus_if_equal G o v w ≡ G.plus v (worth_if_equal G o w)
  onto Less v w f = sym (L.group_laws.commutative _ _ f L.group_laws.ok_zero ∙ L.group_laws.neutral _ f)
  onto Equal v w f = refl
  onto Greater v w f = sym (L.group_laws.commutative _ _ f L.group_laws.ok_zero ∙ L.group_laws.neutral _ f)

  pub value_more : (d : Lines) (e : Line) (k : Row) → plus_if_equal G (row_order (listed is e.0) k) (total_value M j is d k) (column_worth M j e.0 e.1) ≡ total_value M j is (d ++ (e ∷ [])) k
  unfolding group_value sum_over
  value_more d e k =
      onto (row_order (listed is e.0) k) (total_value M j is d k) (column_worth M j e.0 e.1) (group_value_ok G L.group_laws (listed is) (column_worth M j) (column_worth_adds_up M L.adds_up j) d k)
      ∙ ap (G.plus (total_value M j is d k)) (sym (one_line e k (row_order (listed is e.0) k)))
      ∙ sym (group_value_moves G L.group_laws (listed is) (column_worth M j) (column_worth_adds_up M L.adds_up j) d (e ∷ []) (d ++ (e ∷ [])) (count-++ d (e ∷ [])) k)

  pub values_more : (d xs : Lines) (i : ℕ) (e : Line) (before after : List V) (r : Row) (w : V) → i < length d → r ≡ listed is (get_or d i e).0 → w ≡ column_worth M j (get_or d i e).0 (get_or d i e).1 →
      ValuesOf M j is (take i d) xs before →
      ((m : ℕ) (x : Line) (z : V) → m < length xs → get_or after m z ≡ plus_if_equal M.group (row_order r (get_or xs m x).0) (get_or before m z) w) →
      ValuesOf M j is (take (i + 1) d) xs after
  values_more d xs i e before after r w h row worth was step m x z l =
      step m x z l
      ∙ ap₂ (λ q v. plus_if_equal G (row_order q (get_or xs m x).0) v w) row (was m x z l)
      ∙ ap (plus_if_equal G (row_order (listed is (get_or d i e).0) (get_or xs m x).0) (total_value M j is (take i d) (get_or xs m x).0)) worth
      ∙ value_more (take i d) (get_or d i e) (get_or xs m x).0
      ∙ ap (λ t. total_value M j is t (get_or xs m x).0) (sym (take_more d i e h))

  -- copies and value of a gathered group over the change
  pub deltas_are : (d : Lines) (vs : List V) → ValuesOf M j is d (gathered (map_rows (listed is) d)) vs → (i : ℕ) (e : Line) (z : V) → i < length (gathered (map_rows (listed is) d)) →
      ◌≡◌ {A = ℤ × V} (group_of M j is d (get_or (gathered (map_rows (listed is) d)) i e).0) ((get_or (gathered (map_rows (listed is) d)) i e).1, get_or vs i z)
  unfolding group_copies count
  deltas_are d vs vals i e z h =
      let ys = map_rows (listed is) d in
      let q = (get_or (gathered ys) i e).0 in
      ap₂ {C = ℤ × V} (λ x y. (x, y)) (sym (+ℤ_idl (count ys q)) ∙ sym (count_gathered [] ys q) ∙ count_at (gathered ys) i e (ascends_gathered [] ys tt) h) (sym (vals i e z h))
