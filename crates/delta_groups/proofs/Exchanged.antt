-- Old rows of groups out and new rows in, group by group. Assumes nothing.
--     exchange_less, exchange_equal, exchange_greater      two rows in their order
--     collect_one, collect_gone, collect_none, collect_both      an old and a new row, where there may be none
--     wrote_since                                          what is told of the writer is told of the writer that it was
--     exchange_none, exchange_some                         a group without copies or with a row fits
--     exchange_done                                        then its rows are exchanged
--     groups_none                                          no group
--     group_written, group_refused                         the groups up to one, and one that is refused
use Rattle.std.proofs.Common.{◌≡◌, ℕ, ◌+◌, ◌<◌, Bool, true, false, cond, List, [], ◌∷◌, ◌++◌, length, get_or, take, drop, ℤ, pos, negsuc, ◌+ℤ◌, Some, None, Option, is_none, Ok, Err, Result, Ordering, Less, Equal, Greater, inl, inr, sym, refl, ap, ◌∙◌, subst, ap₂}
use Rattle.std.proofs.lemmas.List.{append-nil, append_assoc, take_more, take-append-drop}
use Rattle.bag.specs.declared.lines.ChangeLine.{ChangeLine}
use Rattle.bag.specs.Order.{Row, row_order}
use Rattle.bag.specs.Bag.{Line, Lines, is_zero, add_by, add_copies, collect, every_line, negated}
use Rattle.bag.specs.Measure.{Measure}
use Rattle.bag.specs.Operators.{total_row}
use Rattle.bag.specs.Propagation.{row_if_any, exchanged, read_group, fits_after}
use Rattle.stock.specs.Holding.{Holding, shelf_of}
use Rattle.sheet.specs.Sheets.{change_line}
use Rattle.delta.specs.declared.fault.NodeFault.{NodeFault}
use Rattle.delta.specs.declared.writer.ChangeWriter.{ChangeWriter}
use Rattle.delta.specs.Writing.{SameTask, Written, TooMany, Wrote}
use Rattle.delta.proofs.Steps.{front_too_many, too_many_before}
use Rattle.delta.proofs.Zeros.{no_line, line_at}
use Rattle.delta_groups.proofs.ReadLines.{no_change}
use Rattle.delta_groups.specs.Groups.{one_of, row_if_there}
use Rattle.delta_groups.specs.Totals.{exchange_of, exchanges, fit_after, Ready, GroupsReady, Refused, Exchanged}

-- ---- two rows

module _ (d : Lines) (r q : Row) where
  both : (o : Ordering) → row_order r q ≡ o → collect ((r, negsuc 0) ∷ (q, pos 1) ∷ []) ≡ add_by o r (negsuc 0) (q, pos 1) [] ((r, negsuc 0) ∷ [])
  unfolding collect add_copies
  both o p = ap (λ o. add_by o r (negsuc 0) (q, pos 1) [] ((r, negsuc 0) ∷ [])) p

  pub exchange_less : row_order r q ≡ Less → (d ++ ((r, negsuc 0) ∷ [])) ++ ((q, pos 1) ∷ []) ≡ d ++ collect ((r, negsuc 0) ∷ (q, pos 1) ∷ [])
  exchange_less p = append_assoc d ((r, negsuc 0) ∷ []) ((q, pos 1) ∷ []) ∙ ap (λ t. d ++ t) (sym (both Less p))

  pub exchange_equal : row_order r q ≡ Equal → d ≡ d ++ collect ((r, negsuc 0) ∷ (q, pos 1) ∷ [])
  exchange_equal p = sym (ap (λ t. d ++ t) (both Equal p) ∙ append-nil d)

  pub exchange_greater : row_order r q ≡ Greater → (d ++ ((q, pos 1) ∷ [])) ++ ((r, negsuc 0) ∷ []) ≡ d ++ collect ((r, negsuc 0) ∷ (q, pos 1) ∷ [])
  exchange_greater p = append_assoc d ((q, pos 1) ∷ []) ((r, negsuc 0) ∷ []) ∙ ap (λ t. d ++ t) (sym (both Greater p))

pub collect_one : (d : Lines) (r : Row) → d ++ ((r, pos 1) ∷ []) ≡ d ++ collect (negated [] ++ ((r, pos 1) ∷ []))
unfolding collect add_copies negated
collect_one d r = refl

pub collect_gone : (d : Lines) (r : Row) → d ++ ((r, negsuc 0) ∷ []) ≡ d ++ collect (negated ((r, pos 1) ∷ []) ++ [])
unfolding collect add_copies negated
collect_gone d r = refl

pub collect_none : (d : Lines) → d ≡ d ++ collect (negated [] ++ [])
unfolding collect add_copies negated
collect_none d = sym (append-nil d)

pub collect_both : (d : Lines) (r q : Row) → d ++ collect ((r, negsuc 0) ∷ (q, pos 1) ∷ []) ≡ d ++ collect (negated ((r, pos 1) ∷ []) ++ ((q, pos 1) ∷ []))
unfolding negated
collect_both d r q = refl

pub wrote_since : {S : Type 0} (meaning : S → Holding) (u v w : ChangeWriter S) (d e : Lines) (r : Result (Unit {0}) NodeFault) → SameTask u v → d ≡ e → Wrote meaning v w d r → Wrote meaning u w e r
wrote_since meaning u v w d e (Ok x) same is wrote = subst (Written meaning w) is wrote
wrote_since meaning u v w d e (Err f) same is many = too_many_before meaning u v e f same (subst (λ t. TooMany meaning v t f) is many)

-- ---- one group

module _ {V : Type 0} (M : Measure V) (n : ℕ) (k : Row) (c : ℤ) (v : V) where
  one_of_there : (is_zero c ≡ false → M.fits v ≡ true) → one_of (row_if_there M n k c v) ≡ row_if_any c (total_row M n k c v)
  one_of_there f = by (is_zero c) f
    where
      by : (t : Bool) → (t ≡ false → M.fits v ≡ true) → one_of (cond t None (cond (M.fits v) (Some (total_row M n k c v)) None)) ≡ cond t [] ((total_row M n k c v, pos 1) ∷ [])
      by true f = refl
      by false f = ap (λ b. one_of (cond b (Some (total_row M n k c v)) None)) (f refl)

  some_there : (p : Row) → Some p ≡ row_if_there M n k c v → cond (is_zero c) true (M.fits v) ≡ true
  some_there p e = by (is_zero c) (M.fits v) e
    where
      by : (t b : Bool) → Some p ≡ cond t None (cond b (Some (total_row M n k c v)) None) → cond t true b ≡ true
      by true b q = refl
      by false true q = refl
      by false false q = let z : ⊥ = cc in absurd z

module _ {V : Type 0} (M : Measure V) (n : ℕ) (own : Lines) (delta : Row → ℤ × V) (k : Row) (net : ℤ) (worth : V) (is : ◌≡◌ {A = ℤ × V} (delta k) (net, worth)) where
  abbrev copies : ℤ
  copies = (read_group M n own k).0 +ℤ net

  abbrev value : V
  value = M.group.plus (read_group M n own k).1 worth

  fit_is : fit_after M n own delta k net ≡ cond (is_zero copies) true (M.fits value)
  fit_is = ap (λ (t : ℤ × V). fits_after M (read_group M n own k) t) is

  pub exchange_none : copies ≡ pos 0 → fit_after M n own delta k net ≡ true
  exchange_none z = fit_is ∙ ap (λ t. cond (is_zero t) true (M.fits value)) z

  pub exchange_some : (p : Option Row) → p ≡ row_if_there M n k copies value → is_none p ≡ false → fit_after M n own delta k net ≡ true
  exchange_some None new e = let z : ⊥ = cc in absurd z
  exchange_some (Some q) new e = fit_is ∙ some_there M n k copies value q new

  module _ (ready : Ready M n own delta k) (o p : Option Row) (old : o ≡ row_if_there M n k (read_group M n own k).0 (read_group M n own k).1) (new : p ≡ row_if_there M n k copies value) (fits : fit_after M n own delta k net ≡ true) where
    rows_are : collect (negated (one_of o) ++ one_of p) ≡ exchange_of M n own delta k
    rows_are =
        ap₂ (λ a b. collect (negated a ++ b)) (ap one_of old ∙ one_of_there M n k (read_group M n own k).0 (read_group M n own k).1 ready.old_fits)
        (ap one_of new ∙ one_of_there M n k copies value (λ z. sym (ap (λ t. cond t true (M.fits value)) z) ∙ sym fit_is ∙ fits))
        ∙ ap (λ (t : ℤ × V). collect (exchanged M.group (total_row M n) k (read_group M n own k) t)) (sym is)

    pub exchange_done : {S : Type 0} (meaning : S → Holding) (v w : ChangeWriter S) (d : Lines) (r : Result (Unit {0}) NodeFault) → Wrote meaning v w (d ++ collect (negated (one_of o) ++ one_of p)) r →
        Exchanged meaning v w (d ++ exchange_of M n own delta k) (fit_after M n own delta k net) r
    exchange_done meaning v w d r wrote = by r (subst (λ t. Wrote meaning v w (d ++ t) r) rows_are wrote)
      where
        by : (r : Result (Unit {0}) NodeFault) → Wrote meaning v w (d ++ exchange_of M n own delta k) r → Exchanged meaning v w (d ++ exchange_of M n own delta k) (fit_after M n own delta k net) r
        by (Ok u) x = (x, fits)
        by (Err f) x = inl x

-- ---- the groups one by one

every_more : (f : Row → ℤ → Bool) (xs : Lines) (e : Line) → every_line f xs ≡ true → f e.0 e.1 ≡ true → every_line f (xs ++ (e ∷ [])) ≡ true
unfolding every_line
every_more f [] e a b = ap (λ t. cond t true false) b
every_more f (x ∷ xs) e a b = by (f x.0 x.1) a (λ h. every_more f xs e h b)
  where
    by : (t : Bool) → cond t (every_line f xs) false ≡ true → (every_line f xs ≡ true → every_line f (xs ++ (e ∷ [])) ≡ true) → cond t (every_line f (xs ++ (e ∷ []))) false ≡ true
    by true h ih = ih h
    by false h ih = h

every_fails : (f : Row → ℤ → Bool) (xs ys : Lines) (e : Line) → f e.0 e.1 ≡ false → every_line f ((xs ++ (e ∷ [])) ++ ys) ≡ false
unfolding every_line
every_fails f [] ys e b = ap (λ t. cond t (every_line f ys) false) b
every_fails f (x ∷ xs) ys e b = by (f x.0 x.1) (every_fails f xs ys e b)
  where
    by : (t : Bool) → every_line f ((xs ++ (e ∷ [])) ++ ys) ≡ false → cond t (every_line f ((xs ++ (e ∷ [])) ++ ys)) false ≡ false
    by true ih = ih
    by false ih = refl

module _ {V : Type 0} (M : Measure V) (n : ℕ) (own : Lines) (delta : Row → ℤ × V) where
  exchanges-++ : (xs ys : Lines) → exchanges M n own delta (xs ++ ys) ≡ exchanges M n own delta xs ++ exchanges M n own delta ys
  unfolding exchanges
  exchanges-++ [] ys = refl
  exchanges-++ (x ∷ xs) ys = ap (λ t. exchange_of M n own delta x.0 ++ t) (exchanges-++ xs ys) ∙ sym (append_assoc (exchange_of M n own delta x.0) (exchanges M n own delta xs) (exchanges M n own delta ys))

  exchanges_one : (e : Line) → exchanges M n own delta (e ∷ []) ≡ exchange_of M n own delta e.0
  unfolding exchanges
  exchanges_one e = append-nil (exchange_of M n own delta e.0)

  pub groups_none : {S : Type 0} (meaning : S → Holding) (w : ChangeWriter S) → Written meaning w [] → Written meaning w (exchanges M n own delta []) × (every_line (fit_after M n own delta) [] ≡ true)
  unfolding exchanges every_line
  groups_none meaning w was = (was, refl)

  module _ {S : Type 0} (meaning : S → Holding) (xs : Lines) (i : ℕ) (e : Line) (h : i < length xs) where
    abbrev here : Line
    here = get_or xs i e

    front_is : exchanges M n own delta (take i xs) ++ exchange_of M n own delta here.0 ≡ exchanges M n own delta (take (i + 1) xs)
    front_is =
        ap (λ t. exchanges M n own delta (take i xs) ++ t) (sym (exchanges_one here)) ∙ sym (exchanges-++ (take i xs) (here ∷ []))
        ∙ ap (exchanges M n own delta) (sym (take_more xs i e h))

    groups_more : (w : ChangeWriter S) → every_line (fit_after M n own delta) (take i xs) ≡ true →
        Written meaning w (exchanges M n own delta (take i xs) ++ exchange_of M n own delta here.0) × (fit_after M n own delta here.0 here.1 ≡ true) →
        Written meaning w (exchanges M n own delta (take (i + 1) xs)) × (every_line (fit_after M n own delta) (take (i + 1) xs) ≡ true)
    groups_more w all now = (
      subst (Written meaning w) front_is now.0,
      ap (every_line (fit_after M n own delta)) (take_more xs i e h) ∙ every_more (fit_after M n own delta) (take i xs) here all now.1,
    )

    groups_refused : (v w : ChangeWriter S) (f : NodeFault) → SameTask v w →
        Refused meaning w (exchanges M n own delta (take i xs) ++ exchange_of M n own delta here.0) (fit_after M n own delta here.0 here.1) f →
        Refused meaning v (exchanges M n own delta xs) (every_line (fit_after M n own delta) xs) f
    groups_refused v w f same (inl many) =
        inl (front_too_many meaning v w (exchanges M n own delta (take i xs) ++ exchange_of M n own delta here.0) (exchanges M n own delta (drop (i + 1) xs)) (exchanges M n own delta xs) f same
        (ap (λ t. t ++ exchanges M n own delta (drop (i + 1) xs)) front_is ∙ sym (exchanges-++ (take (i + 1) xs) (drop (i + 1) xs)) ∙ ap (exchanges M n own delta) (take-append-drop (i + 1) xs))
        many)
    groups_refused v w f same (inr wide) =
        inr (
          wide.0,
          ap (every_line (fit_after M n own delta)) (sym (take-append-drop (i + 1) xs) ∙ ap (λ t. t ++ drop (i + 1) xs) (take_more xs i e h))
              ∙ every_fails (fit_after M n own delta) (take i xs) (drop (i + 1) xs) here wide.1,
        )

-- ---- a group and its worth, as they stand in the work space

module _ {V : Type 0} (M : Measure V) (n : ℕ) {S : Type 0} (meaning : S → Holding) (v w : ChangeWriter S) (same : SameTask v w) (delta : Row → ℤ × V) (xs : Lines) (groups : List ChangeLine) (values : List V)
    (ready : GroupsReady M n (shelf_of (meaning v.stock.now) v.node) delta xs groups values) (i : ℕ) (group : ChangeLine) (worth : V) (within : i < length groups)
    (stands : (d : ChangeLine) → group ≡ get_or groups i d) (beside : (d : V) → worth ≡ get_or values i d) where
  abbrev old_bag : ChangeWriter S → Lines
  old_bag u = shelf_of (meaning u.stock.now) u.node

  same_bag : old_bag w ≡ old_bag v
  same_bag = ap₂ (λ s k. shelf_of (meaning s) k) same.stock same.node

  at : (i < length xs) × (get_or groups i no_change ≡ change_line 0 (get_or xs i no_line))
  at = line_at groups 0 xs i no_change ready.lines within

  inside : i < length xs
  inside = at.0

  line_is : group ≡ change_line 0 (get_or xs i no_line)
  line_is = stands no_change ∙ at.1

  row_is : group.row ≡ (get_or xs i no_line).0
  row_is = ap (λ (l : ChangeLine). l.row) line_is

  change_is : group.change ≡ (get_or xs i no_line).1
  change_is = ap (λ (l : ChangeLine). l.change) line_is

  group_ready : Ready M n (old_bag w) delta group.row
  group_ready = subst (λ b. Ready M n b delta group.row) (sym same_bag) (subst (Ready M n (old_bag v) delta) (sym row_is) (ready.each i no_line inside))

  group_adds : ◌≡◌ {A = ℤ × V} (delta group.row) (group.change, worth)
  group_adds = ap delta row_is ∙ ready.deltas i no_line worth inside ∙ ap₂ {C = ℤ × V} (λ x y. (x, y)) (sym change_is) (sym (beside worth))

  group_done : (u : ChangeWriter S) (d : Lines) (r : Result (Unit {0}) NodeFault) → Exchanged meaning w u (d ++ exchange_of M n (old_bag w) delta group.row) (fit_after M n (old_bag w) delta group.row group.change) r →
      Exchanged meaning w u (d ++ exchange_of M n (old_bag v) delta (get_or xs i no_line).0) (fit_after M n (old_bag v) delta (get_or xs i no_line).0 (get_or xs i no_line).1) r
  group_done u d r told =
      subst (λ b. Exchanged meaning w u (d ++ exchange_of M n b delta (get_or xs i no_line).0) (fit_after M n b delta (get_or xs i no_line).0 (get_or xs i no_line).1) r) same_bag
      (subst (λ (l : ChangeLine). Exchanged meaning w u (d ++ exchange_of M n (old_bag w) delta l.row) (fit_after M n (old_bag w) delta l.row l.change) r) line_is told)

  pub group_written : (u : ChangeWriter S) → every_line (fit_after M n (old_bag v) delta) (take i xs) ≡ true →
      (Ready M n (old_bag w) delta group.row → ◌≡◌ {A = ℤ × V} (delta group.row) (group.change, worth) → Exchanged meaning w u (exchanges M n (old_bag v) delta (take i xs) ++ exchange_of M n (old_bag w) delta group.row) (fit_after M n (old_bag w) delta group.row group.change) (Ok tt)) →
      Written meaning u (exchanges M n (old_bag v) delta (take (i + 1) xs)) × (every_line (fit_after M n (old_bag v) delta) (take (i + 1) xs) ≡ true)
  group_written u all step = groups_more M n (old_bag v) delta meaning xs i no_line inside u all (group_done u (exchanges M n (old_bag v) delta (take i xs)) (Ok tt) (step group_ready group_adds))

  pub group_refused : (f : NodeFault) →
      (Ready M n (old_bag w) delta group.row → ◌≡◌ {A = ℤ × V} (delta group.row) (group.change, worth) → Refused meaning w (exchanges M n (old_bag v) delta (take i xs) ++ exchange_of M n (old_bag w) delta group.row) (fit_after M n (old_bag w) delta group.row group.change) f) →
      Refused meaning v (exchanges M n (old_bag v) delta xs) (every_line (fit_after M n (old_bag v) delta) xs) f
  group_refused f step = groups_refused M n (old_bag v) delta meaning xs i no_line inside v w f same (group_done w (exchanges M n (old_bag v) delta (take i xs)) (Err f) (step group_ready group_adds))
