-- A reader's refusal is the number of a cause.
use Rattle.std.proofs.Common.{◌≡◌, ℕ, zero, suc, Bool, true, false, cond, eqb, List, [], ◌∷◌, get_or, Ok, Err, Result, ap}
use Rattle.bag.specs.declared.condition.Relation.TheVariants.{Less, LessOrEqual, Equal, NotEqual, GreaterOrEqual, Greater}
use Rattle.plan.specs.declared.fault.Cause.{Cause}
use Rattle.plan.specs.declared.fault.Cause.TheVariants as causes
use Rattle.plan.specs.Refusal.{cause_number}
use Rattle.plan.specs.Fields.{Read, then, when, octet, lower, column, within, relation, word, operand, items, listed, columns, column_pair, no_pair, pairs}
use Rattle.plan.specs.Check.{base, keep, pick, pair, equal_sides, both, less, total, behind, node}

pub record Caused {X : Type 0} (r : Result X ℕ) : Type 0 where
  pub by : (e : ℕ) → r ≡ Err e → (c : Cause) × (e ≡ cause_number c)

good : {X : Type 0} (x : X) → Caused (Ok x)
good x = record { by = λ e f. cc }

bad : {X : Type 0} (c : Cause) → Caused {X = X} (Err (cause_number c))
bad c = record { by = λ e f. (c, cc) }

then_caused : {X Y : Type 0} (r : Result X ℕ) (f : X → Result Y ℕ) → Caused r → ((x : X) → Caused (f x)) → Caused (then r f)
then_caused (Ok x) f a b = b x
then_caused (Err e) f a b = record { by = λ d g. a.by d (let h : e ≡ d = cc in ap Err h) }

when_caused : {X : Type 0} (t : Bool) (c : Cause) (x : X) → Caused (when t (cause_number c) x)
when_caused true c x = good x
when_caused false c x = bad c

cond_caused : {X : Type 0} (t : Bool) (a b : Result X ℕ) → Caused a → Caused b → Caused (cond t a b)
cond_caused true a b h g = h
cond_caused false a b h g = g

octet_caused : (bytes : List ℕ) → Caused (octet bytes)
octet_caused [] = bad causes.Missing
octet_caused (b ∷ bytes) = good _

lower_caused : (ws bytes : List ℕ) → Caused (lower ws bytes)
lower_caused ws bytes = then_caused (octet bytes) _ (octet_caused bytes) (λ p. when_caused _ causes.Lower p)

column_caused : (w : ℕ) (bytes : List ℕ) → Caused (column w bytes)
column_caused w bytes = then_caused (octet bytes) _ (octet_caused bytes) (λ p. when_caused _ causes.Column p)

within_caused : (a b : ℕ) (bytes : List ℕ) → Caused (within a b bytes)
within_caused a b bytes = then_caused (octet bytes) _ (octet_caused bytes) (λ p. when_caused _ causes.Value p)

relation_caused : (b : ℕ) → Caused (relation b)
relation_caused b =
    cond_caused (eqb b 0) _ _ (good Less)
    (cond_caused (eqb b 1) _ _ (good LessOrEqual)
    (cond_caused (eqb b 2) _ _ (good Equal)
    (cond_caused (eqb b 3) _ _ (good NotEqual)
    (cond_caused (eqb b 4) _ _ (good GreaterOrEqual)
    (cond_caused (eqb b 5) _ _ (good Greater)
    (bad causes.Value))))))

word_caused : (bytes : List ℕ) → Caused (word bytes)
word_caused [] = bad causes.Missing
word_caused (a ∷ []) = bad causes.Missing
word_caused (a ∷ b ∷ []) = bad causes.Missing
word_caused (a ∷ b ∷ c ∷ []) = bad causes.Missing
word_caused (a ∷ b ∷ c ∷ d ∷ rest) = good _

operand_caused : (w : ℕ) (bytes : List ℕ) → Caused (operand w bytes)
operand_caused w bytes =
    then_caused (octet bytes) _ (octet_caused bytes)
    (λ k. cond_caused _ _ _ (word_caused k.1) (cond_caused _ _ _ (then_caused (column w k.1) _ (column_caused w k.1) (λ b. good _)) (bad causes.Value)))

items_caused : {X : Type 0} (reader : List ℕ → Read X) → ((bytes : List ℕ) → Caused (reader bytes)) → (n : ℕ) (bytes : List ℕ) → Caused (items reader n bytes)
unfolding items
items_caused reader h zero bytes = good _
items_caused reader h (suc n) bytes =
    then_caused (reader bytes) _ (h bytes) (λ x. then_caused (items reader n x.1) _ (items_caused reader h n x.1) (λ xs. good _))

listed_caused : {X : Type 0} (size : ℕ) (blank : X) (r : Read (List X)) → Caused r → Caused (listed size blank r)
listed_caused size blank (Ok xs) h = good _
listed_caused size blank (Err e) h = record { by = λ d g. h.by d (let f : e ≡ d = cc in ap Err f) }

columns_caused : (n w : ℕ) (bytes : List ℕ) → Caused (columns n w bytes)
columns_caused n w bytes = listed_caused 8 0 (items (column w) n bytes) (items_caused (column w) (column_caused w) n bytes)

column_pair_caused : (wl wr : ℕ) (bytes : List ℕ) → Caused (column_pair wl wr bytes)
column_pair_caused wl wr bytes =
    then_caused (column wl bytes) _ (column_caused wl bytes) (λ a. then_caused (column wr a.1) _ (column_caused wr a.1) (λ b. good _))

pairs_caused : (n wl wr : ℕ) (bytes : List ℕ) → Caused (pairs n wl wr bytes)
pairs_caused n wl wr bytes =
    listed_caused 4 no_pair (items (column_pair wl wr) n bytes) (items_caused (column_pair wl wr) (column_pair_caused wl wr) n bytes)

base_caused : (bytes : List ℕ) → Caused (base bytes)
base_caused bytes = then_caused (within 1 8 bytes) _ (within_caused 1 8 bytes) (λ w. good _)

module _ (ws : List ℕ) where
  keep_caused : (bytes : List ℕ) → Caused (keep ws bytes)
  keep_caused bytes =
      then_caused (lower ws bytes) _ (lower_caused ws bytes)
      (λ c. then_caused (column (get_or ws c.0 0) c.1) _ (column_caused (get_or ws c.0 0) c.1)
      (λ a. then_caused (octet a.1) _ (octet_caused a.1)
      (λ b. then_caused (relation b.0) _ (relation_caused b.0)
      (λ r. then_caused (operand (get_or ws c.0 0) b.1) _ (operand_caused (get_or ws c.0 0) b.1) (λ o. good _)))))

  pick_caused : (bytes : List ℕ) → Caused (pick ws bytes)
  pick_caused bytes =
      then_caused (lower ws bytes) _ (lower_caused ws bytes)
      (λ c. then_caused (within 1 8 c.1) _ (within_caused 1 8 c.1)
      (λ n. then_caused (columns n.0 (get_or ws c.0 0) n.1) _ (columns_caused n.0 (get_or ws c.0 0) n.1) (λ l. good _)))

  pair_caused : (bytes : List ℕ) → Caused (pair ws bytes)
  pair_caused bytes =
      then_caused (lower ws bytes) _ (lower_caused ws bytes)
      (λ l. then_caused (lower ws l.1) _ (lower_caused ws l.1)
      (λ r. then_caused (within 0 4 r.1) _ (within_caused 0 4 r.1)
      (λ n. then_caused (pairs n.0 (get_or ws l.0 0) (get_or ws r.0 0) n.1) _ (pairs_caused n.0 (get_or ws l.0 0) (get_or ws r.0 0) n.1)
      (λ p. when_caused _ causes.Width _))))

  sides_caused : (bytes : List ℕ) → Caused (equal_sides ws bytes)
  sides_caused bytes =
      then_caused (lower ws bytes) _ (lower_caused ws bytes)
      (λ l. then_caused (lower ws l.1) _ (lower_caused ws l.1) (λ r. when_caused _ causes.Width _))

  both_caused : (bytes : List ℕ) → Caused (both ws bytes)
  both_caused bytes = then_caused (equal_sides ws bytes) _ (sides_caused bytes) (λ s. good _)

  less_caused : (bytes : List ℕ) → Caused (less ws bytes)
  less_caused bytes = then_caused (equal_sides ws bytes) _ (sides_caused bytes) (λ s. good _)

  total_caused : (k : ℕ) (bytes : List ℕ) → Caused (total k ws bytes)
  total_caused k bytes =
      then_caused (lower ws bytes) _ (lower_caused ws bytes)
      (λ c. then_caused (column (get_or ws c.0 0) c.1) _ (column_caused (get_or ws c.0 0) c.1)
      (λ j. then_caused (within 0 7 j.1) _ (within_caused 0 7 j.1)
      (λ n. then_caused (columns n.0 (get_or ws c.0 0) n.1) _ (columns_caused n.0 (get_or ws c.0 0) n.1)
      (λ l. when_caused _ causes.Width _))))

  behind_caused : (k op : ℕ) (bytes : List ℕ) → Caused (behind k ws op bytes)
  behind_caused k op bytes =
      cond_caused _ _ _ (base_caused bytes)
      (cond_caused _ _ _ (keep_caused bytes)
      (cond_caused _ _ _ (pick_caused bytes)
      (cond_caused _ _ _ (pair_caused bytes)
      (cond_caused _ _ _ (both_caused bytes)
      (cond_caused _ _ _ (less_caused bytes)
      (cond_caused _ _ _ (total_caused k bytes) (bad causes.Value)))))))

  pub node_caused : (k : ℕ) (bytes : List ℕ) → Caused (node k ws bytes)
  node_caused k bytes = then_caused (octet bytes) _ (octet_caused bytes) (λ op. behind_caused k op.0 op.1)
