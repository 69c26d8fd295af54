-- A run in which entries were moved by one place, and the place that came free was written. Assumes nothing.
--     opened_from, closed_from      the run is `opened` or `closed`, from what stands at each place
use Rattle.std.proofs.Common.{◌≡◌, ℕ, suc, ◌+◌, ◌-◌, ◌<◌, ◌≤◌, List, ◌++◌, length, get_or, take, drop, set, sym, ◌∙◌, arith}
use Rattle.std.proofs.lemmas.List.{places, ext_get_or, length-set, length-take, length-drop, length-append, get_or-set_same, get_or-set_other}
use Rattle.std.proofs.lemmas.Bool.{cases_order}
use Rattle.table.specs.Runs.{opened, closed}

-- `run` before, `moved` after the entries were moved
module _ {E : Type 0} (run moved : List E) (i n : ℕ) (e : E) (same_length : length moved ≡ length run) where
  pub length_opened : i ≤ n → n < length run → length (opened run i n e) ≡ length run
  length_opened le room = simp (length-append, length-take, length-drop) (omega arith)

  pub opened_from : i ≤ n → n < length run
      → ((k : ℕ) → k < i → get_or moved k e ≡ get_or run k e)
      → ((k : ℕ) → i < k → k ≤ n → get_or moved k e ≡ get_or run (k - 1) e)
      → ((k : ℕ) → n < k → get_or moved k e ≡ get_or run k e)
      → set moved i e ≡ opened run i n e
  opened_from le room before between behind = ext_get_or e (set moved i e) (opened run i n e) (length-set moved i e ∙ same_length ∙ sym (length_opened le room)) (λ k h.
      let h' : k < length run = omega (arith, length-set moved i e) in
      let b = before k in let m = between k in let p = behind k in let q = cases_order k i in
      let s = get_or-set_same moved i e e in let o = get_or-set_other moved i k e e in
      grind (arith, places))

  pub length_closed : i < n → n ≤ length run → length (closed run i n e) ≡ length run
  length_closed lt room = simp (length-append, length-take, length-drop) (omega arith)

  pub closed_from : i < n → n ≤ length run
      → ((k : ℕ) → k < i → get_or moved k e ≡ get_or run k e)
      → ((k : ℕ) → i ≤ k → k + 1 < n → get_or moved k e ≡ get_or run (k + 1) e)
      → ((k : ℕ) → n ≤ k → get_or moved k e ≡ get_or run k e)
      → set moved (n - 1) e ≡ closed run i n e
  closed_from lt room before between behind = ext_get_or e (set moved (n - 1) e) (closed run i n e) (length-set moved (n - 1) e ∙ same_length ∙ sym (length_closed lt room)) (λ k h.
      let h' : k < length run = omega (arith, length-set moved (n - 1) e) in
      let front : length (take i run ++ drop (suc i) (take n run)) + 1 ≡ n = simp (length-append, length-take, length-drop) (omega arith) in
      let first : length (take i run) ≡ i = simp length-take (omega arith) in
      let b = before k in let m = between k in let p = behind k in let q = cases_order k (n - 1) in
      let s = get_or-set_same moved (n - 1) e e in let o = get_or-set_other moved (n - 1) k e e in
      grind (arith, places))
