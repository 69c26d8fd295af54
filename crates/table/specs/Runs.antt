-- What is left in a run where an entry is put in or taken out by place. It describes how the table works, not what it means. Assumes nothing.
--     opened run i n e       of the first n entries those from place i on are one place up, and e stands at place i
--     closed run i n blank   of the first n entries those past place i are one place down, and the blank stands behind them
use Rattle.std.specs.Prelude.{ℕ, suc, List, ◌∷◌, ◌++◌, take, drop}

abbrev pub opened : {E : Type 0} → List E → ℕ → ℕ → E → List E
opened run i n e = (take i run ++ (e ∷ drop i (take n run))) ++ drop (suc n) run

abbrev pub closed : {E : Type 0} → List E → ℕ → ℕ → E → List E
closed run i n blank = (take i run ++ drop (suc i) (take n run)) ++ (blank ∷ drop n run)
