-- When two numbers stand in a relation, as a keep (selection) asks of each row. Assumes nothing.
--     relation_of b              the relation that a number stands for: 0 <, 1 ≤, 2 =, 3 ≠, 4 ≥, 5 >; no other number stands for one
--     same_number x y            x and y are equal
--     stands relation x y        the test that code and specifications use
--     Stands relation x y        the same as a fact
use Rattle.std.specs.Prelude.{◌≡◌, ℕ, Bool, not, cond, ℤ, ◌≤ℤ◌, ◌<ℤ◌, Ok, Err, Result, ◌==◌, Decides, int_le, int_lt}
use Rattle.std.specs.Ordering.{is_eq, int_cmp}
use Rattle.bag.specs.declared.condition.Relation.{Relation}
use Rattle.bag.specs.declared.condition.Relation.TheVariants.{Less, LessOrEqual, Equal, NotEqual, GreaterOrEqual, Greater}
use Rattle.bag.specs.declared.condition.UnknownRelation.{UnknownRelation}

abbrev pub relation_of : ℕ → Result Relation UnknownRelation
relation_of b =
    cond (b == 0) (Ok Less) (cond (b == 1) (Ok LessOrEqual) (cond (b == 2) (Ok Equal) (cond (b == 3) (Ok NotEqual) (cond (b == 4) (Ok GreaterOrEqual) (cond (b == 5) (Ok Greater) (Err (record {})))))))

abbrev pub same_number : ℤ → ℤ → Bool
same_number x y = is_eq (int_cmp x y)

abbrev pub stands : Relation → ℤ → ℤ → Bool
stands Less x y = int_lt x y
stands LessOrEqual x y = int_le x y
stands Equal x y = same_number x y
stands NotEqual x y = not (same_number x y)
stands GreaterOrEqual x y = int_le y x
stands Greater x y = int_lt y x

abbrev pub Stands : Relation → ℤ → ℤ → Type 0
Stands Less x y = x <ℤ y
Stands LessOrEqual x y = x ≤ℤ y
Stands Equal x y = x ≡ y
Stands NotEqual x y = x ≡ y → ⊥
Stands GreaterOrEqual x y = y ≤ℤ x
Stands Greater x y = y <ℤ x

abbrev pub TheTestDecidesTheRelation : Type 0
TheTestDecidesTheRelation = (relation : Relation) (x y : ℤ) → Decides (stands relation x y) (Stands relation x y)
