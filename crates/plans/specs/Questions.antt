-- A question: tables, the ties between them and the tests on them; and the size of each set of tables and tests.
use Rattle.std.specs.Prelude.{◌≡◌, ℕ, ◌+◌, ◌-◌, ◌*◌, ◌/◌, ◌^◌, min, Bool, true, cond, ◌&&◌, List, [], ◌∷◌, is_some, Some, None, Option, bit_and}
use Rattle.plans.specs.declared.predicates.Tie.{Tie}
use Rattle.plans.specs.declared.predicates.Test.{Test}
use Rattle.sets.specs.Sets.{has, ◌⊆◌, members, any_below, sum_below}

-- Tables are the numbers below count.
pub record Question : Type 0 where
  pub count : ℕ
  pub rows : (table : ℕ) → ℕ
  pub tie : (table other : ℕ) → Option Tie
  pub test : (number : ℕ) → Option Test

-- The tie of two tables, whichever way round it was given.
unfoldable pub tie_of : Question → ℕ → ℕ → Option Tie
tie_of Q i j = elim (Q.tie i j) [ Some t ↦ Some t | None ↦ Q.tie j i ]

-- A test bears the number of its table.
abbrev pub table_of : Question → (test : ℕ) → ℕ
table_of Q i = i

-- The tests of S on the tables R, and that all of S are such.
abbrev pub tests_on : Question → (S R : ℕ) → ℕ
tests_on Q S R = bit_and S R

abbrev pub Belongs : Question → (S R : ℕ) → Type 0
Belongs Q S R = S ⊆ R

-- n / q, rounded up
abbrev pub up : (n q : ℕ) → ℕ
up n q = (n + (q - 1)) / q

-- No size is above this.
abbrev pub ceiling : ℕ
ceiling = 16777215

-- The rows of table i, or rows × p / q rounded up if its test is in S.
unfoldable pub base : Question → (S i : ℕ) → ℕ
base Q S i = elim (Q.test i) [ Some t ↦ cond (has S i) (up (Q.rows i * t.p) t.q) (Q.rows i) | None ↦ Q.rows i ]

-- n, for each j tied to i multiplied by p, divided by q and rounded up
unfoldable pub narrowed : Question → (i : ℕ) (js : List ℕ) (n : ℕ) → ℕ
narrowed Q i [] n = n
narrowed Q i (j ∷ js) n = narrowed Q i js (elim (tie_of Q i j) [ Some t ↦ up (n * t.p) t.q | None ↦ n ])

-- The size of ascending tables: the base size of the lowest times the size of the rest, narrowed by the ties of the lowest, and the ceiling last.
-- A single table keeps its base size, which no ceiling changes.
unfoldable pub size_of : Question → (S : ℕ) (tables : List ℕ) → ℕ
size_of Q S [] = 1
size_of Q S (i ∷ rest) = min ceiling (narrowed Q i rest (base Q S i * size_of Q S rest))

-- The size of the tables R under the tests S.
abbrev pub size : Question → (R S : ℕ) → ℕ
size Q R S = size_of Q S (members Q.count R)

-- The rows that test i is charged for where it is put to the tables R under the tests S.
abbrev pub charged : Question → (i R S : ℕ) → ℕ
charged Q i R S = size Q R S

-- A tie links the tables A to the tables B: as a fact, and as a test.
abbrev pub Linked : Question → (A B : ℕ) → Type 0
Linked Q A B = (i : ℕ) × (j : ℕ) × (has A i ≡ true) × (has B j ≡ true) × (is_some (tie_of Q i j) ≡ true)

unfoldable pub linked : Question → (A B : ℕ) → Bool
linked Q A B = any_below (λ i. has A i && any_below (λ j. has B j && is_some (tie_of Q i j)) Q.count) Q.count

-- The costs of all ties between the tables A and the tables B, added up.
unfoldable pub cost_of : Question → ℕ → ℕ → ℕ
cost_of Q i j = elim (tie_of Q i j) [ Some t ↦ t.cost | None ↦ 0 ]

unfoldable pub across : Question → (A B : ℕ) → ℕ
across Q A B = sum_below (λ i. cond (has A i) (sum_below (λ j. cond (has B j) (cost_of Q i j) 0) Q.count) 0) Q.count

-- All tables as a set, and all tests.
abbrev pub all_tables : Question → ℕ
all_tables Q = 2 ^ Q.count - 1

unfoldable pub all_tests : Question → ℕ
all_tests Q = sum_below (λ i. cond (is_some (Q.test i)) (2 ^ i) 0) Q.count
