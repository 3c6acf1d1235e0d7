-- The recurrence: the first cheapest plan of each set of tables and tests, from those of smaller sets.
use Rattle.std.specs.Prelude.{ℕ, zero, suc, ◌+◌, ◌-◌, ◌^◌, Bool, true, false, cond, ◌&&◌, is_some, Some, None, Option, ◌==◌, nat_lt}
use Rattle.sets.specs.Sets.{has, within, sum_below}
use Rattle.plans.specs.Questions.{Question, linked, tests_on, all_tests}
use Rattle.plans.specs.Plans.{Plan, bare, test, join, tables}
use Rattle.pricing.specs.Models.{Model}
use Rattle.plans.specs.Prices.{price}

-- A plan, or none, for each set R of tables and each set S of tests on them.
abbrev pub Rows : Type 0
Rows = (R S : ℕ) → Option Plan

-- Both sides of R cut at L hold a table, and a tie links them.
unfoldable pub splits : Question → (R L : ℕ) → Bool
splits Q R L = nat_lt 0 L && (nat_lt L R && (within L R && linked Q L (R - L)))

-- Test i is one of S, and given, so that it may be made last.
abbrev pub may_be_last : Question → (S i : ℕ) → Bool
may_be_last Q S i = has S i && is_some (Q.test i)

-- A candidate is there if its parts are.
unfoldable pub both : Option Plan → Option Plan → Option Plan
both None r = None
both (Some l) None = None
both (Some l) (Some r) = Some (join l r)

unfoldable pub above : ℕ → Option Plan → Option Plan
above i None = None
above i (Some p) = Some (test i p)

-- What may stand in the row of R and S: table i alone; the tables L joined with the rest, each side with the tests of S on its own tables; test i made last.
unfoldable pub alone : (R S i : ℕ) → Option Plan
alone R S i = elim (R == 2 ^ i && S == 0) [ true ↦ Some (bare i) | false ↦ None ]

unfoldable pub joining : Question → Rows → (R S L : ℕ) → Option Plan
joining Q rows R S L = elim (splits Q R L) [ true ↦ both (rows L (tests_on Q S L)) (rows (R - L) (tests_on Q S (R - L))) | false ↦ None ]

unfoldable pub testing : Question → Rows → (R S i : ℕ) → Option Plan
testing Q rows R S i = elim (may_be_last Q S i) [ true ↦ above i (rows R (S - 2 ^ i)) | false ↦ None ]

-- How many of the first n candidates are there.
unfoldable pub found : {X : Type 0} → (ℕ → Option X) → (n : ℕ) → ℕ
found f zero = 0
found f (suc n) = found f n + cond (is_some (f n)) 1 0

module _ {P : Type 0} (m : Model P) (Q : Question) where
  -- The later plan replaces the earlier one only if it is cheaper.
  unfoldable pub pick : Option Plan → Option Plan → Option Plan
  pick None c = c
  pick (Some a) None = Some a
  pick (Some a) (Some b) = cond (m.at_most (price m Q a) (price m Q b)) (Some a) (Some b)

  -- The first cheapest of a and then the first n of f.
  unfoldable pub first_best : Option Plan → (f : ℕ → Option Plan) (n : ℕ) → Option Plan
  first_best a f zero = a
  first_best a f (suc n) = pick (first_best a f n) (f n)

  -- The row of R and S from the rows before it: a bare table, joins by ascending left set, then tests by ascending number.
  unfoldable pub row : Rows → Rows
  row rows R S = first_best (first_best (first_best None (alone R S) Q.count) (joining Q rows R S) R) (testing Q rows R S) Q.count

  -- The rows of which R + S is below n.
  unfoldable pub rows_to : (n : ℕ) → Rows
  rows_to zero = λ R S. None
  rows_to (suc n) = row (rows_to n)

  -- The plan of the row of R and S.
  unfoldable pub opt : Rows
  opt R S = rows_to (suc (R + S)) R S

  -- How many candidates, joins and tests, of the row have a plan for each part.
  unfoldable pub tries : (R S : ℕ) → ℕ
  tries R S = found (joining Q opt R S) R + found (testing Q opt R S) Q.count

-- The choice of a row: 0 for no plan, 1 for a bare table, 256 + i for test i on top, 4,096 + the number of a join's left set.
unfoldable pub code : Option Plan → ℕ
code None = 0
code (Some (bare i)) = 1
code (Some (test i p)) = 256 + i
code (Some (join l r)) = 4096 + tables l

-- The tries of all rows: each set R of tables, with each set S of tests on them.
unfoldable pub all_tries : {P : Type 0} → Model P → Question → ℕ
all_tries m Q =
    sum_below (λ R. sum_below (λ S. elim (within S (tests_on Q (all_tests Q) R)) [ true ↦ tries m Q R S | false ↦ 0 ]) (2 ^ Q.count)) (2 ^ Q.count)
