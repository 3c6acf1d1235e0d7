-- Plans, and which of them are valid.
use Rattle.std.specs.Prelude.{◌≡◌, ℕ, ◌+◌, ◌^◌, ◌<◌, true, false, cond, is_some, ◌==◌, bit_and}
use Rattle.sets.specs.Sets.{has}
use Rattle.plans.specs.Questions.{Question, Linked, tie_of, table_of, all_tables, all_tests}

-- A bare table, a test on a plan, or a join of two plans, left and right.
pub data Plan : Type 0 where
  bare : ℕ → Plan
  test : ℕ → Plan → Plan
  join : Plan → Plan → Plan

-- The tables and the tests of a plan in which none stands twice.
unfoldable pub tables : Plan → ℕ
tables (bare i) = 2 ^ i
tables (test i p) = tables p
tables (join l r) = tables l + tables r

unfoldable pub tests : Plan → ℕ
tests (bare i) = 0
tests (test i p) = tests p + 2 ^ i
tests (join l r) = tests l + tests r

-- Each table and each test is given and stands once, each test above its own table, and a tie links the two sides of each join.
unfoldable pub WellFormed : Question → Plan → Type 0
WellFormed Q (bare i) = i < Q.count
WellFormed Q (test i p) = WellFormed Q p × (is_some (Q.test i) ≡ true) × (has (tables p) (table_of Q i) ≡ true) × (has (tests p) i ≡ false)
WellFormed Q (join l r) = WellFormed Q l × WellFormed Q r × (bit_and (tables l) (tables r) ≡ 0) × Linked Q (tables l) (tables r)

-- Valid for the tables R and the tests S: these, and nothing else.
pub record Valid (Q : Question) (R S : ℕ) (p : Plan) : Type 0 where
  pub formed : WellFormed Q p
  pub just_tables : tables p ≡ R
  pub just_tests : tests p ≡ S

-- A valid plan of the question holds all tables and all tests.
abbrev pub Answers : Question → Plan → Type 0
Answers Q p = Valid Q (all_tables Q) (all_tests Q) p

-- How often table i stands in a plan, and how often test i.
unfoldable pub table_times : ℕ → Plan → ℕ
table_times i (bare j) = cond (j == i) 1 0
table_times i (test j p) = table_times i p
table_times i (join l r) = table_times i l + table_times i r

unfoldable pub test_times : ℕ → Plan → ℕ
test_times i (bare j) = 0
test_times i (test j p) = test_times i p + cond (j == i) 1 0
test_times i (join l r) = test_times i l + test_times i r

-- Each table and each test is given, each test has its own table somewhere under it, and a tie links the two sides of each join.
unfoldable pub Placed : Question → Plan → Type 0
Placed Q (bare i) = i < Q.count
Placed Q (test i p) = Placed Q p × (is_some (Q.test i) ≡ true) × (0 < table_times (table_of Q i) p)
Placed Q (join l r) =
    Placed Q l × Placed Q r × ((i : ℕ) × (j : ℕ) × (0 < table_times i l) × (0 < table_times j r) × (is_some (tie_of Q i j) ≡ true))

-- Validity by counting: each table of R once, each test of S once, nothing else, and all in their places.
pub record Counted (Q : Question) (R S : ℕ) (p : Plan) : Type 0 where
  pub tables_once : (i : ℕ) → table_times i p ≡ cond (has R i) 1 0
  pub tests_once : (i : ℕ) → test_times i p ≡ cond (has S i) 1 0
  pub placed : Placed Q p
