-- The sample questions, by the calls that ask them.
use Rattle.std.specs.Prelude.{ℕ, List, [], ◌∷◌, None}
use Rattle.pricing.specs.Models.{Model}
use Rattle.plans.specs.Questions.{Question}
use Rattle.catalogue.specs.Changes.{empty}
use Rattle.planner.specs.Calls.{add_table, set_test, set_tie, solve_with, solved, tell_into, told}
use Rattle.planner.specs.Given.{given_by}
use Rattle.planner.specs.States.{State}
use Rattle.planner.specs.Steps.{Step}

-- 100 and 10 rows, tied at 1/100; a fetch on table 0 keeps 1/2.
abbrev pub fetching : (tie_cost test_cost : ℕ) → Question
fetching tie_cost test_cost = given_by empty (add_table 100 ∷ add_table 10 ∷ set_tie 0 1 1 100 tie_cost ∷ set_test 0 1 2 test_cost 1 ∷ [])

-- Three tables of 5 rows, 0 tied to 1 and to 2 at 1/3.
abbrev pub star : Question
star = given_by empty (add_table 5 ∷ add_table 5 ∷ add_table 5 ∷ set_tie 0 1 1 3 0 ∷ set_tie 0 2 1 3 0 ∷ [])

-- Two tables of as many rows as a table can have, tied at 1/65,535, and without a tie.
abbrev pub full_pair : Question
full_pair = given_by empty (add_table 16777215 ∷ add_table 16777215 ∷ set_tie 0 1 1 65535 0 ∷ [])

abbrev pub untied : Question
untied = given_by empty (add_table 3 ∷ add_table 4 ∷ [])

-- A table with a look that costs 250 ms a row.
abbrev pub looking : Question
looking = given_by empty (add_table 100 ∷ set_test 0 1 2 250 0 ∷ [])

-- The question, before any plan stands.
abbrev pub posed : {P : Type 0} → Question → State P
posed Q = record { question = Q; standing = None }

-- Something of each row of the fetching question, in their order.
abbrev pub each_row : {X : Type 0} → ((R S : ℕ) → X) → List X
each_row f = f 0 0 ∷ f 1 0 ∷ f 1 1 ∷ f 2 0 ∷ f 3 0 ∷ f 3 1 ∷ []

-- Table 0, its test, table 1, and the join of both; and table 0 joined with table 1, and then the test.
abbrev pub tests_first : List ℕ
tests_first = 0x10 ∷ 0 ∷ 0x11 ∷ 0 ∷ 0x10 ∷ 1 ∷ 0x12 ∷ 0 ∷ []

abbrev pub joins_first : List ℕ
joins_first = 0x10 ∷ 0 ∷ 0x10 ∷ 1 ∷ 0x12 ∷ 0 ∷ 0x11 ∷ 0 ∷ []

-- The question is solved in six rows with so many tries, and then the plan and its price are told.
abbrev pub Tells : {P : Type 0} → Model P → Question → (tries : ℕ) (bytes : List ℕ) (v : P) → Type 0
Tells {P} m Q tries bytes v =
    (t : State P) × Step m (posed Q) (solve_with 6 6 6) (solved tries v) t × Step m t (tell_into 8) (told bytes v) t
