-- What solve answers, and what it leaves in the lists.
use Rattle.std.specs.Prelude.{◌≡◌, ℕ, ◌<◌, Bool, true, false, cond, ◌&&◌, List, length, Some, None, Ok, Err, MatchBool, Option, Result, ◌==◌, nat_le}
use Rattle.buffers.specs.Written.{written}
use Rattle.pricing.specs.Models.{Model}
use Rattle.sets.specs.Rows.{row_count}
use Rattle.plans.specs.Questions.{Question, all_tables, all_tests}
use Rattle.plans.specs.Plans.{Plan, Valid}
use Rattle.plans.specs.Prices.{price}
use Rattle.plans.specs.Recurrence.{opt, code, all_tries}
use Rattle.plans.specs.Spelling.{spelled}
use Rattle.std.specs.List.{slice_get}
use Rattle.solver.specs.Solved.{Own, place, Solved}
use Rattle.solver.specs.declared.solutions.Solution.{Solution}
use Rattle.solver.specs.declared.solutions.SolveRefusal.{SolveRefusal}
use Rattle.solver.specs.declared.solutions.SolveRefusal.TheVariants.{NoTables, ListTooShort, NoPlan, PastCount}

abbrev pub solve_number : SolveRefusal → ℕ
solve_number NoTables = 11
solve_number ListTooShort = 12
solve_number NoPlan = 13
solve_number PastCount = 14

-- Working rows of the question.
abbrev pub rows_of : Question → ℕ
rows_of Q = row_count Q.count (all_tests Q)

-- No list has fewer entries than there are working rows.
abbrev pub enough : Question → (prices sizes choices : ℕ) → Bool
enough Q prices sizes choices = nat_le (rows_of Q) prices && (nat_le (rows_of Q) sizes && nat_le (rows_of Q) choices)

-- The rows are filled.
abbrev pub filled : Question → (prices sizes choices : ℕ) → Bool
filled Q prices sizes choices = cond (Q.count == 0) false (enough Q prices sizes choices)

module _ {P : Type 0} (m : Model P) (Q : Question) where
  -- Every row has its choice, and the price of its plan if it has one.
  pub record Readable (prices : List P) (choices : List ℕ) : Type 0 where
    pub choices_are : (R S : ℕ) → Own Q R S → place Q R S < rows_of Q → slice_get choices (place Q R S) ≡ Some (code (opt m Q R S))
    pub prices_are : (R S : ℕ) (plan : Plan) → Own Q R S → place Q R S < rows_of Q → opt m Q R S ≡ Some plan → slice_get prices (place Q R S) ≡ Some (price m Q plan)

  -- The plan of the whole question, unless there is none or it is past the count.
  abbrev pub whole_plan : Option Plan → Result Plan SolveRefusal
  whole_plan None = Err NoPlan
  whole_plan (Some p) = cond (m.past (price m Q p)) (Err PastCount) (Ok p)

  abbrev pub outcome : (room : Bool) → Result Plan SolveRefusal
  outcome room = cond (Q.count == 0) (Err NoTables) (cond room (whole_plan (opt m Q (all_tables Q) (all_tests Q))) (Err ListTooShort))

  -- The bytes spell the plan, at its price, with the tries of the question.
  pub record Tells (p : Plan) (s : Solution P) : Type 0 where
    pub len : s.plan.len ≡ length (spelled p)
    pub bytes : written s.plan ≡ spelled p
    pub price_is : s.price ≡ price m Q p
    pub tries : s.tries ≡ all_tries m Q

  abbrev pub Answers : Result Plan SolveRefusal → Result (Solution P) SolveRefusal → Type 0
  Answers (Ok p) (Ok s) = Tells p s
  Answers (Ok p) (Err e) = ⊥
  Answers (Err e) (Ok s) = ⊥
  Answers (Err e) (Err f) = f ≡ e

  -- All rows are filled, or the lists are as they were.
  abbrev pub Lists : Bool → (prices₀ prices : List P) (sizes₀ sizes choices₀ choices : List ℕ) → Type 0
  Lists done prices₀ prices sizes₀ sizes choices₀ choices =
      MatchBool done (Solved m Q (rows_of Q) prices₀ prices sizes₀ sizes choices₀ choices) ((prices ≡ prices₀) × (sizes ≡ sizes₀) × (choices ≡ choices₀))

  -- A plan of the whole question: each table and each test once, in its place.
  abbrev pub Whole : Plan → Type 0
  Whole p = Valid Q (all_tables Q) (all_tests Q) p

  -- A told plan is valid, its price is the one told and below the count, and no valid plan is cheaper. No plan means that none is valid, and past the count that every valid one is.
  abbrev pub Cheapest : Result (Solution P) SolveRefusal → Type 0
  Cheapest (Ok s) = (p : Plan) × Whole p × (written s.plan ≡ spelled p) × (s.price ≡ price m Q p) × (m.past s.price ≡ false)
      × ((q : Plan) → Whole q → m.at_most s.price (price m Q q) ≡ true)
  Cheapest (Err NoTables) = Q.count ≡ 0
  Cheapest (Err ListTooShort) = Unit {0}
  Cheapest (Err NoPlan) = (q : Plan) → Whole q → ⊥
  Cheapest (Err PastCount) = (q : Plan) → Whole q → m.past (price m Q q) ≡ true
