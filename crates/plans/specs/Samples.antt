-- Sample questions with their outcomes.
use Rattle.std.specs.Prelude.{◌≡◌, ℕ, cond, ◌&&◌, List, [], ◌∷◌, Some, None, Option, ◌==◌}
use Rattle.pricing.specs.Clocks.{clock}
use Rattle.pricing.specs.Fetches.{fetches_first}
use Rattle.pricing.specs.declared.kinds.Kind.TheVariants.{Fetch}
use Rattle.plans.specs.Questions.{Question, size}
use Rattle.plans.specs.declared.predicates.Tie.{Tie}
use Rattle.plans.specs.Plans.{Plan, bare, test, join, Answers}
use Rattle.plans.specs.Prices.{price}
use Rattle.plans.specs.Recurrence.{opt, code, all_tries}

abbrev tie_at : (p q cost : ℕ) → Option Tie
tie_at p q cost = Some (record { p = p; q = q; cost = cost })

-- 100 and 10 rows, tied at 1/100; a fetch on table 0 keeps 1/2.
abbrev pub fetching : (tie_cost test_cost : ℕ) → Question
fetching tie_cost test_cost = record {
  count = 2;
  rows = λ i. cond (i == 0) 100 10;
  tie = λ i j. cond (i == 0 && j == 1) (tie_at 1 100 tie_cost) None;
  test = λ i. cond (i == 0) (Some (record { p = 1; q = 2; cost = test_cost; kind = Fetch })) None;
}

-- Three tables of 5 rows, 0 tied to 1 and to 2 at 1/3.
abbrev pub star : Question
star = record {
  count = 3;
  rows = λ i. 5;
  tie = λ i j. cond (i == 0) (tie_at 1 3 0) None;
  test = λ i. None;
}

-- Two tables of as many rows as a table can have, tied or not.
abbrev pub full_pair : Option Tie → Question
full_pair tie = record {
  count = 2;
  rows = λ i. 16777215;
  tie = λ i j. cond (i == 0 && j == 1) tie None;
  test = λ i. None;
}

-- Something of each row of the fetching question, in their order.
abbrev pub each_row : {X : Type 0} → ((R S : ℕ) → X) → List X
each_row f = f 0 0 ∷ f 1 0 ∷ f 1 1 ∷ f 2 0 ∷ f 3 0 ∷ f 3 1 ∷ []

abbrev pub test_first : Plan
test_first = join (test 0 (bare 0)) (bare 1)

abbrev pub join_first : Plan
join_first = test 0 (join (bare 0) (bare 1))

pub record Samples : Type 0 where
  -- The worked question, at tie cost 1 and test cost 40,000.
  pub choices : each_row (λ R S. code (opt clock (fetching 1 40000) R S)) ≡ 0 ∷ 1 ∷ 256 ∷ 1 ∷ 4097 ∷ 256 ∷ []
  pub sizes : each_row (size (fetching 1 40000)) ≡ 1 ∷ 100 ∷ 50 ∷ 10 ∷ 10 ∷ 5 ∷ []
  pub clock_plan : opt clock (fetching 1 40000) 3 1 ≡ Some join_first
  pub clock_price : price clock (fetching 1 40000) join_first ≡ 401120
  pub tries : all_tries clock (fetching 1 40000) ≡ 6
  pub other_order : price clock (fetching 1 40000) test_first ≡ 4000615
  pub test_missing : Answers (fetching 1 40000) (join (bare 0) (bare 1)) → ⊥
  pub fetches_plan : opt fetches_first (fetching 1 40000) 3 1 ≡ Some join_first
  pub fetches : (price fetches_first (fetching 1 40000) join_first).fetches ≡ 10
  pub fetches_ms : (price fetches_first (fetching 1 40000) join_first).ms ≡ 401120
  -- At tie cost 60 and test cost 100 the models part ways.
  pub clock_tests_first : opt clock (fetching 60 100) 3 1 ≡ Some test_first
  pub clock_tests_first_price : price clock (fetching 60 100) test_first ≡ 40115
  pub fetches_joins_first : opt fetches_first (fetching 60 100) 3 1 ≡ Some join_first
  pub fetches_joins_first_count : (price fetches_first (fetching 60 100) join_first).fetches ≡ 10
  pub fetches_joins_first_ms : (price fetches_first (fetching 60 100) join_first).ms ≡ 61120
  -- Sizes start from the lowest table, and the ceiling comes last.
  pub star_size : size star 7 0 ≡ 14
  pub full_size : size (full_pair (tie_at 1 65535 0)) 3 0 ≡ 16777215
  -- Two tables without a tie have no plan.
  pub clock_untied : opt clock (full_pair None) 3 0 ≡ None
  pub fetches_untied : opt fetches_first (full_pair None) 3 0 ≡ None
