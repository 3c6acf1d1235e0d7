-- The samples: what sample calls answer, by the definitions.
use Rattle.std.specs.Prelude.{◌≡◌, [], ◌∷◌, negsuc, Ok, Err, codes}
use Rattle.pricing.specs.Clocks.{clock}
use Rattle.pricing.specs.Fetches.{fetches_first}
use Rattle.pricing.specs.declared.fetch_prices.FetchPrice.{FetchPrice}
use Rattle.pricing.specs.declared.kinds.Kind.TheVariants.{Look}
use Rattle.plans.specs.Questions.{size}
use Rattle.plans.specs.Recurrence.{opt, code}
use Rattle.catalogue.specs.Changes.{with_test}
use Rattle.reading.specs.Outcomes.{reading}
use Rattle.reading.specs.declared.ReadingFault.TheVariants.{WrongForm}
use Rattle.planner.specs.Calls.{check_plan, checked, correct_test, done, refused, solve_with}
use Rattle.planner.specs.Steps.{Step}
use Rattle.samples.specs.Questions.{each_row, fetching, full_pair, joins_first, looking, posed, star, Tells, tests_first, untied}

pub record Samples : Type 0 where
  -- The worked question, at tie cost 1 and test cost 40,000: its choices and its sizes, ..
  pub choices : each_row (λ R S. code (opt clock (fetching 1 40000) R S)) ≡ 0 ∷ 1 ∷ 256 ∷ 1 ∷ 4097 ∷ 256 ∷ []
  pub sizes : each_row (size (fetching 1 40000)) ≡ 1 ∷ 100 ∷ 50 ∷ 10 ∷ 10 ∷ 5 ∷ []
  -- .. what Clock tells, ..
  pub clock_tells : Tells clock (fetching 1 40000) 6 joins_first 401120
  -- .. a check of the other order, and of that order without the test, ..
  pub check_priced : Step clock (posed (fetching 1 40000)) (check_plan tests_first 10) (checked 4000615) (posed (fetching 1 40000))
  pub check_without_test : Step clock (posed (fetching 1 40000)) (check_plan (0x10 ∷ 0 ∷ 0x10 ∷ 1 ∷ 0x12 ∷ 0 ∷ []) 10) (refused 19) (posed (fetching 1 40000))
  -- .. and what Fetches first tells.
  pub fetches_tells : (v : FetchPrice) × Tells fetches_first (fetching 1 40000) 6 joins_first v × (v.fetches ≡ 10) × (v.ms ≡ 401120)
  -- At tie cost 60 and test cost 100 the models part ways.
  pub clock_tests_first : Tells clock (fetching 60 100) 6 tests_first 40115
  pub fetches_joins_first : (v : FetchPrice) × Tells fetches_first (fetching 60 100) 6 joins_first v × (v.fetches ≡ 10) × (v.ms ≡ 61120)
  -- Sizes start from the lowest table, and the ceiling comes last.
  pub star_size : size star 7 0 ≡ 14
  pub full_size : size full_pair 3 0 ≡ 16777215
  -- -0.250 keeps its minus, and zero has none.
  pub minus_quarter : reading (codes "-0.250") ≡ Ok (negsuc 249)
  pub minus_zero : reading (codes "-0.000") ≡ Err WrongForm
  -- A cost of 250 corrected by -250 is 0, and by -251 it is refused.
  pub corrected : Step clock (posed looking) (correct_test 0 (negsuc 249)) done (posed (with_test looking 0 (record { p = 1; q = 2; cost = 0; kind = Look })))
  pub corrected_too_far : Step clock (posed looking) (correct_test 0 (negsuc 250)) (refused 10) (posed looking)
  -- Two tables without a tie have no plan.
  pub clock_untied : Step clock (posed untied) (solve_with 4 4 4) (refused 13) (posed untied)
  pub fetches_untied : Step fetches_first (posed untied) (solve_with 4 4 4) (refused 13) (posed untied)
