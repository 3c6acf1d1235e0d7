-- The samples, by computation.
use Rattle.std.proofs.Common.{◌≡◌, ℕ, refl, arith}
use Rattle.sets.specs.Sets.{has, members, any_below, sum_below}
use Rattle.plans.specs.Questions.{tie_of, base, narrowed, size_of, linked, cost_of, across, all_tests}
use Rattle.plans.specs.Plans.{tables, tests}
use Rattle.plans.specs.Prices.{price}
use Rattle.plans.specs.Recurrence.{splits, both, above, alone, joining, testing, found, pick, first_best, row, rows_to, opt, tries, code, all_tries}
use Rattle.plans.specs.Samples.{Samples}

pub samples : Samples
unfolding has members any_below sum_below tie_of base narrowed size_of linked cost_of across all_tests tables tests price splits both above alone joining testing found pick first_best row rows_to opt tries code all_tries
samples = record {
  choices = refl;
  sizes = refl;
  clock_plan = refl;
  clock_price = refl;
  tries = refl;
  other_order = refl;
  test_missing = λ valid. let none : ◌≡◌ {A = ℕ} 0 1 = valid.just_tests in omega arith;
  fetches_plan = refl;
  fetches = refl;
  fetches_ms = refl;
  clock_tests_first = refl;
  clock_tests_first_price = refl;
  fetches_joins_first = refl;
  fetches_joins_first_count = refl;
  fetches_joins_first_ms = refl;
  star_size = refl;
  full_size = refl;
  clock_untied = refl;
  fetches_untied = refl;
}
