-- The samples, by computation.
use Rattle.std.proofs.Common.{◌≡◌, [], ◌∷◌, sym, refl, ◌∙◌, subst, inl, inr, arith}
use lib.Count.{ones}
use Rattle.sets.specs.Sets.{has, members, any_below, sum_below}
use Rattle.plans.specs.Questions.{tie_of, base, narrowed, size_of, linked, cost_of, across, all_tests}
use Rattle.plans.specs.Plans.{Plan, Answers, WellFormed, bare, test, join, tables, tests}
use Rattle.plans.specs.Prices.{price}
use Rattle.plans.specs.Recurrence.{splits, both, above, alone, joining, testing, found, pick, first_best, row, rows_to, opt, tries, code, all_tries}
use Rattle.plans.specs.Spelling.{spelled}
use Rattle.plans.proofs.Spellings.{spelled_one_way}
use Rattle.checker.specs.Checks.{named_pairs}
use Rattle.samples.specs.Questions.{fetching}
use Rattle.samples.specs.Samples.{Samples}

-- The test is above its own table, and a tie links the two sides.
test_first_valid : Answers (fetching 1 40000) (join (test 0 (bare 0)) (bare 1))
unfolding WellFormed tables tests has all_tests sum_below tie_of
test_first_valid = record {
  formed = ((omega arith, refl, refl, refl), omega arith, refl, (0, 1, refl, refl, refl));
  just_tables = refl;
  just_tests = refl;
}

-- Without the test no valid plan is spelled.
joined_alone : Plan
joined_alone = join (bare 0) (bare 1)

lacks_test : Answers (fetching 1 40000) joined_alone → ⊥
unfolding joined_alone tests all_tests sum_below tie_of
lacks_test valid = cc valid.just_tests

spelled_alone : spelled joined_alone ≡ 0x10 ∷ 0 ∷ 0x10 ∷ 1 ∷ 0x12 ∷ 0 ∷ []
unfolding joined_alone spelled
spelled_alone = refl

test_missing : (p : Plan) → spelled p ≡ 0x10 ∷ 0 ∷ 0x10 ∷ 1 ∷ 0x12 ∷ 0 ∷ [] → Answers (fetching 1 40000) p → ⊥
test_missing p e valid = lacks_test (subst (Answers (fetching 1 40000)) (spelled_one_way.apart p joined_alone (e ∙ sym spelled_alone)) valid)

pub samples : Samples
unfolding has members any_below sum_below tie_of base narrowed size_of linked cost_of across all_tests tables tests price splits both above alone joining testing found pick first_best row rows_to opt tries code all_tries spelled named_pairs ones
samples = record {
  choices = refl;
  sizes = refl;
  clock_tells = (_, (refl, refl), inr (λ l. omega arith, (refl, refl)));
  check_priced = inr (λ l. omega arith, inr (λ e. cc, inr (λ none. none (_, (refl, test_first_valid)), (_, (refl, test_first_valid), (refl, refl)))));
  check_without_test = inr (λ l. omega arith, inr (λ e. cc, inl (λ s. test_missing s.0 s.1.0 s.1.1, (refl, refl))));
  fetches_tells = (_, (_, (refl, refl), inr (λ l. omega arith, (refl, refl))), refl, refl);
  clock_tests_first = (_, (refl, refl), inr (λ l. omega arith, (refl, refl)));
  fetches_joins_first = (_, (_, (refl, refl), inr (λ l. omega arith, (refl, refl))), refl, refl);
  star_size = refl;
  full_size = refl;
  minus_quarter = refl;
  minus_zero = refl;
  corrected = (refl, refl);
  corrected_too_far = (refl, refl);
  clock_untied = (refl, refl);
  fetches_untied = (refl, refl);
}
