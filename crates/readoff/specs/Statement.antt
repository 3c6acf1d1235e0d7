-- The choices of the recurrence lead to its plans.
use Rattle.std.specs.Prelude.{◌≡◌, ℕ, ◌^◌, ◌<◌, Some}
use Rattle.sets.specs.Sets.{◌⊆◌}
use Rattle.pricing.specs.Models.{Model}
use Rattle.plans.specs.Questions.{Question, all_tests}
use Rattle.plans.specs.Plans.{Plan}
use Rattle.plans.specs.Recurrence.{opt, code}
use Rattle.readoff.specs.Leads.{Leads}

-- R are tables of the question, and S tests on them.
pub record RowOf (Q : Question) (R S : ℕ) : Type 0 where
  pub given : R < 2 ^ Q.count
  pub own : S ⊆ R
  pub tests : S ⊆ all_tests Q

-- Where every row of the question has the choice of the recurrence, each row that has a plan leads to it.
abbrev pub LeadsToPlans : {P : Type 0} → Model P → Question → Type 0
LeadsToPlans m Q =
    (choice : ℕ → ℕ → ℕ)
    → ((R S : ℕ) → RowOf Q R S → choice R S ≡ code (opt m Q R S))
    → (R S : ℕ) (p : Plan) → RowOf Q R S → opt m Q R S ≡ Some p → Leads choice R S p
