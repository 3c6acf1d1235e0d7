-- What holds of a plan that stands.
use Rattle.std.specs.Prelude.{◌≡◌, Some, None, Option}
use Rattle.buffers.specs.Written.{written}
use Rattle.plans.specs.Questions.{Question}
use Rattle.plans.specs.Plans.{Plan, Answers}
use Rattle.plans.specs.Spelling.{spelled}
use Rattle.solver.specs.declared.solutions.Solution.{Solution}

-- Its bytes spell a valid plan of the question.
abbrev pub StandsValid : {P : Type 0} → Question → Option (Solution P) → Type 0
StandsValid Q None = Unit {0}
StandsValid Q (Some x) = (p : Plan) × (written x.plan ≡ spelled p) × Answers Q p
