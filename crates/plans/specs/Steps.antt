-- The pairs of plan bytes that are operations.
use Rattle.std.specs.Prelude.{◌≡◌, ℕ, List, [], ◌∷◌, Result, MatchResult}
use Rattle.plans.specs.declared.steps.NoStep.{NoStep}
use Rattle.plans.specs.declared.steps.Step.{Step}
use Rattle.plans.specs.declared.steps.Step.TheVariants.{Table, Test, Join}

-- 10 ii is table ii, 11 ii test ii on what precedes, 12 00 a join.
abbrev pub step_bytes : Step → List ℕ
step_bytes (Table i) = 0x10 ∷ i ∷ []
step_bytes (Test i) = 0x11 ∷ i ∷ []
step_bytes Join = 0x12 ∷ 0 ∷ []

-- What reading a pair answers: the operation that is so written, or that none is.
abbrev pub StepOf : List ℕ → Result Step NoStep → Type 0
StepOf bytes answer = MatchResult answer (λ step. bytes ≡ step_bytes step) (λ _. (step : Step) → bytes ≡ step_bytes step → ⊥)
