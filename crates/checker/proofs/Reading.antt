-- What a pair of bytes is, from how it was read.
use Rattle.std.proofs.Common.{◌≡◌, ◌≢◌, ℕ, [], ◌∷◌, get_or, ap, ap₂}
use Rattle.plans.specs.Steps.{step_bytes}
use Rattle.plans.specs.declared.steps.Step.{Step}
use Rattle.plans.specs.declared.steps.Step.TheVariants.{Table, Test, Join}

pub same_pair : (a b x y : ℕ) → a ∷ b ∷ [] ≡ x ∷ y ∷ [] → (a ≡ x) × (b ≡ y)
same_pair a b x y e = (ap (λ xs. get_or xs 0 0) e, ap (λ xs. get_or xs 1 0) e)

pub no_step : (a b : ℕ) → ((step : Step) → a ∷ b ∷ [] ≡ step_bytes step → ⊥) → (a ≢ 0x10) × (a ≢ 0x11) × (a ≡ 0x12 → b ≢ 0)
no_step a b none = (
  λ e. none (Table b) (ap (λ x. x ∷ b ∷ []) e),
  λ e. none (Test b) (ap (λ x. x ∷ b ∷ []) e),
  λ e z. none Join (ap₂ (λ x y. x ∷ y ∷ []) e z),
)
