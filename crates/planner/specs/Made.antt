-- A call of a question: what it answers and leaves, by the question's own model.
use Rattle.std.specs.Prelude.{◌≡◌}
use Rattle.pricing.specs.Models.{Model}
use Rattle.pricing.specs.declared.models.PriceModel.{Ghosts}
use Rattle.planner.specs.declared.questions.Question.{Question}
use Rattle.planner.specs.Calls.{Call, Answer}
use Rattle.planner.specs.Law.{Reached, Promise}
use Rattle.planner.specs.States.{state_of}
use Rattle.planner.specs.Steps.{Step}

pub record Made {M P : Type 0} {G : Ghosts M P} (meaning : M → Model P) (before : Question M P G) (c : Call) (a : Answer P) (after : Question M P G) : Type 0 where
  pub model : after.model ≡ before.model
  pub step : Step (meaning before.model) (state_of before.held) c a (state_of after.held)

-- Some calls since the question was made led to what it holds.
abbrev pub Asked : {M P : Type 0} {G : Ghosts M P} → (M → Model P) → Question M P G → Type 0
Asked meaning q = Reached (meaning q.model) (state_of q.held)

-- The promise of a call.
abbrev pub Promised : {M P : Type 0} {G : Ghosts M P} → (M → Model P) → (before : Question M P G) → Call → Answer P → (after : Question M P G) → Type 0
Promised meaning before c a after = Promise (meaning before.model) (state_of before.held) c a (state_of after.held)
