-- A turn of a loop that takes one pair after another.
use Rattle.std.proofs.Common.{◌≡◌, ℕ, ◌≤◌, List, [], length, get_or, Some, None, Option, ◌∙◌}
use Rattle.plans.specs.Plans.{Plan}
use Rattle.plans.specs.Questions.{Question}
use Rattle.plans.specs.Spelling.{and_then}
use Rattle.checker.specs.declared.operations.Operation.{Operation}
use Rattle.checker.specs.declared.parts.Parts.{Parts}
use Rattle.checker.specs.Steps.{step, steps}
use Rattle.checker.specs.Taken.{Holds, Made, Took}
use Rattle.checker.proofs.Pairs.{rest_of, two_steps}

-- The bytes are read up to those that are left.
module _ (Q : Question) (bytes left : List ℕ) (parts : List Plan) (after : Parts) (two : 2 ≤ length left) (read : steps Q bytes [] ≡ steps Q left parts) where
  pub turn : (done : Operation) → Took Q parts (step Q (get_or left 0 0) (get_or left 1 0) parts) (Some done) after
      → (next : List Plan) × (steps Q bytes [] ≡ steps Q (rest_of left) next) × Holds Q after next × Made done parts next
  turn done took = go (step Q (get_or left 0 0) (get_or left 1 0) parts) (read ∙ two_steps Q left parts two) took
    where
      go : (o : Option (List Plan)) → steps Q bytes [] ≡ and_then o (steps Q (rest_of left)) → Took Q parts o (Some done) after
          → (next : List Plan) × (steps Q bytes [] ≡ steps Q (rest_of left) next) × Holds Q after next × Made done parts next
      go None e t = absurd t
      go (Some next) e t = (next, e, t.1, t.0)

  pub turned_away : Took Q parts (step Q (get_or left 0 0) (get_or left 1 0) parts) None after → steps Q bytes [] ≡ None
  turned_away took = go (step Q (get_or left 0 0) (get_or left 1 0) parts) (read ∙ two_steps Q left parts two) took
    where
      go : (o : Option (List Plan)) → steps Q bytes [] ≡ and_then o (steps Q (rest_of left)) → Took Q parts o None after → steps Q bytes [] ≡ None
      go None e t = e
      go (Some next) e t = absurd t
