use Rattle.std.proofs.Common.{◌≡◌, List, [], length}
use Rattle.plans.specs.Plans.{Plan}
use Rattle.catalogue.specs.Asked.{asked}
use Rattle.checker.specs.Steps.{steps}
use Rattle.checker.specs.Taken.{Holds}
use Rattle.checker.proofs.valid.read.Given as goal

abbrev pub invariant-loop-left : goal.invariant-loop-left
invariant-loop-left l = (parts : List Plan) × (steps (asked l.catalogue) l.bytes [] ≡ steps (asked l.catalogue) l.left parts) × Holds (asked l.catalogue) l.parts parts

abbrev pub decreases-loop-left : goal.decreases-loop-left
decreases-loop-left l = length l.left
