use Rattle.std.proofs.Common.{◌≡◌, List, [], length}
use Rattle.plans.specs.Plans.{Plan}
use Rattle.catalogue.specs.Asked.{asked}
use Rattle.checker.specs.Steps.{steps}
use Rattle.checker.specs.Stored.{Stored}
use Rattle.checker.specs.Taken.{Holds}
use Rattle.checker.proofs.priced.price_plan.Given as goal

abbrev pub invariant-loop-left : goal.invariant-loop-left
invariant-loop-left g l =
    (parts : List Plan) × (steps (asked l.catalogue) l.bytes [] ≡ steps (asked l.catalogue) l.left parts) × Holds (asked l.catalogue) l.parts parts
    × Stored (g.M.PriceModel.meaning l.model) (asked l.catalogue) parts l.initial.prices l.prices

abbrev pub decreases-loop-left : goal.decreases-loop-left
decreases-loop-left g l = length l.left
