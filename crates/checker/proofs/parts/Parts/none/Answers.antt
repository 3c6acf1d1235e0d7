use Rattle.std.proofs.Common.{refl}
use Rattle.checker.specs.Steps.{tables_in, Sound}
use Rattle.checker.specs.Taken.{Stacked}
use Rattle.checker.proofs.parts.Parts.none.Goals as goal

pub returns : goal.returns
unfolding Stacked Sound tables_in
returns c = λ Q. record { stacked = tt; depth = refl; seen = c.empty.ensures; sound = tt }
