use Rattle.plans.proofs.Examples.{samples}
use Rattle.plans.proofs.samples_hold.Goals as goal

pub returns : goal.returns
returns c = samples
