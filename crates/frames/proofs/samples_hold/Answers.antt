use Rattle.frames.proofs.Examples.{samples}
use Rattle.frames.proofs.samples_hold.Goals as goal

pub returns : goal.returns
returns c = samples
