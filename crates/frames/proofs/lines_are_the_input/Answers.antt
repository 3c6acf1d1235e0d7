use Rattle.frames.proofs.Cutting.{cut_at_ends}
use Rattle.frames.proofs.lines_are_the_input.Goals as goal

pub returns : goal.returns
returns c = cut_at_ends
