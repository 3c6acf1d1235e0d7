use Rattle.frames.proofs.ReadBack.{reads_back}
use Rattle.frames.proofs.written_lines_read_back.Goals as goal

pub returns : goal.returns
returns c = reads_back
