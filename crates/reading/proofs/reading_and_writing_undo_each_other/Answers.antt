use Rattle.std.proofs.Common.{rules}
use Rattle.reading.proofs.Laws.{undo}
use Rattle.reading.proofs.reading_and_writing_undo_each_other.Goals as goal

pub returns : goal.returns
returns c = record { law = undo; samples = search rules }
