use Rattle.std.proofs.Common.{refl}
use Rattle.sets.proofs.Filling.{filled_more}
use Rattle.sets.proofs.cells.fill_all.Goals as goal

pub loop-cell-preserved : goal.loop-cell-preserved
loop-cell-preserved g c = filled_more c.args.value c.args.cells.now _ _ _ _ c.loop-cell-test.true refl c.loop-cell.invariant refl
