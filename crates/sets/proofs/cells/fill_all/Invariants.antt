use Rattle.std.proofs.Common.{◌≡◌}
use Rattle.sets.specs.Rows.{filled}
use Rattle.sets.proofs.cells.fill_all.Given as goal

abbrev pub invariant-loop-cell : goal.invariant-loop-cell
invariant-loop-cell g l = l.cells ≡ filled l.cell-index l.value l.initial.cells
