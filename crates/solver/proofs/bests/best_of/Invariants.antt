use Rattle.std.proofs.Common.{◌+◌, ◌≤◌}
use Rattle.std.specs.List.{FoldsTo}
use Rattle.solver.specs.Tries.{TriesOne}
use Rattle.solver.proofs.bests.best_of.Given as goal

abbrev pub invariant-loop-item : goal.invariant-loop-item
invariant-loop-item g l =
    (goal.iterator-loop-item g).can_next l.item-iterator
    × (goal.iterator-loop-item g).is_finite l.item-iterator
    × FoldsTo (TriesOne (g.M.PriceModel.meaning l.model) (goal.F-post g l.candidate)) l.initial.so_far l.yielded l.so_far
    × (l.so_far.tries + (goal.iterator-loop-item g).remaining l.item-iterator ≤ l.initial.so_far.tries + (goal.iterator-loop-item g).remaining l.initial.item-iterator)
