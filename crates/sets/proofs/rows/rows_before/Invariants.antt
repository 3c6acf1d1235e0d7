use Rattle.sets.proofs.Loops.{Placing}
use Rattle.sets.proofs.rows.rows_before.Given as goal

abbrev pub invariant-loop-left : goal.invariant-loop-left
invariant-loop-left l = Placing l.initial.left l.initial.tests l.left l.tests l.twos l.threes l.sum

abbrev pub decreases-loop-left : goal.decreases-loop-left
decreases-loop-left l = l.left
