use Rattle.sets.proofs.Loops.{Contracting}
use Rattle.sets.proofs.rows.contracted.Given as goal

abbrev pub invariant-loop-test : goal.invariant-loop-test
invariant-loop-test l = Contracting l.tests.bits l.of.bits l.test l.number
