use Rattle.std.proofs.Common.{arith}
use Rattle.sets.proofs.Loops.{contracting_none, contracting_out, contracting_in, bit_on, bit_off}
use Rattle.sets.proofs.rows.contracted.Goals as goal

pub loop-test-init : goal.loop-test-init
loop-test-init c = contracting_none c.args.tests.bits c.args.of.bits c.args.of.few

pub loop-test-preserved : goal.loop-test-preserved
loop-test-preserved c = contracting_out _ _ _ _ c.args.of.few c.loop-test.invariant c.loop-test-test.true c.if-contains.ensures

pub loop-test-preserved-then-contains-2 : goal.loop-test-preserved-then-contains-2
loop-test-preserved-then-contains-2 c = contracting_in _ _ _ _ c.args.of.few c.loop-test.invariant c.loop-test-test.true _ c.if-contains.ensures (omega (arith, bit_on _ _ c.if-contains-2.ensures))

pub loop-test-preserved-else-contains-2 : goal.loop-test-preserved-else-contains-2
loop-test-preserved-else-contains-2 c = contracting_in _ _ _ _ c.args.of.few c.loop-test.invariant c.loop-test-test.true _ c.if-contains.ensures (omega (arith, bit_off _ _ c.if-contains-2.ensures))
