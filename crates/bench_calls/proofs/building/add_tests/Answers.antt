use Rattle.std.proofs.Common.{sym, arith}
use Rattle.std.proofs.lemmas.Result.{err_from_is_err_and}
use Rattle.catalogue.specs.Asked.{asked}
use Rattle.bench_calls.proofs.Clipped.{test_clipped}
use Rattle.bench_calls.proofs.Turns.{none_called, goes_on, stops}
use Rattle.bench_calls.proofs.building.add_tests.Goals as goal

pub loop-test-init : goal.loop-test-init
loop-test-init c = none_called _ _

pub loop-test-preserved : goal.loop-test-preserved
loop-test-preserved c =
    let before = c.loop-test.question in
    let clipped = test_clipped (asked before) before.few c.args.tests.now _ c.loop-test.test-index c.as_chunks.ensures.front (omega arith) _ _ c.clipped.ensures c.clipped-in-loop-test.ensures in
    goes_on _ _ c.loop-test.test-index _ _ _ _ c.loop-test.invariant clipped c.in_ok-test.ensures

pub returns-in_err-test : goal.returns-in_err-test
returns-in_err-test c =
    let before = c.loop-test.question in
    let clipped = test_clipped (asked before) before.few c.args.tests.now _ c.loop-test.test-index c.as_chunks.ensures.front (omega arith) _ _ c.clipped.ensures c.clipped-in-loop-test.ensures in
    let p = err_from_is_err_and c.from_residual.result c.from_residual.ensures.1 in
    rw (p.1, p.2) (sym (stops _ _ Unit c.loop-test.test-index _ _ _ _ _ c.loop-test.invariant clipped c.in_err-test.ensures (omega arith)))
