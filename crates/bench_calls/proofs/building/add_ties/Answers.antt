use Rattle.std.proofs.Common.{sym, arith}
use Rattle.std.proofs.lemmas.Result.{err_from_is_err_and}
use Rattle.catalogue.specs.Asked.{asked}
use Rattle.bench_calls.proofs.Clipped.{tie_clipped}
use Rattle.bench_calls.proofs.Turns.{none_called, goes_on, stops}
use Rattle.bench_calls.proofs.building.add_ties.Goals as goal

pub loop-tie-init : goal.loop-tie-init
loop-tie-init c = none_called _ _

pub loop-tie-preserved : goal.loop-tie-preserved
loop-tie-preserved c =
    let before = c.loop-tie.question in
    let clipped = tie_clipped (asked before) before.few c.args.ties.now _ c.loop-tie.tie-index c.as_chunks.ensures.front (omega arith) _ _ c.clipped.ensures c.clipped-in-loop-tie.ensures in
    goes_on _ _ c.loop-tie.tie-index _ _ _ _ c.loop-tie.invariant clipped c.in_ok-tie.ensures

pub returns-in_err-tie : goal.returns-in_err-tie
returns-in_err-tie c =
    let before = c.loop-tie.question in
    let clipped = tie_clipped (asked before) before.few c.args.ties.now _ c.loop-tie.tie-index c.as_chunks.ensures.front (omega arith) _ _ c.clipped.ensures c.clipped-in-loop-tie.ensures in
    let p = err_from_is_err_and c.from_residual.result c.from_residual.ensures.1 in
    rw (p.1, p.2) (sym (stops _ _ Unit c.loop-tie.tie-index _ _ _ _ _ c.loop-tie.invariant clipped c.in_err-tie.ensures (omega arith)))
