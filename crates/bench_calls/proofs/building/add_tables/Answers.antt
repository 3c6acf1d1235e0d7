use Rattle.std.proofs.Common.{ℕ, sym, refl, arith}
use Rattle.std.proofs.lemmas.Result.{err_from_is_err_and}
use Rattle.bench_calls.proofs.Turns.{none_called, goes_on, stops}
use Rattle.bench_calls.proofs.building.add_tables.Goals as goal

pub loop-n-init : goal.loop-n-init
loop-n-init c = none_called _ _

pub loop-n-preserved : goal.loop-n-preserved
loop-n-preserved c = goes_on _ _ c.loop-n.n-index _ _ _ _ c.loop-n.invariant refl c.in_ok-table.ensures.outcome

pub returns-in_err-table : goal.returns-in_err-table
returns-in_err-table c =
    let p = err_from_is_err_and c.from_residual.result c.from_residual.ensures.1 in
    rw (p.1, p.2) (sym (stops _ _ ℕ c.loop-n.n-index _ _ _ _ _ c.loop-n.invariant refl c.in_err-table.ensures.outcome (omega arith)))
