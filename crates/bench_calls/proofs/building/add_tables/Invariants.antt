use Rattle.std.proofs.Common.{◌≡◌, Ok}
use Rattle.catalogue.specs.Asked.{asked}
use Rattle.bench_calls.specs.Built.{calls, table_at}
use Rattle.bench_calls.proofs.building.add_tables.Given as goal

abbrev pub invariant-loop-n : goal.invariant-loop-n
invariant-loop-n l = calls (table_at l.rows) (asked l.initial.question) l.n-index ≡ Ok (asked l.question)
