use Rattle.std.proofs.Common.{◌≡◌, Ok}
use Rattle.catalogue.specs.Asked.{asked}
use Rattle.bench_calls.specs.Built.{calls, tie_at}
use Rattle.bench_calls.proofs.building.add_ties.Given as goal

abbrev pub invariant-loop-tie : goal.invariant-loop-tie
invariant-loop-tie l = calls (tie_at l.ties) (asked l.initial.question) l.tie-index ≡ Ok (asked l.question)
