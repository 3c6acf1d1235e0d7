use Rattle.std.proofs.Common.{◌≡◌, Ok}
use Rattle.catalogue.specs.Asked.{asked}
use Rattle.bench_calls.specs.Built.{calls, test_at}
use Rattle.bench_calls.proofs.building.add_tests.Given as goal

abbrev pub invariant-loop-test : goal.invariant-loop-test
invariant-loop-test l = calls (test_at l.tests) (asked l.initial.question) l.test-index ≡ Ok (asked l.question)
