use Rattle.std.proofs.Common.{refl}
use Rattle.catalogue.specs.Changes.{tested}
use Rattle.demo.proofs.Accepted.{accepted, never_refused}
use Rattle.demo.proofs.sample.add_tests.Goals as goal

pub returns-in_err-test : goal.returns-in_err-test
returns-in_err-test c = absurd (never_refused Unit (λ Q. tested Q 0 1 2 350 1) _ _ _ _ c.requires refl _ c.in_err-test.ensures)

pub returns-in_err-test-2 : goal.returns-in_err-test-2
returns-in_err-test-2 c =
    let first = accepted Unit (λ Q. tested Q 0 1 2 350 1) _ _ _ _ c.requires refl _ c.in_ok-test.ensures in
    absurd (never_refused Unit (λ Q. tested Q 2 1 2 20 0) _ _ _ _ first refl _ c.in_err-test-2.ensures)
