use Rattle.std.proofs.Common.{ℕ, refl}
use Rattle.catalogue.specs.Changes.{tabled}
use Rattle.demo.proofs.Accepted.{accepted}
use Rattle.demo.proofs.sample.add_tables.Goals as goal

pub returns : goal.returns
returns c =
    let first = accepted ℕ (λ Q. tabled Q 100) _ _ _ _ c.requires refl _ c.in_ok-table.ensures.outcome in
    let second = accepted ℕ (λ Q. tabled Q 10) _ _ _ _ first refl _ c.in_ok-table-2.ensures.outcome in
    let third = accepted ℕ (λ Q. tabled Q 8) _ _ _ _ second refl _ c.in_ok-table-3.ensures.outcome in
    accepted ℕ (λ Q. tabled Q 3) _ _ _ _ third refl _ c.in_ok-table-4.ensures.outcome
