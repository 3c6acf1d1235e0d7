use Rattle.std.proofs.Common.{refl}
use Rattle.plans.specs.Questions.{tie_of}
use Rattle.catalogue.specs.Changes.{tied}
use Rattle.demo.proofs.Accepted.{accepted, never_refused}
use Rattle.demo.proofs.sample.add_ties.Goals as goal

pub returns-in_err-tie : goal.returns-in_err-tie
unfolding tie_of
returns-in_err-tie c = absurd (never_refused Unit (λ Q. tied Q 0 1 1 100 60) _ _ _ _ c.requires refl _ c.in_err-tie.ensures)

pub returns-in_err-tie-2 : goal.returns-in_err-tie-2
unfolding tie_of
returns-in_err-tie-2 c =
    let first = accepted Unit (λ Q. tied Q 0 1 1 100 60) _ _ _ _ c.requires refl _ c.in_ok-tie.ensures in
    absurd (never_refused Unit (λ Q. tied Q 1 2 1 8 5) _ _ _ _ first refl _ c.in_err-tie-2.ensures)

pub returns-in_err-tie-3 : goal.returns-in_err-tie-3
unfolding tie_of
returns-in_err-tie-3 c =
    let first = accepted Unit (λ Q. tied Q 0 1 1 100 60) _ _ _ _ c.requires refl _ c.in_ok-tie.ensures in
    let second = accepted Unit (λ Q. tied Q 1 2 1 8 5) _ _ _ _ first refl _ c.in_ok-tie-2.ensures in
    absurd (never_refused Unit (λ Q. tied Q 2 3 1 3 1) _ _ _ _ second refl _ c.in_err-tie-3.ensures)
