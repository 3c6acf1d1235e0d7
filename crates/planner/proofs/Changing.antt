-- A change that is refused leaves the question as it was.
use Rattle.std.proofs.Common.{Ok, Err, Result, refl, ap}
use Rattle.pricing.specs.Models.{Model}
use Rattle.plans.specs.Questions.{Question}
use Rattle.catalogue.specs.Changes.{Follows}
use Rattle.catalogue.specs.Refusals.{change_number}
use Rattle.catalogue.specs.declared.refusals.ChangeRefusal.{ChangeRefusal}
use Rattle.planner.specs.Calls.{Answer, refused}
use Rattle.planner.specs.States.{State}
use Rattle.planner.specs.Steps.{Changes}

pub refused_step : {P : Type 0} (X : Type 0) (m : Model P) (s : State P) (o : Result Question ChangeRefusal) (e : ChangeRefusal) (Q after : Question) (b : Answer P)
    → Follows {X = X} o Q (Err e) after → Changes m s (refused (change_number e)) s b o
refused_step X m s (Ok changed) e Q after b f = absurd f
refused_step X m s (Err cause) e Q after b f = (ap (λ (x : ChangeRefusal). refused (change_number x)) f.0, refl)
