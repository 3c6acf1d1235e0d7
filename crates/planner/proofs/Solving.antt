-- A solve that is refused.
use Rattle.std.proofs.Common.{Ok, Err, Result, refl, ap}
use Rattle.pricing.specs.Models.{Model}
use Rattle.plans.specs.Questions.{Question}
use Rattle.plans.specs.Plans.{Plan}
use Rattle.solver.specs.Solves.{Answers, solve_number}
use Rattle.solver.specs.declared.solutions.SolveRefusal.{SolveRefusal}
use Rattle.planner.specs.Calls.{refused}
use Rattle.planner.specs.States.{State}
use Rattle.planner.specs.Steps.{Solves}

module _ {P : Type 0} (m : Model P) where
  pub refused_step : (s : State P) (Q : Question) (o : Result Plan SolveRefusal) (e : SolveRefusal) → Answers m Q o (Err e) → Solves m s (refused (solve_number e)) s o
  refused_step s Q (Ok p) e t = absurd t
  refused_step s Q (Err f) e t = (ap (λ (y : SolveRefusal). refused (solve_number y)) t, refl)
