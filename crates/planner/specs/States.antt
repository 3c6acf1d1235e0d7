-- A question as it stands.
use Rattle.std.specs.Prelude.{ℕ, List, Some, None, Option}
use Rattle.buffers.specs.Written.{written}
use Rattle.catalogue.specs.Asked.{asked}
use Rattle.catalogue.specs.Changes.{empty}
use Rattle.plans.specs.Questions.{Question}
use Rattle.solver.specs.declared.solutions.Solution.{Solution}
use Rattle.planner.specs.declared.held.Held.{Held}

-- A plan that stands: its bytes, its price, and the tries that it took.
pub record Stood (P : Type 0) : Type 0 where
  pub plan : List ℕ
  pub price : P
  pub tries : ℕ

-- Tables, ties and tests as the accepted calls gave them, and the plan that stands, if one does.
pub record State (P : Type 0) : Type 0 where
  pub question : Question
  pub standing : Option (Stood P)

-- A question just made.
abbrev pub fresh : {P : Type 0} → State P
fresh = record { question = empty; standing = None }

-- The state that the code holds.
abbrev pub stood_of : {P : Type 0} → Option (Solution P) → Option (Stood P)
stood_of None = None
stood_of (Some x) = Some (record { plan = written x.plan; price = x.price; tries = x.tries })

abbrev pub state_of : {P : Type 0} → Held P → State P
state_of h = record { question = asked h.catalogue; standing = stood_of h.standing }
