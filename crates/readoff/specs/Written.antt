-- What reading off leaves in the buffer.
use Rattle.std.specs.Prelude.{◌≡◌, ℕ, ◌+◌, ◌<◌, ◌≤◌, List, ◌++◌, length, drop, Some, Option, MatchOption}
use Rattle.buffers.specs.Put.{Put}
use Rattle.plans.specs.Plans.{Plan}
use Rattle.plans.specs.Spelling.{spelled}
use Rattle.readoff.specs.Leads.{Leads}

-- From `at` on stands a plan that the choices lead to; there is no answer if there is no such plan with room for its bytes.
abbrev pub Emitted : (choice : ℕ → ℕ → ℕ) (R S : ℕ) (before after : List ℕ) (at : ℕ) → Option ℕ → Type 0
Emitted choice R S before after at answer =
    MatchOption answer
    ((p : Plan) → Leads choice R S p → length before < at + length (spelled p))
    (λ end. (p : Plan) × Leads choice R S p × Put before after at end (spelled p))

-- The plan's bytes stand at the front, the rest is as it was, and the answer is their number.
pub record Front (p : Plan) (before after : List ℕ) (answer : Option ℕ) : Type 0 where
  pub number : answer ≡ Some (length (spelled p))
  pub holds : after ≡ spelled p ++ drop (length (spelled p)) before

-- A plan that the choices lead to is written if there is room for it; and an answer is the length of such a plan.
pub record ReadOff (choice : ℕ → ℕ → ℕ) (R S : ℕ) (before after : List ℕ) (answer : Option ℕ) : Type 0 where
  pub written : (p : Plan) → Leads choice R S p → length (spelled p) ≤ length before → Front p before after answer
  pub led : (n : ℕ) → answer ≡ Some n → (p : Plan) × Leads choice R S p × (length (spelled p) ≡ n) × (n ≤ length before)
