-- What the lists that are lent to the calls of a run hold after each of them.
use Rattle.std.specs.Prelude.{◌≡◌, ℕ, List}
use Rattle.pricing.specs.Models.{Model}
use Rattle.plans.specs.Questions.{Question}
use Rattle.solver.specs.Solves.{Lists, filled}
use Rattle.checker.specs.Checks.{Priced}
use Rattle.planner.specs.Calls.{Call, add_table, set_tie, set_test, correct_test, solve_with, tell_into, check_plan, Answer, placed, done, solved, told, checked, refused}
use Rattle.planner.specs.Law.{Kept}
use Rattle.planner.specs.States.{State}

pub record Lent (P : Type 0) : Type 0 where
  pub prices : List P
  pub sizes : List ℕ
  pub choices : List ℕ

-- A check that answers leaves the prices of the plan's operations; one that is refused leaves the list as it was.
abbrev pub CheckLeaves : {P : Type 0} → Model P → Question → (bytes : List ℕ) → Answer P → (before after : List P) → Type 0
CheckLeaves m Q bytes (placed n) before after = after ≡ before
CheckLeaves m Q bytes done before after = after ≡ before
CheckLeaves m Q bytes (solved tries v) before after = after ≡ before
CheckLeaves m Q bytes (told plan v) before after = after ≡ before
CheckLeaves m Q bytes (checked v) before after = Priced m Q bytes before v after
CheckLeaves m Q bytes (refused n) before after = after ≡ before

-- Only a solve and a check write into the lists.
abbrev pub Leaves : {P : Type 0} → Model P → Question → Call → Answer P → (before after : Lent P) → Type 0
Leaves m Q (add_table rows) a l k = k ≡ l
Leaves m Q (set_tie i j p q cost) a l k = k ≡ l
Leaves m Q (set_test i p q cost kind) a l k = k ≡ l
Leaves m Q (correct_test i by) a l k = k ≡ l
Leaves m Q (solve_with ps ss cs) a l k = Lists m Q (filled Q ps ss cs) l.prices k.prices l.sizes k.sizes l.choices k.choices
Leaves m Q (tell_into buffer) a l k = k ≡ l
Leaves m Q (check_plan bytes ps) a l k = CheckLeaves m Q bytes a l.prices k.prices × (k.sizes ≡ l.sizes) × (k.choices ≡ l.choices)

-- A call that keeps its promise, of a question beside its lists.
abbrev pub Works : {P : Type 0} → Model P → State P × Lent P → Call → Answer P → State P × Lent P → Type 0
Works m u c a v = Kept m u.0 c a v.0 × Leaves m u.0.question c a u.1 v.1
