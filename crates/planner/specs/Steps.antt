-- What each call answers, and how the question then stands.
use Rattle.std.specs.Prelude.{◌≡◌, ℕ, ◌<◌, false, ◌⊎◌, List, length, Some, None, Ok, Err, Option, Result}
use Rattle.pricing.specs.Models.{Model}
use Rattle.plans.specs.Questions.{Question}
use Rattle.plans.specs.Plans.{Plan}
use Rattle.plans.specs.Prices.{price}
use Rattle.plans.specs.Recurrence.{all_tries}
use Rattle.plans.specs.Spelling.{spelled}
use Rattle.catalogue.specs.Changes.{tabled, tied, tested, corrected}
use Rattle.catalogue.specs.Refusals.{change_number}
use Rattle.catalogue.specs.declared.refusals.ChangeRefusal.{ChangeRefusal}
use Rattle.solver.specs.Solves.{enough, outcome, solve_number}
use Rattle.solver.specs.declared.solutions.SolveRefusal.{SolveRefusal}
use Rattle.checker.specs.Checks.{named_pairs, Spells, SpellsSome}
use Rattle.checker.specs.Refusals.{check_number}
use Rattle.checker.specs.declared.refusals.CheckRefusal.TheVariants.{ListTooShort, BadPair, NoValidPlan}
use Rattle.planner.specs.Refusals.{tell_number}
use Rattle.planner.specs.declared.refusals.TellRefusal.TheVariants.{NothingStands, BufferTooShort}
use Rattle.planner.specs.Calls.{Call, add_table, set_tie, set_test, correct_test, solve_with, tell_into, check_plan, Answer, placed, done, solved, told, checked, refused}
use Rattle.planner.specs.States.{State, Stood}

-- A question that was changed: no plan stands.
abbrev pub changed : {P : Type 0} → Question → State P
changed Q = record { question = Q; standing = None }

-- The same question, with a plan that stands.
abbrev pub with_plan : {P : Type 0} → Model P → State P → Plan → State P
with_plan m s p = record {
  question = s.question;
  standing = Some (record { plan = spelled p; price = price m s.question p; tries = all_tries m s.question });
}

-- The call that finds the question as s answers a, and leaves it as t.
module _ {P : Type 0} (m : Model P) (s : State P) (a : Answer P) (t : State P) where
  abbrev pub Gives : Answer P → State P → Type 0
  Gives b u = (a ≡ b) × (t ≡ u)

  -- A refusal changes nothing.
  abbrev pub Refuses : (number : ℕ) → Type 0
  Refuses n = Gives (refused n) s

  -- It is refused if the cause is there, and else goes on.
  abbrev pub Unless : Type 0 → (number : ℕ) → Type 0 → Type 0
  Unless cause n rest = (cause × Refuses n) ⊎ ((cause → ⊥) × rest)

  -- An accepted change takes away the plan that stood.
  abbrev pub Changes : Answer P → Result Question ChangeRefusal → Type 0
  Changes b (Ok Q) = Gives b (changed Q)
  Changes b (Err e) = Refuses (change_number e)

  -- The plan that is found stands, with its price and the tries.
  abbrev pub Solves : Result Plan SolveRefusal → Type 0
  Solves (Ok p) = Gives (solved (all_tries m s.question) (price m s.question p)) (with_plan m s p)
  Solves (Err e) = Refuses (solve_number e)

  abbrev pub Tells : (buffer : ℕ) → Option (Stood P) → Type 0
  Tells buffer None = Refuses (tell_number NothingStands)
  Tells buffer (Some x) = Unless (buffer < length x.plan) (tell_number BufferTooShort) (Gives (told x.plan x.price) s)

  abbrev pub Checks : (bytes : List ℕ) (prices : ℕ) → Type 0
  Checks bytes prices =
      Unless (prices < 10) (check_number ListTooShort) (
      Unless (named_pairs s.question bytes ≡ false) (check_number BadPair) (
      Unless (SpellsSome s.question bytes → ⊥) (check_number NoValidPlan) (
      (p : Plan) × Spells s.question bytes p × Gives (checked (price m s.question p)) s)))

-- Each call by its rule.
abbrev pub Step : {P : Type 0} → Model P → State P → Call → Answer P → State P → Type 0
Step m s (add_table rows) a t = Changes m s a t (placed s.question.count) (tabled s.question rows)
Step m s (set_tie i j p q cost) a t = Changes m s a t done (tied s.question i j p q cost)
Step m s (set_test i p q cost kind) a t = Changes m s a t done (tested s.question i p q cost kind)
Step m s (correct_test i by) a t = Changes m s a t done (corrected s.question i by)
Step m s (solve_with prices sizes choices) a t = Solves m s a t (outcome m s.question (enough s.question prices sizes choices))
Step m s (tell_into buffer) a t = Tells m s a t buffer s.standing
Step m s (check_plan bytes prices) a t = Checks m s a t bytes prices
