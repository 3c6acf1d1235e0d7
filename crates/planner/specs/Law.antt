-- The law over runs of calls: no told plan is undercut.
use Rattle.std.specs.Prelude.{◌≡◌, ℕ, ◌<◌, true, false, List, [], ◌∷◌}
use Rattle.pricing.specs.Models.{Model, cheaper}
use Rattle.plans.specs.Questions.{Question}
use Rattle.plans.specs.Plans.{Plan, Answers}
use Rattle.plans.specs.Prices.{price}
use Rattle.plans.specs.Recurrence.{all_tries}
use Rattle.plans.specs.Spelling.{spelled}
use Rattle.catalogue.specs.Changes.{empty}
use Rattle.solver.specs.Solves.{enough}
use Rattle.planner.specs.Calls.{Call, add_table, set_tie, set_test, correct_test, solve_with, tell_into, check_plan, Answer, solved, told, refused}
use Rattle.planner.specs.Given.{given_by}
use Rattle.planner.specs.States.{State, fresh}
use Rattle.planner.specs.Steps.{Step, with_plan}

-- The calls are made one after another, from s to t, and each is as R says.
abbrev pub Run : {S C A : Type 0} → (S → C → A → S → Type 0) → S → List C → List A → S → Type 0
Run R s [] [] t = s ≡ t
Run R s [] (a ∷ rest) t = ⊥
Run R s (c ∷ calls) [] t = ⊥
Run {S = S} R s (c ∷ calls) (a ∷ answers) t = (u : S) × R s c a u × Run R u calls answers t

-- Some calls lead from a question just made to this state.
abbrev pub Reached : {P : Type 0} → Model P → State P → Type 0
Reached {P = P} m s = (calls : List Call) × (answers : List (Answer P)) × Run (Step m) fresh calls answers s

-- The plan is valid, v is its price, and no valid plan is cheaper.
pub record Cheapest {P : Type 0} (m : Model P) (Q : Question) (p : Plan) (v : P) : Type 0 where
  pub valid : Answers Q p
  pub paid : v ≡ price m Q p
  pub least : (q : Plan) → Answers Q q → cheaper m (price m Q q) v ≡ false

-- The bytes spell a cheapest plan, and v is its price.
abbrev pub ToldTrue : {P : Type 0} → Model P → Question → (bytes : List ℕ) (v : P) → Type 0
ToldTrue m Q bytes v = (p : Plan) × (bytes ≡ spelled p) × Cheapest m Q p v

-- No plan is valid; every valid plan is past the count.
abbrev pub HasNoPlan : Question → Type 0
HasNoPlan Q = (p : Plan) → Answers Q p → ⊥

abbrev pub AllPast : {P : Type 0} → Model P → Question → Type 0
AllPast m Q = (p : Plan) → Answers Q p → m.past (price m Q p) ≡ true

-- Refused by 13 exactly when there is no valid plan, by 14 exactly when there are valid plans and all are past the count;
-- else it answers the price of a cheapest plan and the tries, and that plan stands.
pub record Decided {P : Type 0} (m : Model P) (s : State P) (a : Answer P) (t : State P) : Type 0 where
  pub none : a ≡ refused 13 → HasNoPlan s.question
  pub none_only : HasNoPlan s.question → a ≡ refused 13
  pub past : a ≡ refused 14 → ((p : Plan) × Answers s.question p) × AllPast m s.question
  pub past_only : (p : Plan) → Answers s.question p → AllPast m s.question → a ≡ refused 14
  pub else : (HasNoPlan s.question → ⊥) → (AllPast m s.question → ⊥)
      → (p : Plan) × (v : P) × (a ≡ solved (all_tries m s.question) v) × (t ≡ with_plan m s p) × Cheapest m s.question p v

-- What holds of each call, whatever came before it.
abbrev pub Promise : {P : Type 0} → Model P → State P → Call → Answer P → State P → Type 0
Promise m s (add_table rows) a t = Unit {0}
Promise m s (set_tie i j p q cost) a t = Unit {0}
Promise m s (set_test i p q cost kind) a t = Unit {0}
Promise m s (correct_test i by) a t = Unit {0}
Promise m s (solve_with prices sizes choices) a t = 0 < s.question.count → enough s.question prices sizes choices ≡ true → Decided m s a t
Promise {P = P} m s (tell_into buffer) a t = (bytes : List ℕ) (v : P) → a ≡ told bytes v → ToldTrue m s.question bytes v
Promise m s (check_plan bytes prices) a t = Unit {0}

-- The call is made by its rule, and the promise is kept.
abbrev pub Kept : {P : Type 0} → Model P → State P → Call → Answer P → State P → Type 0
Kept m s c a t = Step m s c a t × Promise m s c a t

-- The law. Take any calls, in any order and number, refused ones among them, since the question was made.
pub record Law {P : Type 0} (m : Model P) : Type 0 where
  -- The question then is what the accepted ones of them gave.
  pub as_given : (calls : List Call) (answers : List (Answer P)) (s : State P) → Run (Step m) fresh calls answers s → s.question ≡ given_by empty calls
  -- If tell then answers, the bytes spell a valid plan of the question as it stands, at the price told, and no valid plan is cheaper.
  pub told_true : (calls : List Call) (answers : List (Answer P)) (s t : State P) (buffer : ℕ) (bytes : List ℕ) (v : P)
      → Run (Step m) fresh calls answers s → Step m s (tell_into buffer) (told bytes v) t → ToldTrue m s.question bytes v
  -- A solve then, with a table given and rows enough, answers as there are plans.
  pub solved_right : (calls : List Call) (answers : List (Answer P)) (s t : State P) (prices sizes choices : ℕ) (a : Answer P)
      → Run (Step m) fresh calls answers s → Step m s (solve_with prices sizes choices) a t
      → 0 < s.question.count → enough s.question prices sizes choices ≡ true → Decided m s a t
  -- So the promise is kept at each call of a run.
  pub throughout : (calls : List Call) (answers : List (Answer P)) (t : State P) → Run (Step m) fresh calls answers t → Run (Kept m) fresh calls answers t
