-- What a program promises of what it writes.
use Rattle.std.specs.Prelude.{◌≡◌, ℕ, ◌+◌, ◌<◌, false, ◌⊎◌, List, [], ◌∷◌, ◌++◌, length, Ok, Err}
use Rattle.pricing.specs.Models.{Model}
use Rattle.plans.specs.Questions.{Question}
use Rattle.plans.specs.Plans.{Plan, Answers}
use Rattle.plans.specs.Recurrence.{all_tries}
use Rattle.plans.specs.Spelling.{spelled}
use Rattle.solver.specs.Solves.{enough}
use Rattle.solver.specs.declared.solutions.SolveRefusal.{SolveRefusal}
use Rattle.solver.specs.declared.solutions.SolveRefusal.TheVariants.{NoTables, ListTooShort, NoPlan, PastCount}
use Rattle.planner.specs.Law.{AllPast, Cheapest, HasNoPlan}
use Rattle.frames.specs.Lines.{PlainLine, lines_of}
use Rattle.frames.specs.declared.faults.FrameFault.TheVariants.{NoEnd}
use Rattle.frames.specs.declared.turns.Turn.TheVariants.{Tables, Predicates, Ended}
use Rattle.program.specs.declared.faults.ProgramFault.TheVariants.{InputTooLong, Frame, Solve}
use Rattle.program.specs.declared.faults.Refused.{Refused}
use Rattle.program.specs.Lines.{Gathered, judged}
use Rattle.program.specs.Outputs.{fault_line, plan_lines}
use Rattle.program.specs.Runs.{at_line, start}

-- All the lines are acceptable, one after another, and lead from g to h.
abbrev pub Accepted : Gathered → List PlainLine → Gathered → Type 0
Accepted g [] h = g ≡ h
Accepted g (l ∷ ls) h = (k : Gathered) × (judged g l ≡ Ok k) × Accepted k ls h

-- The lines of the input are acceptable, the last of them is the end, and the question is the one they ask.
pub record Asks (input : List ℕ) (Q : Question) : Type 0 where
  pub all : Accepted start (lines_of input) (record { turn = Ended; question = Q })
  pub short : 8192 < length input → ⊥

-- The refusal of the first line that is not acceptable.
pub record FirstRefused (input : List ℕ) (r : Refused) : Type 0 where
  pub before : List PlainLine
  pub line : PlainLine
  pub after : List PlainLine
  pub so_far : Gathered
  pub lines : lines_of input ≡ before ++ line ∷ after
  pub accepted : Accepted start before so_far
  pub refused : judged so_far line ≡ Err r.fault
  pub number : r.line ≡ length before + 1

-- All lines are acceptable, and none is the end.
pub record NeverEnded (input : List ℕ) (r : Refused) : Type 0 where
  pub so_far : Gathered
  pub accepted : Accepted start (lines_of input) so_far
  pub open_turn : (so_far.turn ≡ Tables) ⊎ (so_far.turn ≡ Predicates)
  pub fault : r ≡ at_line (Frame NoEnd) (length (lines_of input) + 1)

-- Why the question has no plan to write.
abbrev pub Unsolved : {P : Type 0} → Model P → (prices sizes choices : ℕ) → Question → SolveRefusal → Type 0
Unsolved m prices sizes choices Q NoTables = Q.count ≡ 0
Unsolved m prices sizes choices Q ListTooShort = enough Q prices sizes choices ≡ false
Unsolved m prices sizes choices Q NoPlan = HasNoPlan Q
Unsolved m prices sizes choices Q PastCount = ((p : Plan) × Answers Q p) × AllPast m Q

pub record SolveRefused {P : Type 0} (m : Model P) (prices sizes choices : ℕ) (input : List ℕ) (r : Refused) : Type 0 where
  pub question : Question
  pub asks : Asks input question
  pub cause : SolveRefusal
  pub unsolved : Unsolved m prices sizes choices question cause
  pub fault : r ≡ at_line (Solve cause) (length (lines_of input))

-- The one refusal that is due.
abbrev pub Due : {P : Type 0} → Model P → (prices sizes choices : ℕ) (input : List ℕ) → Refused → Type 0
Due m prices sizes choices input r =
    ((8192 < length input) × (r ≡ at_line InputTooLong 0))
    ⊎ (FirstRefused input r ⊎ (NeverEnded input r ⊎ SolveRefused m prices sizes choices input r))

-- What is written is either the one refusal that is due, or a valid plan of the question that the lines ask, with its price, which no valid plan undercuts, and the tries.
abbrev pub Honest : {P : Type 0} → Model P → (shown : P → List ℕ) (prices sizes choices : ℕ) (input output : List ℕ) → Type 0
Honest {P} m shown prices sizes choices input output =
    ((r : Refused) × (output ≡ fault_line r) × Due m prices sizes choices input r)
    ⊎ ((Q : Question) × (p : Plan) × (v : P) × (output ≡ plan_lines (spelled p) (shown v) (all_tries m Q)) × Asks input Q × Cheapest m Q p v)
