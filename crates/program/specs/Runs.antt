-- A whole run: the length of the input, the lines in their order, the end, and solve.
use Rattle.std.specs.Prelude.{◌≡◌, ℕ, ◌+◌, true, false, List, [], ◌∷◌, length, take, Ok, Err, Result, nat_lt}
use Rattle.pricing.specs.Models.{Model}
use Rattle.plans.specs.Questions.{Question}
use Rattle.plans.specs.Plans.{Plan}
use Rattle.catalogue.specs.Changes.{empty}
use Rattle.solver.specs.Solves.{enough, outcome}
use Rattle.solver.specs.declared.solutions.SolveRefusal.{SolveRefusal}
use Rattle.frames.specs.Lines.{PlainLine, lines_of}
use Rattle.frames.specs.Turns.{turn_finished}
use Rattle.frames.specs.declared.faults.FrameFault.{FrameFault}
use Rattle.frames.specs.declared.turns.Turn.TheVariants.{Tables}
use Rattle.program.specs.declared.faults.ProgramFault.{ProgramFault}
use Rattle.program.specs.declared.faults.ProgramFault.TheVariants.{InputTooLong, Frame, Solve}
use Rattle.program.specs.declared.faults.Refused.{Refused}
use Rattle.program.specs.declared.outputs.Output.{Output}
use Rattle.program.specs.Lines.{Gathered, judged}
use Rattle.program.specs.Outputs.{written}

-- The fault, and the line that it names.
abbrev pub at_line : ProgramFault → (line : ℕ) → Refused
at_line fault line = record { fault = fault; line = line }

-- A question whose lines are all judged, and the number of the last of them.
abbrev pub finished : (n : ℕ) → Question → Result Unit FrameFault → Result (ℕ × Question) Refused
finished n Q (Ok u) = Ok (n, Q)
finished n Q (Err e) = Err (at_line (Frame e) (n + 1))

-- The lines after the first n are judged one after another. Without an end, the line after the last is named.
abbrev pub gathered : (n : ℕ) → Gathered → List PlainLine → Result (ℕ × Question) Refused
gathered n g [] = finished n g.question (turn_finished g.turn)
gathered n g (l ∷ ls) = elim (judged g l) [ Ok next ↦ gathered (n + 1) next ls | Err fault ↦ Err (at_line fault (n + 1)) ]

-- Nothing is gathered yet.
abbrev pub start : Gathered
start = record { turn = Tables; question = empty }

-- The plan that solve finds; its refusal names the line of the end, which is the last.
abbrev pub planned : (n : ℕ) → Question → Result Plan SolveRefusal → Result (Question × Plan) Refused
planned n Q (Ok p) = Ok (Q, p)
planned n Q (Err e) = Err (at_line (Solve e) n)

abbrev pub solved_after : {P : Type 0} → Model P → (prices sizes choices : ℕ) → Result (ℕ × Question) Refused → Result (Question × Plan) Refused
solved_after m prices sizes choices (Ok g) = planned g.0 g.1 (outcome m g.1 (enough g.1 prices sizes choices))
solved_after m prices sizes choices (Err r) = Err r

-- What a run comes to, in lists with so many entries: a plan of the question that the lines ask, or a refusal.
abbrev pub ran : {P : Type 0} → Model P → (prices sizes choices : ℕ) (input : List ℕ) → Result (Question × Plan) Refused
ran m prices sizes choices input =
    elim (nat_lt 8192 (length input)) [
      | true ↦ Err (at_line InputTooLong 0)
      | false ↦ solved_after m prices sizes choices (gathered 0 start (lines_of input))
    ]

-- The code's answer and the question after it are as the outcome says.
abbrev pub Gathers : Result (ℕ × Question) Refused → Result ℕ Refused → (after : Question) → Type 0
Gathers (Ok g) (Ok n) after = (n ≡ g.0) × (after ≡ g.1)
Gathers (Ok g) (Err r) after = ⊥
Gathers (Err r) (Ok n) after = ⊥
Gathers (Err r) (Err s) after = s ≡ r

-- The code's answer: the lines of the plan, or the refusal.
abbrev pub Answered : {P : Type 0} → Model P → (shown : P → List ℕ) → Result (Question × Plan) Refused → Result Output Refused → Type 0
Answered m shown (Ok found) (Ok output) = take output.len output.bytes ≡ written m shown (Ok found)
Answered m shown (Ok found) (Err r) = ⊥
Answered m shown (Err r) (Ok output) = ⊥
Answered m shown (Err r) (Err s) = s ≡ r
