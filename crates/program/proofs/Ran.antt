-- What a run comes to, from what its parts give.
use Rattle.std.proofs.Common.{◌≡◌, ℕ, List, take, Ok, Err, Result, ap}
use Rattle.pricing.specs.Models.{Model}
use Rattle.plans.specs.Questions.{Question}
use Rattle.plans.specs.Plans.{Plan}
use Rattle.program.specs.declared.faults.Refused.{Refused}
use Rattle.program.specs.declared.outputs.Output.{Output}
use Rattle.program.specs.Outputs.{fault_line, written}
use Rattle.program.specs.Runs.{Answered}

-- The lines that an answer is written as.
pub answer_written : {P : Type 0} (m : Model P) (shown : P → List ℕ) (o : Result (Question × Plan) Refused) (output : Output) → Answered m shown o (Ok output) → take output.len output.bytes ≡ written m shown o
answer_written m shown (Ok found) output h = h
answer_written m shown (Err r) output h = absurd h

pub refusal_written : {P : Type 0} (m : Model P) (shown : P → List ℕ) (o : Result (Question × Plan) Refused) (r : Refused) → Answered m shown o (Err r) → fault_line r ≡ written m shown o
refusal_written m shown (Ok found) r h = absurd h
refusal_written m shown (Err s) r h = ap fault_line h
