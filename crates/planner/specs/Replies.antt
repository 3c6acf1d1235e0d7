-- The calls of a list, and what is replied to them.
use Rattle.std.specs.Prelude.{ℕ, Ok, Err, Result}
use Rattle.buffers.specs.Written.{written}
use Rattle.planner.specs.declared.calls.Call as code
use Rattle.planner.specs.declared.calls.Call.TheVariants.{Table, Tie, Test, Correct, Solve, Tell, Check}
use Rattle.planner.specs.declared.calls.Reply.{Reply}
use Rattle.planner.specs.declared.calls.Reply.TheVariants.{Placed, Done, Solved, Told, Checked, Refused}
use Rattle.planner.specs.declared.refusals.Refusal.{Refusal}
use Rattle.planner.specs.Calls.{Call, add_table, set_tie, set_test, correct_test, solve_with, tell_into, check_plan, Answer, placed, done, solved, told, checked, refused}
use Rattle.planner.specs.Refusals.{refusal_number}

-- The call with the lists that are lent to it, and a buffer that has room for any plan.
abbrev pub call_of : (prices sizes choices : ℕ) → code.Call → Call
call_of ps ss cs (Table rows) = add_table rows
call_of ps ss cs (Tie i j p q cost) = set_tie i j p q cost
call_of ps ss cs (Test i p q cost kind) = set_test i p q cost kind
call_of ps ss cs (Correct i by) = correct_test i by
call_of ps ss cs Solve = solve_with ps ss cs
call_of ps ss cs Tell = tell_into 58
call_of ps ss cs (Check bytes) = check_plan bytes.now ps

abbrev pub answer_of : {P : Type 0} → Reply P → Answer P
answer_of (Placed n) = placed n
answer_of Done = done
answer_of (Solved tries price) = solved tries price
answer_of (Told plan price) = told (written plan) price
answer_of (Checked price) = checked price
answer_of (Refused e) = refused (refusal_number e)

-- A refusal is a reply too.
abbrev pub replied : {P : Type 0} → Result (Reply P) Refusal → Reply P
replied (Ok reply) = reply
replied (Err e) = Refused e
