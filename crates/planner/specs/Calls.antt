-- The seven calls, and what they answer.
use Rattle.std.specs.Prelude.{ℕ, List, take, ℤ, Ok, Err, Result}
use Rattle.catalogue.specs.Refusals.{change_number}
use Rattle.catalogue.specs.declared.refusals.ChangeRefusal.{ChangeRefusal}
use Rattle.solver.specs.Solves.{solve_number}
use Rattle.solver.specs.declared.solutions.SolveRefusal.{SolveRefusal}
use Rattle.checker.specs.Refusals.{check_number}
use Rattle.checker.specs.declared.refusals.CheckRefusal.{CheckRefusal}
use Rattle.planner.specs.Refusals.{tell_number}
use Rattle.planner.specs.declared.refusals.TellRefusal.{TellRefusal}

-- With the entries of each list that is lent.
pub data Call : Type 0 where
  add_table : (rows : ℕ) → Call
  set_tie : (table other p q cost : ℕ) → Call
  set_test : (table p q cost kind : ℕ) → Call
  correct_test : (table : ℕ) (by : ℤ) → Call
  solve_with : (prices sizes choices : ℕ) → Call
  tell_into : (buffer : ℕ) → Call
  check_plan : (bytes : List ℕ) (prices : ℕ) → Call

-- A refusal has its number.
pub data Answer (P : Type 0) : Type 0 where
  placed : (number : ℕ) → Answer P
  done : Answer P
  solved : (tries : ℕ) (price : P) → Answer P
  told : (bytes : List ℕ) (price : P) → Answer P
  checked : (price : P) → Answer P
  refused : (number : ℕ) → Answer P

-- The answers of the code.
abbrev pub placed_of : {P : Type 0} → Result ℕ ChangeRefusal → Answer P
placed_of (Ok n) = placed n
placed_of (Err e) = refused (change_number e)

abbrev pub done_of : {P : Type 0} → Result Unit ChangeRefusal → Answer P
done_of (Ok u) = done
done_of (Err e) = refused (change_number e)

abbrev pub solved_of : {P : Type 0} → Result (ℕ × P) SolveRefusal → Answer P
solved_of (Ok found) = solved found.0 found.1
solved_of (Err e) = refused (solve_number e)

-- With what the buffer then holds.
abbrev pub told_of : {P : Type 0} → (buffer : List ℕ) → Result (ℕ × P) TellRefusal → Answer P
told_of buffer (Ok written) = told (take written.0 buffer) written.1
told_of buffer (Err e) = refused (tell_number e)

abbrev pub checked_of : {P : Type 0} → Result P CheckRefusal → Answer P
checked_of (Ok price) = checked price
checked_of (Err e) = refused (check_number e)
