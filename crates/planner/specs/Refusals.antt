-- The numbers of the refusals.
use Rattle.std.specs.Prelude.{ℕ}
use Rattle.catalogue.specs.Refusals.{change_number}
use Rattle.solver.specs.Solves.{solve_number}
use Rattle.checker.specs.Refusals.{check_number}
use Rattle.planner.specs.declared.refusals.Refusal.{Refusal}
use Rattle.planner.specs.declared.refusals.Refusal.TheVariants.{Change, Solve, Tell, Check}
use Rattle.planner.specs.declared.refusals.TellRefusal.{TellRefusal}
use Rattle.planner.specs.declared.refusals.TellRefusal.TheVariants.{NothingStands, BufferTooShort}

abbrev pub tell_number : TellRefusal → ℕ
tell_number NothingStands = 15
tell_number BufferTooShort = 17

-- The number of any refusal.
abbrev pub refusal_number : Refusal → ℕ
refusal_number (Change e) = change_number e
refusal_number (Solve e) = solve_number e
refusal_number (Tell e) = tell_number e
refusal_number (Check e) = check_number e
