-- The numbers of a program's faults, and the layers that refuse.
use Rattle.std.specs.Prelude.{ℕ, Ok, Err, Result}
use Rattle.catalogue.specs.Refusals.{change_number}
use Rattle.frames.specs.Faults.{frame_fault_layer, frame_fault_number, line_fault_layer, line_fault_number}
use Rattle.solver.specs.Solves.{solve_number}
use Rattle.program.specs.declared.faults.ProgramFault.{ProgramFault}
use Rattle.program.specs.declared.faults.Refused.{Refused}
use Rattle.program.specs.declared.faults.ProgramFault.TheVariants.{InputTooLong, Line, Frame, Change, Solve}

abbrev pub program_number : ProgramFault → ℕ
program_number InputTooLong = 25
program_number (Line e) = line_fault_number e
program_number (Frame e) = frame_fault_number e
program_number (Change e) = change_number e
program_number (Solve e) = solve_number e

abbrev pub program_layer : ProgramFault → ℕ
program_layer InputTooLong = 1
program_layer (Line e) = line_fault_layer e
program_layer (Frame e) = frame_fault_layer e
program_layer (Change e) = 3
program_layer (Solve e) = 4

-- A fault with the line that it names.
abbrev pub on_line : {T : Type 0} → (line : ℕ) → Result T ProgramFault → Result T Refused
on_line line (Ok value) = Ok value
on_line line (Err fault) = Err (record { fault = fault; line = line })
