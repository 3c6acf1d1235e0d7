-- A fault and the line that it names.
use Rattle.std.proofs.Common.{◌≡◌, ℕ, Ok, Err, Result, refl}
use Rattle.program.specs.declared.faults.ProgramFault.{ProgramFault}
use Rattle.program.specs.declared.faults.Refused.{Refused}
use Rattle.program.specs.Faults.{on_line}
use Rattle.program.specs.Runs.{at_line}

pub judged_so : {T : Type 0} (n : ℕ) (r : Result T ProgramFault) (x : T) → on_line n r ≡ Ok x → r ≡ Ok x
judged_so n (Ok y) x e = cc
judged_so n (Err f) x e = cc

pub refused_so : {T : Type 0} (n : ℕ) (r : Result T ProgramFault) (s : Refused) → on_line n r ≡ Err s → (f : ProgramFault) × (r ≡ Err f) × (s ≡ at_line f n)
refused_so n (Ok y) s e = cc
refused_so n (Err f) s e = (f, refl, (cc))
