-- The numbers by which faults and refusals are reported.
use Rattle.std.specs.Prelude.{ℕ}
use Rattle.reading.specs.declared.ReadingFault.{ReadingFault}
use Rattle.reading.specs.declared.ReadingFault.TheVariants.{WrongForm}
use Rattle.reading.specs.declared.WriteRefusal.{WriteRefusal}
use Rattle.reading.specs.declared.WriteRefusal.TheVariants.{BeyondRange, BufferTooShort}

abbrev pub fault_number : ReadingFault → ℕ
fault_number WrongForm = 20

abbrev pub refusal_number : WriteRefusal → ℕ
refusal_number BeyondRange = 16
refusal_number BufferTooShort = 17
