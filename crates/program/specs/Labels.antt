-- The first bytes of the lines that are none of the plan's.
use Rattle.std.specs.Prelude.{ℕ}
use Rattle.program.specs.declared.labels.Label.{Label}
use Rattle.program.specs.declared.labels.Label.TheVariants.{Price, Tries, Fault}

abbrev pub label_byte : Label → ℕ
label_byte Price = 0x1E
label_byte Tries = 0x1F
label_byte Fault = 0xFF
