-- What a program writes.
use Rattle.std.specs.Prelude.{ℕ, List, [], ◌∷◌, ◌++◌, Ok, Err, Result}
use Rattle.pricing.specs.Models.{Model}
use Rattle.pricing.specs.Shown.{in_bytes}
use Rattle.plans.specs.Questions.{Question}
use Rattle.plans.specs.Plans.{Plan}
use Rattle.plans.specs.Prices.{price}
use Rattle.plans.specs.Recurrence.{all_tries}
use Rattle.plans.specs.Spelling.{spelled}
use Rattle.frames.specs.Hexadecimal.{hex_line}
use Rattle.program.specs.declared.faults.Refused.{Refused}
use Rattle.program.specs.Faults.{program_layer, program_number}

-- Plan bytes, a pair a line.
unfoldable pub pair_lines : List ℕ → List ℕ
pair_lines [] = []
pair_lines (a ∷ []) = []
pair_lines (a ∷ b ∷ bytes) = hex_line (a ∷ b ∷ []) ++ pair_lines bytes

-- The plan, a line of 1E with the price's bytes, and a line of 1F with the tries in 8 bytes.
abbrev pub plan_lines : (plan price_bytes : List ℕ) (tries : ℕ) → List ℕ
plan_lines plan price_bytes tries = pair_lines plan ++ hex_line (0x1E ∷ price_bytes) ++ hex_line (0x1F ∷ in_bytes 8 tries)

-- FF, layer, number, and the line in 2 bytes.
abbrev pub fault_line : Refused → List ℕ
fault_line r = hex_line (0xFF ∷ program_layer r.fault ∷ program_number r.fault ∷ in_bytes 2 r.line)

-- The plan with its price and the tries of the question, or the refusal.
abbrev pub written : {P : Type 0} → Model P → (shown : P → List ℕ) → Result (Question × Plan) Refused → List ℕ
written m shown (Ok found) = plan_lines (spelled found.1) (shown (price m found.0 found.1)) (all_tries m found.0)
written m shown (Err r) = fault_line r
