use Rattle.std.proofs.Common.{◌≡◌, ℕ, ◌-◌, List, length, get_or, take, drop, ℤ, Result, ap, ◌∙◌, arith, rules}
use Rattle.std.proofs.lemmas.List.{take_rest, get_or_past}
use Rattle.std.proofs.lemmas.Bool.{ne_eqb, ltb-true}
use Rattle.reading.specs.declared.ReadingFault.{ReadingFault}
use Rattle.reading.specs.Outcomes.{unsigned_reading, plain, negative, reading}
use Rattle.reading.proofs.Laws.{meant}
use Rattle.reading.proofs.reader.read.Goals as goal
use Rattle.reading.proofs.reader.read.Goals.{in_default-via-then-text-lt1, in_default-via-else-text-lt1+in_default-1}

after_minus : (t : List ℕ) (r : Result ℤ ReadingFault) → get_or t 0 0 ≡ 45 → r ≡ negative (unsigned_reading (take (length t - 1) (drop 1 t))) → r ≡ reading t
after_minus t r h e = rw h (e ∙ ap (λ u. negative (unsigned_reading u)) (take_rest t 1))

without_minus : (t : List ℕ) (r : Result ℤ ReadingFault) → (get_or t 0 0 ≡ 45 → ⊥) → r ≡ plain (unsigned_reading t) → r ≡ reading t
without_minus t r h e = rw (ne_eqb (get_or t 0 0) 45 h) e

pub returns-in-45 : goal.returns-in-45
returns-in-45 c =
    let o = after_minus c.args.text.now c.after_minus.result (search rules) c.after_minus.ensures in
    record { outcome = o; meaning = meant c.args.text.now c.after_minus.result o }

pub returns-in_default : goal.returns-in_default
returns-in_default c =
    let t = c.args.text.now in
    let first : get_or t 0 0 ≡ 45 → ⊥ =
    λ e. elim c.in_default.branch [ in_default-via-then-text-lt1 w ↦ omega (arith, get_or_past t 0 0 (omega (arith, ltb-true))) | in_default-via-else-text-lt1+in_default-1 w ↦ omega arith ] in
    let o = without_minus t c.without_minus.result first c.without_minus.ensures in
    record { outcome = o; meaning = meant t c.without_minus.result o }
