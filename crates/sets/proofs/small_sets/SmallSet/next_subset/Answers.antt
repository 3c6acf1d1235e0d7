use Rattle.std.proofs.Common.{◌≡◌, ℕ, ◌+◌, ◌-◌, ◌%◌, ◌<◌, ap, ◌∙◌, arith}
use lib.Bits.{bit_and, and_zero_l}
use Rattle.sets.specs.Sets.{◌⊆◌}
use Rattle.sets.specs.Rows.{contracted}
use Rattle.sets.proofs.Bits.{part_le}
use Rattle.sets.proofs.Parts.{meet_part}
use Rattle.sets.proofs.Contraction.{next_number, next_above, next_least}
use Rattle.sets.proofs.small_sets.SmallSet.next_subset.Goals as goal

pub returns : goal.returns
returns c =
    let s : ℕ = c.args.self.bits in
    let m : ℕ = c.args.of.bits in
    let x : ℕ = (s + (65536 - m)) % 65536 in
    let r : ℕ = bit_and x m in
    let part : r ⊆ m = meet_part x m in
    let next : s ⊆ m → s < m → contracted r m ≡ contracted s m + 1 = λ w l.
    let e : x ≡ 65536 - m + s = omega arith in
    ap (λ (y : ℕ). contracted (bit_and y m) m) e ∙ next_number 16 m s (omega arith) w l in
    record {
      part = part;
      next = next;
      above = λ w l. next_above m s r w part (next w l);
      least = λ w t v l. next_least m s r w part (next w (omega (arith, part_le t m v))) t v l;
      last = λ same. let e : x ≡ 0 = omega arith in ap (λ (y : ℕ). bit_and y m) e ∙ and_zero_l m;
    }
