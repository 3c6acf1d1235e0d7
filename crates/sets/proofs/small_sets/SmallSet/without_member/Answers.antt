use Rattle.std.proofs.Common.{ℕ, ◌-◌, sym, refl, ap, ◌∙◌, arith}
use lib.Bits.{bit_and}
use Rattle.std.proofs.lemmas.Bool.{true≢false}
use Rattle.sets.proofs.Bits.{has_past}
use Rattle.sets.proofs.Masks.{masked_bit, masked_none}
use Rattle.sets.proofs.small_sets.SmallSet.without_member.Goals as goal

pub returns-in-Some : goal.returns-in-Some
returns-in-Some c =
    let s = c.args.self.bits in
    let m = c.args.member in
    let e = c.without.ensures ∙ ap (λ (x : ℕ). s - bit_and s x) c.in-Some.ensures.1 in
    record { inside = λ h. omega (arith, masked_bit s m h); outside = λ h. omega (arith, masked_none s m h) }

pub returns-in-None : goal.returns-in-None
returns-in-None c =
    let none = has_past 10 c.args.self.bits c.args.member c.args.self.few c.in-None.ensures in
    record { inside = λ h. absurd (true≢false (sym h ∙ none)); outside = λ h. refl }
