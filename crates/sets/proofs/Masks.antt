-- Sets as the code's masks have them: &, |, ^, - and shifts.
use Rattle.std.proofs.Common.{◌≡◌, ℕ, ◌+◌, ◌-◌, ◌/◌, ◌^◌, Bool, true, false, eqb, refl, ap, ◌∙◌, arith, pow_pos}
use lib.Bits.{bit_and, bit_or, bit_xor, and_mask, and_comm, xor_add_and, or_disjoint}
use Rattle.std.proofs.lemmas.Bool.{eqb-true}
use Rattle.sets.specs.Sets.{has, ◌⊆◌}
use Rattle.sets.proofs.Bits.{part_le}
use Rattle.sets.proofs.Parts.{one_part, one_apart}

-- (r >> i) & 1
pub shifted_bit : (R i : ℕ) → eqb (bit_and (R / 2 ^ i) 1) 1 ≡ has R i
unfolding has
shifted_bit R i = ap (λ (n : ℕ). eqb n 1) (and_mask (R / 2 ^ i) 1)

-- r & (1 << i)
pub masked_bit : (R i : ℕ) → has R i ≡ true → bit_and R (2 ^ i) ≡ 2 ^ i
masked_bit R i h = and_comm R (2 ^ i) ∙ one_part R i h

pub masked_none : (R i : ℕ) → has R i ≡ false → bit_and R (2 ^ i) ≡ 0
masked_none R i h = one_apart R i h

pub masked_zero : (R i : ℕ) → eqb (bit_and R (2 ^ i)) 0 ≡ true → has R i ≡ false
masked_zero R i e = go (has R i) refl
  where
    go : (b : Bool) → has R i ≡ b → b ≡ false
    go true h = let z = eqb-true (bit_and R (2 ^ i)) 0 e in let y = masked_bit R i h in let x = pow_pos i in absurd (omega arith)
    go false h = refl

-- r ^ l, of a part l of r
pub xor_rest : (L R : ℕ) → L ⊆ R → bit_xor R L ≡ R - L
xor_rest L R e = let c = and_comm R L in let x = xor_add_and R L in let l = part_le L R e in omega arith

-- s | (1 << i)
pub or_one : (S i : ℕ) → has S i ≡ false → bit_or S (2 ^ i) ≡ S + 2 ^ i
or_one S i h = or_disjoint S (2 ^ i) (one_apart S i h)
