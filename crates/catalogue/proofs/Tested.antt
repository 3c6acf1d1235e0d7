-- A number more in a set of numbers below it.
use Rattle.std.proofs.Common.{◌≡◌, ℕ, ◌+◌, ◌/◌, ◌%◌, ◌^◌, ◌<◌, Bool, true, false, cond, eqb, ap, ◌∙◌, one-mul, pow-suc, add-one, arith, pow_pos}
use lib.Bits.{bit_or}
use Rattle.std.proofs.lemmas.Nat.{div_below}
use Rattle.sets.specs.Sets.{has, sum_below}
use Rattle.sets.proofs.Masks.{or_one}
use Rattle.catalogue.proofs.Below.{sum_more}

small_out : (S i : ℕ) → S < 2 ^ i → has S i ≡ false
unfolding has
small_out S i h =
    let few : S / 2 ^ i < 1 = div_below S (2 ^ i) 1 (pow_pos i) (omega (arith, one-mul (2 ^ i))) in
    let none : S / 2 ^ i ≡ 0 = omega arith in
    ap (λ (n : ℕ). eqb (n % 2) 1) none

-- the set with i, where i is above all its members
pub or_above : (S i : ℕ) → S < 2 ^ i → bit_or S (2 ^ i) ≡ S + 2 ^ i
or_above S i h = or_one S i (small_out S i h)

pub still_below : (S i r : ℕ) (b : Bool) → S < 2 ^ i → r ≡ S + cond b (2 ^ i) 0 → r < 2 ^ (i + 1)
still_below S i r true h e = omega (arith, ap (λ (k : ℕ). 2 ^ k) (add-one i) ∙ pow-suc 2 i)
still_below S i r false h e = omega (arith, ap (λ (k : ℕ). 2 ^ k) (add-one i) ∙ pow-suc 2 i, pow_pos i)

-- one number more in the set of those below i at which f is true
pub where_more : (S i r : ℕ) (b : Bool) → S < 2 ^ i → r ≡ S + cond b (2 ^ i) 0
    → (r < 2 ^ (i + 1)) × ((f : ℕ → Bool) → S ≡ sum_below (λ j. cond (f j) (2 ^ j) 0) i → b ≡ f i → r ≡ sum_below (λ j. cond (f j) (2 ^ j) 0) (i + 1))
where_more S i r b h e = (still_below S i r b h e, λ f sum is. e ∙ sum_more (λ j. cond (f j) (2 ^ j) 0) i S (cond b (2 ^ i) 0) sum (ap (λ (x : Bool). cond x (2 ^ i) 0) is))
