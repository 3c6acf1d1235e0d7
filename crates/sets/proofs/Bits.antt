-- Sets as numbers: what is in a sum, a difference, a meet.
use Rattle.std.proofs.Common.{◌≡◌, ℕ, zero, suc, ◌+◌, ◌-◌, ◌/◌, ◌%◌, ◌^◌, ◌<◌, ◌≤◌, min, max, Bool, true, false, not, ◌&&◌, ◌||◌, eqb, ◌⊎◌, sym, refl, ap, ◌∙◌, inl, inr, mod-eq_of_lt, pow-suc, one-add, arith, pow_mono, shr-shr}
use native.Mathlib.Nat.{div-eq_of_lt}
use lib.Dec.{eqb-zero-suc, eqb-suc-zero, eqb-suc-suc}
use lib.Bits.{bit_and, bit_or, and_step, or_step, and_shr, or_shr, or_disjoint, and_mask, and_le_r}
use lib.Arith.{bin_ind}
use Rattle.std.proofs.lemmas.Bool.{eqb-false, false≢true, eq-eqb, ne_eqb}
use Rattle.std.proofs.lemmas.Bool.Decides.{nat_tests}
use Rattle.sets.specs.Sets.{has, ◌⊆◌}

-- ---- the lowest bit

abbrev odd : ℕ → Bool
odd n = eqb (n % 2) 1

pub even_or_odd : (n : ℕ) → (n % 2 ≡ 0) ⊎ (n % 2 ≡ 1)
even_or_odd n = go (n % 2) (omega arith)
  where
    go : (k : ℕ) → k < 2 → (k ≡ 0) ⊎ (k ≡ 1)
    go zero h = inl refl
    go (suc k) h = inr (omega arith)

odd_and : (a b : ℕ) → odd (bit_and a b) ≡ (odd a && odd b)
odd_and a b =
    let s : bit_and a b % 2 ≡ min (a % 2) (b % 2) = omega (arith, and_step a b) in
    rw s (go (a % 2) (b % 2) (omega arith) (omega arith))
  where
    go : (x y : ℕ) → x < 2 → y < 2 → eqb (min x y) 1 ≡ (eqb x 1 && eqb y 1)
    go x y h k = grind (arith, nat_tests)

odd_or : (a b : ℕ) → odd (bit_or a b) ≡ (odd a || odd b)
odd_or a b =
    let s : bit_or a b % 2 ≡ max (a % 2) (b % 2) = omega (arith, or_step a b) in
    rw s (go (a % 2) (b % 2) (omega arith) (omega arith))
  where
    go : (x y : ℕ) → x < 2 → y < 2 → eqb (max x y) 1 ≡ (eqb x 1 || eqb y 1)
    go x y h k = grind (arith, nat_tests)

-- ---- the bits of a meet and of a union

pub has_and : (a b i : ℕ) → has (bit_and a b) i ≡ (has a i && has b i)
unfolding has
has_and a b i = rw (and_shr a b i) (odd_and (a / 2 ^ i) (b / 2 ^ i))

pub has_or : (a b i : ℕ) → has (bit_or a b) i ≡ (has a i || has b i)
unfolding has
has_or a b i = rw (or_shr a b i) (odd_or (a / 2 ^ i) (b / 2 ^ i))

-- ---- a number by its bits

pub has_zero : (a : ℕ) → has a 0 ≡ odd a
unfolding has
has_zero a = ap odd (omega arith)

pub has_suc : (a i : ℕ) → has a (suc i) ≡ has (a / 2) i
unfolding has
has_suc a i = rw (shr-shr a 1 i, one-add i)

pub zero_bits : (i : ℕ) → has 0 i ≡ false
zero_bits zero = has_zero 0
zero_bits (suc i) = has_suc 0 i ∙ zero_bits i

pub no_bits : (a : ℕ) → ((i : ℕ) → has a i ≡ false) → a ≡ 0
no_bits = bin_ind (λ a. ((i : ℕ) → has a i ≡ false) → a ≡ 0) (λ h. refl) (λ a ih h.
    let low = eqb-false (a % 2) 1 (sym (has_zero a) ∙ h 0) in
    let high = ih (λ i. sym (has_suc a i) ∙ h (suc i)) in
    omega arith)

same_odd : (a b : ℕ) → odd a ≡ odd b → a % 2 ≡ b % 2
same_odd a b e = grind (arith, nat_tests)

pub same_bits : (a b : ℕ) → ((i : ℕ) → has a i ≡ has b i) → a ≡ b
same_bits = bin_ind (λ a. (b : ℕ) → ((i : ℕ) → has a i ≡ has b i) → a ≡ b) (λ b h. sym (no_bits b (λ i. sym (h i) ∙ zero_bits i))) (λ a ih b h.
    let low = same_odd a b (sym (has_zero a) ∙ h 0 ∙ has_zero b) in
    let high = ih (b / 2) (λ i. sym (has_suc a i) ∙ h (suc i) ∙ has_suc b i) in
    omega arith)

-- ---- the bits of a power of two

pub has_pow : (i j : ℕ) → has (2 ^ i) j ≡ eqb i j
has_pow zero zero = has_zero 1
has_pow zero (suc j) = has_suc 1 j ∙ zero_bits j ∙ sym (eqb-zero-suc j)
has_pow (suc i) zero = has_zero (2 ^ suc i) ∙ ne_eqb (2 ^ suc i % 2) 1 (omega (arith, pow-suc 2 i)) ∙ sym (eqb-suc-zero i)
has_pow (suc i) (suc j) =
    let half : 2 ^ suc i / 2 ≡ 2 ^ i = omega (arith, pow-suc 2 i) in
    has_suc (2 ^ suc i) j ∙ ap (λ (n : ℕ). has n j) half ∙ has_pow i j ∙ sym (eqb-suc-suc i j)

pub has_pow_self : (i : ℕ) → has (2 ^ i) i ≡ true
has_pow_self i = has_pow i i ∙ eq-eqb i i refl

-- ---- parts and disjoint sets, by their members

and_both : (x y : Bool) → (x && y) ≡ x → x ≡ true → y ≡ true
and_both true y e h = e
and_both false y e h = absurd (false≢true h)

and_same : (x y : Bool) → (x ≡ true → y ≡ true) → (x && y) ≡ x
and_same true y h = h refl
and_same false y h = refl

and_none : (x y : Bool) → (x && y) ≡ false → x ≡ true → y ≡ false
and_none true y e h = e
and_none false y e h = absurd (false≢true h)

and_apart : (x y : Bool) → (x ≡ true → y ≡ false) → (x && y) ≡ false
and_apart true y h = h refl
and_apart false y h = refl

pub part_has : (A B i : ℕ) → A ⊆ B → has A i ≡ true → has B i ≡ true
part_has A B i e h = and_both (has A i) (has B i) (sym (has_and A B i) ∙ ap (λ (n : ℕ). has n i) e) h

pub has_part : (A B : ℕ) → ((i : ℕ) → has A i ≡ true → has B i ≡ true) → A ⊆ B
has_part A B h = same_bits (bit_and A B) A (λ i. has_and A B i ∙ and_same (has A i) (has B i) (h i))

pub apart_has : (A B i : ℕ) → bit_and A B ≡ 0 → has A i ≡ true → has B i ≡ false
apart_has A B i e h = and_none (has A i) (has B i) (sym (has_and A B i) ∙ ap (λ (n : ℕ). has n i) e ∙ zero_bits i) h

pub has_apart : (A B : ℕ) → ((i : ℕ) → has A i ≡ true → has B i ≡ false) → bit_and A B ≡ 0
has_apart A B h = no_bits (bit_and A B) (λ i. has_and A B i ∙ and_apart (has A i) (has B i) (h i))

pub has_sum : (A B i : ℕ) → bit_and A B ≡ 0 → has (A + B) i ≡ (has A i || has B i)
has_sum A B i e = rw (← or_disjoint A B e) (has_or A B i)

pub part_le : (A B : ℕ) → A ⊆ B → A ≤ B
part_le A B e = omega (arith, and_le_r A B)

pub part_low : (A B : ℕ) → A ⊆ B → A % 2 ≤ B % 2
part_low A B e = omega (arith, and_step A B)

pub part_half : (A B : ℕ) → A ⊆ B → A / 2 ⊆ B / 2
part_half A B e = omega (arith, and_step A B)

odd_rest : (A B : ℕ) → A ≤ B → A % 2 ≤ B % 2 → odd (B - A) ≡ (odd B && not (odd A))
odd_rest A B h k = grind (arith, nat_tests)

pub has_rest : (A B i : ℕ) → A ⊆ B → has (B - A) i ≡ (has B i && not (has A i))
has_rest A B zero e = rw (has_zero (B - A), has_zero B, has_zero A) (odd_rest A B (part_le A B e) (part_low A B e))
has_rest A B (suc i) e =
    let le = part_le A B e in
    let low = part_low A B e in
    let half : (B - A) / 2 ≡ B / 2 - A / 2 = omega (arith, part_le (A / 2) (B / 2) (part_half A B e)) in
    rw (has_suc (B - A) i, has_suc B i, has_suc A i, half) (has_rest (A / 2) (B / 2) i (part_half A B e))

-- ---- the numbers below a power of two are the sets of numbers below its exponent

pub below_part : (k a : ℕ) → a < 2 ^ k → a ⊆ 2 ^ k - 1
below_part k a h = and_mask a k ∙ mod-eq_of_lt h

pub has_past : (k a i : ℕ) → a < 2 ^ k → k ≤ i → has a i ≡ false
unfolding has
has_past k a i h l = let past : 2 ^ k ≤ 2 ^ i = pow_mono l in let lt : a < 2 ^ i = omega arith in ap odd (div-eq_of_lt lt)
