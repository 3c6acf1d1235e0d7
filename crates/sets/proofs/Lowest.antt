-- The trailing zeros of a number end at its lowest member.
use Rattle.std.proofs.Common.{◌≡◌, ℕ, zero, suc, ◌/◌, ◌%◌, ◌^◌, ◌<◌, true, false, refl, ◌∙◌, not-suc-le-zero, pow-suc, arith}
use lib.Count.{count_trailing_zeros, under}
use Rattle.std.proofs.lemmas.Bool.{eq-eqb, ne_eqb}
use Rattle.sets.specs.Sets.{has}
use Rattle.sets.proofs.Bits.{has_zero, has_suc}

pub lowest_in : (k n : ℕ) → 0 < n → n < 2 ^ k → has n (count_trailing_zeros k n) ≡ true
unfolding count_trailing_zeros
lowest_in zero n h l = absurd (omega arith)
lowest_in (suc k) n h l = go (n % 2) refl (λ e. lowest_in k (n / 2) (omega arith) (omega (arith, pow-suc 2 k)))
  where
    go : (d : ℕ) → n % 2 ≡ d → (n % 2 ≡ 0 → has (n / 2) (count_trailing_zeros k (n / 2)) ≡ true) → has n (under d (count_trailing_zeros k (n / 2))) ≡ true
    go zero e ih = has_suc n (count_trailing_zeros k (n / 2)) ∙ ih e
    go (suc d) e ih = has_zero n ∙ eq-eqb (n % 2) 1 (omega arith)

pub lowest_least : (k n i : ℕ) → i < count_trailing_zeros k n → has n i ≡ false
unfolding count_trailing_zeros
lowest_least zero n i h = absurd (not-suc-le-zero h)
lowest_least (suc k) n i h = go (n % 2) refl i h (lowest_least k (n / 2))
  where
    go : (d : ℕ) → n % 2 ≡ d → (j : ℕ) → j < under d (count_trailing_zeros k (n / 2)) → ((u : ℕ) → u < count_trailing_zeros k (n / 2) → has (n / 2) u ≡ false) → has n j ≡ false
    go zero e zero l ih = has_zero n ∙ ne_eqb (n % 2) 1 (omega arith)
    go zero e (suc j) l ih = has_suc n j ∙ ih j (omega arith)
    go (suc d) e j l ih = absurd (not-suc-le-zero l)
