-- The set of all tables, and that of all tests.
use Rattle.std.proofs.Common.{◌≡◌, ℕ, zero, suc, ◌+◌, ◌-◌, ◌^◌, Bool, true, false, cond, ◌&&◌, ◌||◌, eqb, ltb, is_some, sym, refl, ap, ◌∙◌, ap₂, add-zero, pow-suc, arith, pow_pos}
use Rattle.std.proofs.lemmas.Bool.{le-ltb, and_parts, and_left}
use Rattle.std.proofs.lemmas.Bool.Decides.{nat_tests}
use Rattle.sets.specs.Sets.{has, sum_below, ◌⊆◌}
use Rattle.plans.specs.Questions.{Question, all_tests}
use Rattle.sets.proofs.Bits.{zero_bits, has_sum, has_pow, has_part}
use Rattle.sets.proofs.Parts.{one_apart}

one_further : (i n : ℕ) → (ltb i n || eqb n i) ≡ ltb i (suc n)
one_further i n = grind (arith, nat_tests)

not_below_none : (i : ℕ) → ltb i 0 ≡ false
not_below_none i = le-ltb i 0 (omega arith)

-- 2 ^ n - 1 is the set of all numbers below n
pub full_has : (n i : ℕ) → has (2 ^ n - 1) i ≡ ltb i n
full_has zero i = zero_bits i ∙ sym (not_below_none i)
full_has (suc n) i =
    let s : 2 ^ suc n - 1 ≡ (2 ^ n - 1) + 2 ^ n = omega (arith, pow-suc 2 n, pow_pos n) in
    let apart = one_apart (2 ^ n - 1) n (full_has n n ∙ le-ltb n n (omega arith)) in
    ap (λ (k : ℕ). has k i) s ∙ has_sum (2 ^ n - 1) (2 ^ n) i apart ∙ ap₂ ◌||◌ (full_has n i) (has_pow n i) ∙ one_further i n

-- the set of the numbers below n of which f holds
pub sum_has : (f : ℕ → Bool) (n i : ℕ) → has (sum_below (λ k. cond (f k) (2 ^ k) 0) n) i ≡ (ltb i n && f i)
unfolding sum_below
sum_has f zero i = zero_bits i ∙ sym (and_left (ltb i 0) (f i) (not_below_none i))
sum_has f (suc n) i = go (f n) refl (sum_has f n)
  where
    A : ℕ
    A = sum_below (λ k. cond (f k) (2 ^ k) 0) n

    with_n : f n ≡ true → ((ltb i n && f i) || eqb n i) ≡ (ltb i (suc n) && f i)
    with_n t = grind (arith, nat_tests)

    without_n : f n ≡ false → (ltb i n && f i) ≡ (ltb i (suc n) && f i)
    without_n t = grind (arith, nat_tests)

    go : (b : Bool) → f n ≡ b → ((j : ℕ) → has A j ≡ (ltb j n && f j)) → has (A + cond b (2 ^ n) 0) i ≡ (ltb i (suc n) && f i)
    go true t ih =
        let apart = one_apart A n (ih n ∙ and_left (ltb n n) (f n) (le-ltb n n (omega arith))) in
        has_sum A (2 ^ n) i apart ∙ ap₂ ◌||◌ (ih i) (has_pow n i) ∙ with_n t
    go false t ih = ap (λ (k : ℕ). has k i) (add-zero A) ∙ ih i ∙ without_n t

pub all_tests_has : (Q : Question) (i : ℕ) → has (all_tests Q) i ≡ (ltb i Q.count && is_some (Q.test i))
unfolding all_tests
all_tests_has Q i = sum_has (λ k. is_some (Q.test k)) Q.count i

pub all_tests_part : (Q : Question) → all_tests Q ⊆ 2 ^ Q.count - 1
all_tests_part Q = has_part (all_tests Q) (2 ^ Q.count - 1) (λ i h. full_has Q.count i ∙ (and_parts (ltb i Q.count) (is_some (Q.test i)) (sym (all_tests_has Q i) ∙ h)).0)
