-- The order of the rows.
use Rattle.std.proofs.Common.{◌≡◌, ℕ, zero, suc, ◌+◌, ◌-◌, ◌*◌, ◌/◌, ◌%◌, ◌^◌, ◌<◌, ◌≤◌, sym, refl, ap, ◌∙◌, subst, ap₂, ⊎_elim, le_refl, mul_assoc, suc-mul, add-mul, pow-suc, mul-add, arith, pow_mono}
use native.Mathlib.Decide.{le_ind}
use lib.Bits.{and_step, and_le_l, and_zero_l}
use lib.Count.{ones, ones_step, ones-le}
use Rattle.std.proofs.lemmas.Bool.{cases_order, cases_lt}
use Rattle.sets.specs.Sets.{◌⊆◌}
use Rattle.sets.specs.Rows.{tests_on, contracted, rows_of, before, place_of, row_count, NextRow}
use Rattle.sets.proofs.Bits.{even_or_odd}
use Rattle.sets.proofs.Contraction.{double, contracted_lt, contracted_mono, contracted_same, contracted_whole, contracted_zero}

-- ---- by the lowest table

half : (t r : ℕ) → ones (tests_on t r / 2) ≡ ones (tests_on (t / 2) (r / 2))
half t r = ap ones (omega (arith, and_step r t))

-- without the lowest table, or where it has no test, the tables have the rows of those above it, else twice as many
pub rows_same : (t r : ℕ) → t % 2 + r % 2 < 2 → rows_of t r ≡ rows_of (t / 2) (r / 2)
rows_same t r h = ap (λ (x : ℕ). 2 ^ x) (omega (arith, ones_step (tests_on t r), and_step r t, half t r))

pub rows_twice : (t r : ℕ) → t % 2 + r % 2 ≡ 2 → rows_of t r ≡ 2 * rows_of (t / 2) (r / 2)
rows_twice t r h = double (ones (tests_on t r)) (ones (tests_on (t / 2) (r / 2))) (omega (arith, ones_step (tests_on t r), and_step r t, half t r))

rows_with : (t r c : ℕ) → t % 2 ≡ c → r % 2 ≡ 1 → rows_of t r ≡ (1 + c) * rows_of (t / 2) (r / 2)
rows_with t r zero p q = omega (arith, rows_same t r (omega arith))
rows_with t r (suc zero) p q = rows_twice t r (omega arith)
rows_with t r (suc (suc c)) p q = absurd (omega arith)

pub before_none : (t : ℕ) → before t 0 ≡ 0
unfolding before
before_none t = refl

pub before_next : (t r : ℕ) → before t (suc r) ≡ before t r + rows_of t r
unfolding before
before_next t r = refl

-- each row of the tables above the lowest comes once without it, and with it once, or twice if it has a test
pub before_step : (t r c d : ℕ) → t % 2 ≡ c → r % 2 ≡ d → before t r ≡ (2 + c) * before (t / 2) (r / 2) + d * rows_of (t / 2) (r / 2)
before_step t zero c zero p q = omega (arith, before_none t, ap (λ (x : ℕ). (2 + c) * x) (before_none (t / 2)))
before_step t zero c (suc d) p q = absurd (omega arith)
before_step t (suc r) c zero p q =
    let up : suc r / 2 ≡ suc (r / 2) = omega arith in
    let all : ℕ = before (t / 2) (r / 2) in
    let new : ℕ = rows_of (t / 2) (r / 2) in
    omega (
      arith,
      before_next t r,
      before_step t r c 1 p (omega arith),
      rows_with t r c p (omega arith),
      add-mul 1 (1 + c) new,
      ap (λ (x : ℕ). (2 + c) * x) (ap (before (t / 2)) up ∙ before_next (t / 2) (r / 2)) ∙ mul-add (2 + c) all new,
    )
before_step t (suc r) c (suc zero) p q =
    let up : suc r / 2 ≡ r / 2 = omega arith in
    omega (arith, before_next t r, before_step t r c 0 p (omega arith), rows_same t r (omega arith), ap (λ (x : ℕ). (2 + c) * before (t / 2) x) up, ap (rows_of (t / 2)) up)
before_step t (suc r) c (suc (suc d)) p q = absurd (omega arith)

-- ---- order

pub before_mono : (t a b : ℕ) → a ≤ b → before t a ≤ before t b
before_mono t a b h = le_ind (λ (k : ℕ). before t a ≤ before t k) (le_refl (before t a)) (λ k l e. omega (arith, before_next t k)) b h

pub before_bound : (k t r : ℕ) → r ≤ 2 ^ k → before t r ≤ r * 2 ^ k
before_bound k t zero h = omega (arith, before_none t)
before_bound k t (suc r) h =
    let few : rows_of t r ≤ 2 ^ k = pow_mono (ones-le k (tests_on t r) (omega (arith, and_le_l r t))) in
    omega (arith, before_next t r, before_bound k t r (omega arith), suc-mul r (2 ^ k))

first_one : before 0 1 ≡ row_count 0 0
unfolding before ones
first_one = refl

counted : ℕ → ℕ → ℕ
counted n m = 2 ^ (n - m) * 3 ^ m

-- all the rows of k tables
pub before_all : (k t : ℕ) → t < 2 ^ k → before t (2 ^ k) ≡ row_count k t
unfolding counted
before_all zero t h = let z : t ≡ 0 = omega arith in subst (λ (x : ℕ). before x 1 ≡ row_count 0 x) (sym z) first_one
before_all (suc k) t h =
    let p = pow-suc 2 k in
    let halved : 2 ^ suc k / 2 ≡ 2 ^ k = omega arith in
    let even : 2 ^ suc k % 2 ≡ 0 = omega arith in
    let m : ℕ = ones (t / 2) in
    let few : m ≤ k = ones-le k (t / 2) (omega arith) in
    let ih = ap (before (t / 2)) halved ∙ before_all k (t / 2) (omega arith) in
    ⊎_elim
    (λ e.
    let same : ones t ≡ m = omega (arith, ones_step t) in
    omega (arith, before_step t (2 ^ suc k) 0 0 e even, ih, mul_assoc 2 (2 ^ (k - m)) (3 ^ m), ap (λ (x : ℕ). x * 3 ^ m) (double (suc k - m) (k - m) (omega arith))) ∙ ap (counted (suc k)) (sym same))
    (λ e.
    let same : ones t ≡ suc m = omega (arith, ones_step t) in
    let gap : suc k - suc m ≡ k - m = omega arith in
    omega (arith, before_step t (2 ^ suc k) 1 0 e even, ih, mul_assoc (2 ^ (k - m)) (3 ^ m) 3, ap₂ (λ (x y : ℕ). 2 ^ x * y) gap (pow-suc 3 m)) ∙ ap (counted (suc k)) (sym same))
    (even_or_odd t)

-- ---- places

pub place_next : (t r s : ℕ) → place_of t r s < before t (suc r)
place_next t r s = omega (arith, before_next t r, contracted_lt (tests_on t r) s)

pub place_lt : (n t r s : ℕ) → t < 2 ^ n → r < 2 ^ n → place_of t r s < row_count n t
place_lt n t r s ht hr = omega (arith, place_next t r s, before_mono t (suc r) (2 ^ n) hr, before_all n t ht)

-- a smaller set of tables comes first, whatever the tests
pub place_smaller : (t q r u s : ℕ) → q < r → place_of t q u < place_of t r s
place_smaller t q r u s h = omega (arith, place_next t q u, before_mono t (suc q) r h)

-- and of one set of tables, the smaller set of tests
pub place_fewer : (t r u s : ℕ) → u ⊆ tests_on t r → s ⊆ tests_on t r → u < s → place_of t r u < place_of t r s
place_fewer t r u s p q h = omega (arith, contracted_mono (tests_on t r) u s p q h)

pub place_same : (t q r u s : ℕ) → u ⊆ tests_on t q → s ⊆ tests_on t r → place_of t q u ≡ place_of t r s → (q ≡ r) × (u ≡ s)
place_same t q r u s p w e =
    ⊎_elim
    (λ same. (same, contracted_same (tests_on t r) u s (subst (λ (x : ℕ). u ⊆ tests_on t x) same p) w (omega (arith, ap (before t) same, ap (λ (x : ℕ). contracted u (tests_on t x)) same))))
    (⊎_elim (λ lt. absurd (omega (arith, place_smaller t q r u s lt))) (λ lt. absurd (omega (arith, place_smaller t r q s u lt))))
    (cases_order q r)

pub place_first : (t r : ℕ) → place_of t r 0 ≡ before t r
place_first t r = omega (arith, contracted_zero (tests_on t r))

pub place_start : (t : ℕ) → place_of t 0 0 ≡ 0
place_start t = place_first t 0 ∙ before_none t

-- the row after the last of r is the first of the next set
pub place_last : (t r : ℕ) → place_of t r (tests_on t r) + 1 ≡ before t (suc r)
place_last t r = omega (arith, before_next t r, contracted_whole (tests_on t r))

-- the row of the next tables, without tests, after the last row of r
pub next_tables : (t r s q u : ℕ) → s ≡ tests_on t r → q ≡ r + 1 → u ≡ 0 → NextRow t r s q u
next_tables t r s q u e f g =
    let up : q ≡ suc r = omega arith in
    record {
      own = subst (λ (x : ℕ). x ⊆ tests_on t q) (sym g) (and_zero_l (tests_on t q));
      place = λ _. ap₂ (place_of t) up g ∙ place_first t (suc r) ∙ sym (place_last t r) ∙ ap (λ (x : ℕ). place_of t r x + 1) (sym e);
    }

-- a row before the end is one of the sets
pub place_set : (n t r s : ℕ) → t < 2 ^ n → place_of t r s < row_count n t → r < 2 ^ n
place_set n t r s ht h = ⊎_elim (λ lt. lt) (λ le. absurd (omega (arith, before_mono t (2 ^ n) r le, before_all n t ht))) (cases_lt r (2 ^ n))

-- more tables have more rows
pub more_rows : (n k t : ℕ) → n ≤ k → t < 2 ^ n → row_count n t ≤ row_count k t
more_rows n k t l h =
    let up : 2 ^ n ≤ 2 ^ k = pow_mono l in
    omega (arith, before_mono t (2 ^ n) (2 ^ k) up, before_all n t h, before_all k t (omega arith))

-- the very last row of k tables
pub place_end : (k t r s : ℕ) → t < 2 ^ k → r + 1 ≡ 2 ^ k → s ≡ tests_on t r → place_of t r s + 1 ≡ row_count k t
place_end k t r s h e f =
    let up : suc r ≡ 2 ^ k = omega arith in
    ap (λ (x : ℕ). place_of t r x + 1) f ∙ place_last t r ∙ ap (before t) up ∙ before_all k t h
