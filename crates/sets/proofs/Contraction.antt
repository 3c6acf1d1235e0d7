-- Contracted numbers, and the next subset.
use Rattle.std.proofs.Common.{◌≡◌, ℕ, zero, suc, ◌+◌, ◌-◌, ◌*◌, ◌/◌, ◌%◌, ◌^◌, ◌<◌, ◌≤◌, Bool, true, false, not, ◌&&◌, ◌||◌, refl, ap, ◌∙◌, ⊎_elim, le_refl, not-suc-le-zero, pow-suc, arith}
use native.Mathlib.Decide.{le_ind}
use lib.Arith.{half_le, bin_ind}
use lib.Bits.{bit_and, and_step, and_zero_r, and_comm}
use lib.Count.{ones, ones_step}
use Rattle.std.proofs.lemmas.Bool.{cases_eq, cases_order, cases_lt, false≢true}
use Rattle.sets.specs.Sets.{has, ◌⊆◌}
use Rattle.sets.specs.Rows.{placed, contracted_in, contracted}
use Rattle.sets.proofs.Bits.{even_or_odd, has_and, has_sum, has_rest, same_bits, part_has, part_low, part_half, below_part}
use Rattle.sets.proofs.Parts.{part_self, rest_apart, parts_apart}

-- ---- by the lowest digit

more : (d s m : ℕ) → m ≤ d → contracted_in (suc d) s m ≡ contracted_in d s m
unfolding contracted_in
more zero s zero h = refl
more zero s (suc m) h = absurd (not-suc-le-zero h)
more (suc d) s m h = ap (placed (m % 2) (s % 2)) (more d (s / 2) (m / 2) (half_le h))

enough : (d s m : ℕ) → m ≤ d → contracted_in d s m ≡ contracted_in m s m
enough d s m h = le_ind (λ (k : ℕ). contracted_in k s m ≡ contracted_in m s m) refl (λ k l e. more k s m l ∙ e) d h

step : (s m : ℕ) → contracted s m ≡ placed (m % 2) (s % 2) (contracted (s / 2) (m / 2))
unfolding contracted contracted_in
step s zero = refl
step s (suc m) = ap (placed (suc m % 2) (s % 2)) (enough m (s / 2) (suc m / 2) (half_le (le_refl (suc m))))

module _ (s m : ℕ) where
  pub contracted_out : m % 2 ≡ 0 → contracted s m ≡ contracted (s / 2) (m / 2)
  contracted_out e = step s m ∙ ap (λ (d : ℕ). placed d (s % 2) (contracted (s / 2) (m / 2))) e

  pub contracted_inside : m % 2 ≡ 1 → contracted s m ≡ s % 2 + 2 * contracted (s / 2) (m / 2)
  contracted_inside e = step s m ∙ ap (λ (d : ℕ). placed d (s % 2) (contracted (s / 2) (m / 2))) e

pub contracted_none : (s : ℕ) → contracted s 0 ≡ 0
unfolding contracted contracted_in
contracted_none s = refl

pub ones_none : ones 0 ≡ 0
unfolding ones
ones_none = refl

-- a power one up
pub double : (n k : ℕ) → n ≡ 1 + k → 2 ^ n ≡ 2 * 2 ^ k
double n k e = let up : n ≡ suc k = omega arith in ap (λ (x : ℕ). 2 ^ x) up ∙ omega (arith, pow-suc 2 k)

-- the subsets of m, by m's lowest digit
pub ones_out : (m : ℕ) → m % 2 ≡ 0 → 2 ^ ones m ≡ 2 ^ ones (m / 2)
ones_out m e = ap (λ (x : ℕ). 2 ^ x) (omega (arith, ones_step m))

pub ones_inside : (m : ℕ) → m % 2 ≡ 1 → 2 ^ ones m ≡ 2 * 2 ^ ones (m / 2)
ones_inside m e = double (ones m) (ones (m / 2)) (omega (arith, ones_step m))

-- ---- the numbers of the subsets of m: from 0 on, below 2 ^ ones m, ascending

pub contracted_lt : (m s : ℕ) → contracted s m < 2 ^ ones m
contracted_lt = bin_ind (λ m. (s : ℕ) → contracted s m < 2 ^ ones m)
    (λ s. omega (arith, contracted_none s, ap (λ (x : ℕ). 2 ^ x) ones_none))
    (λ m ih s. ⊎_elim (λ e. omega (arith, contracted_out s m e, ones_out m e, ih (s / 2)))
    (λ e. omega (arith, contracted_inside s m e, ones_inside m e, ih (s / 2))) (even_or_odd m))

pub contracted_zero : (m : ℕ) → contracted 0 m ≡ 0
contracted_zero = bin_ind (λ m. contracted 0 m ≡ 0) (contracted_none 0)
    (λ m ih. ⊎_elim (λ e. contracted_out 0 m e ∙ ih) (λ e. omega (arith, contracted_inside 0 m e, ih)) (even_or_odd m))

pub contracted_whole : (m : ℕ) → contracted m m + 1 ≡ 2 ^ ones m
contracted_whole = bin_ind (λ m. contracted m m + 1 ≡ 2 ^ ones m)
    (omega (arith, contracted_none 0, ap (λ (x : ℕ). 2 ^ x) ones_none))
    (λ m ih. ⊎_elim (λ e. omega (arith, contracted_out m m e, ones_out m e, ih))
    (λ e. omega (arith, contracted_inside m m e, ones_inside m e, ih)) (even_or_odd m))

pub contracted_mono : (m s t : ℕ) → s ⊆ m → t ⊆ m → s < t → contracted s m < contracted t m
contracted_mono = bin_ind (λ m. (s t : ℕ) → s ⊆ m → t ⊆ m → s < t → contracted s m < contracted t m)
    (λ s t p q h. omega (arith, and_zero_r s, and_zero_r t))
    (λ m ih s t p q h.
    let low = part_low s m p in
    let low' = part_low t m q in
    let up : s / 2 < t / 2 → contracted (s / 2) (m / 2) < contracted (t / 2) (m / 2) = ih (s / 2) (t / 2) (part_half s m p) (part_half t m q) in
    ⊎_elim (λ e. omega (arith, contracted_out s m e, contracted_out t m e, up (omega arith)))
    (λ e. ⊎_elim (λ same. omega (arith, contracted_inside s m e, contracted_inside t m e, ap (λ (x : ℕ). contracted x (m / 2)) same))
    (λ ne. omega (arith, contracted_inside s m e, contracted_inside t m e, up (omega arith))) (cases_eq (s / 2) (t / 2)))
    (even_or_odd m))

module _ (m s t : ℕ) (p : s ⊆ m) (q : t ⊆ m) where
  pub contracted_same : contracted s m ≡ contracted t m → s ≡ t
  contracted_same e =
      ⊎_elim (λ same. same) (⊎_elim (λ lt. absurd (omega (arith, contracted_mono m s t p q lt))) (λ lt. absurd (omega (arith, contracted_mono m t s q p lt)))) (cases_order s t)

  -- t has the next number
  module _ (e : contracted t m ≡ contracted s m + 1) where
    pub next_above : s < t
    next_above = ⊎_elim (λ same. absurd (omega (arith, ap (λ (x : ℕ). contracted x m) same))) (⊎_elim (λ lt. lt) (λ gt. absurd (omega (arith, contracted_mono m t s q p gt)))) (cases_order s t)

    pub next_least : (u : ℕ) → u ⊆ m → s < u → t ≤ u
    next_least u w h = ⊎_elim (λ lt. absurd (omega (arith, contracted_mono m u t w q lt, contracted_mono m s u p w h))) (λ le. le) (cases_lt u t)

-- ---- the next subset

-- all the numbers outside m, put to a subset of m, are left out again
outside : (a m s : Bool) → (m ≡ true → a ≡ true) → (s ≡ true → m ≡ true) → (((a && not m) || s) && m) ≡ s
outside true true true f g = refl
outside true true false f g = refl
outside false true s f g = absurd (false≢true (f refl))
outside a false true f g = absurd (false≢true (g refl))
outside true false false f g = refl
outside false false false f g = refl

fill_out : (k m s : ℕ) → m < 2 ^ k → s ⊆ m → bit_and ((2 ^ k - 1 - m) + s) m ≡ s
fill_out k m s l h = same_bits (bit_and (rest + s) m) s (λ i.
    has_and (rest + s) m i ∙ ap (λ (b : Bool). b && has m i) (has_sum rest s i apart ∙ ap (λ (b : Bool). b || has s i) (has_rest m all i inside))
    ∙ outside (has all i) (has m i) (has s i) (part_has m all i inside) (part_has s m i h))
  where
    all : ℕ
    all = 2 ^ k - 1

    rest : ℕ
    rest = all - m

    inside : m ⊆ all
    inside = below_part k m l

    apart : bit_and rest s ≡ 0
    apart = and_comm rest s ∙ parts_apart s rest m rest h (part_self rest) (rest_apart m all inside)

pub next_number : (k m s : ℕ) → m < 2 ^ k → s ⊆ m → s < m → contracted (bit_and (2 ^ k - m + s) m) m ≡ contracted s m + 1
next_number zero m s l h lt = absurd (omega arith)
next_number (suc k) m s l h lt =
    let x : ℕ = 2 ^ suc k - m + s in
    let p = pow-suc 2 k in
    let low = part_low s m h in
    let st = and_step x m in
    let n : ℕ = bit_and x m in
    let l2 : m / 2 < 2 ^ k = omega arith in
    let h2 = part_half s m h in
    let up : (y : ℕ) → x / 2 ≡ y → n / 2 ≡ bit_and y (m / 2) = λ y e. (let z : n / 2 ≡ bit_and (x / 2) (m / 2) = omega arith in z) ∙ ap (λ (u : ℕ). bit_and u (m / 2)) e in
    let next : x / 2 ≡ 2 ^ k - m / 2 + s / 2 → s / 2 < m / 2 → contracted (n / 2) (m / 2) ≡ contracted (s / 2) (m / 2) + 1 =
    λ e lt2. ap (λ (y : ℕ). contracted y (m / 2)) (up (2 ^ k - m / 2 + s / 2) e) ∙ next_number k (m / 2) (s / 2) l2 h2 lt2 in
    ⊎_elim
    (λ d. omega (arith, contracted_out n m d, contracted_out s m d, next (omega arith) (omega arith)))
    (λ d. ⊎_elim
    (λ s0.
    let same : n / 2 ≡ s / 2 = up ((2 ^ k - 1 - m / 2) + s / 2) (omega arith) ∙ fill_out k (m / 2) (s / 2) l2 h2 in
    omega (arith, contracted_inside n m d, contracted_inside s m d, ap (λ (y : ℕ). contracted y (m / 2)) same, st))
    (λ s1. omega (arith, contracted_inside n m d, contracted_inside s m d, next (omega arith) (omega arith), st))
    (even_or_odd s))
    (even_or_odd m)
