-- Contraction five places at a time, and the look-ups of it.
use Rattle.std.proofs.Common.{◌≡◌, ℕ, ◌+◌, ◌*◌, ◌/◌, ◌%◌, ◌^◌, ◌<◌, ◌≤◌, ◌≢◌, List, length, get_or, set, sym, ap, ◌∙◌, ap₂, ⊎_elim, mul_assoc, arith, pow_mono}
use lib.Count.{ones, ones-le}
use Rattle.sets.specs.Rows.{contracted, before, rows_of}
use Rattle.sets.proofs.Bits.{even_or_odd}
use Rattle.sets.proofs.Filling.{each_more}
use Rattle.sets.proofs.Contraction.{contracted_out, contracted_inside, contracted_none, contracted_lt, contracted_whole, ones_none, ones_out, ones_inside}
use Rattle.sets.proofs.Positions.{before_next, before_bound}

-- ---- the lowest places apart from the others

-- the numbers below w are the lowest places
abbrev Apart : (w : ℕ) → Type 0
Apart w = (s m : ℕ) → contracted s m ≡ contracted (s % w) (m % w) + 2 ^ ones (m % w) * contracted (s / w) (m / w)

-- one place more
module _ (w v : ℕ) (halved : (n : ℕ) → n % v / 2 ≡ n / 2 % w) (lowest : (n : ℕ) → n % v % 2 ≡ n % 2) (above : (n : ℕ) → n / v ≡ n / 2 / w) where
  apart_more : Apart w → Apart v
  apart_more h s m =
      let low : contracted (s % v / 2) (m % v / 2) ≡ contracted (s / 2 % w) (m / 2 % w) = ap₂ contracted (halved s) (halved m) in
      let high : contracted (s / v) (m / v) ≡ contracted (s / 2 / w) (m / 2 / w) = ap₂ contracted (above s) (above m) in
      let subsets : 2 ^ ones (m % v / 2) ≡ 2 ^ ones (m / 2 % w) = ap (λ (x : ℕ). 2 ^ ones x) (halved m) in
      let p : ℕ = 2 ^ ones (m / 2 % w) in
      let c : ℕ = contracted (s / 2 / w) (m / 2 / w) in
      ⊎_elim
      (λ e.
      let f : m % v % 2 ≡ 0 = lowest m ∙ e in
      omega (arith, contracted_out s m e, h (s / 2) (m / 2), contracted_out (s % v) (m % v) f, low, ap₂ (λ (x y : ℕ). x * y) (ones_out (m % v) f ∙ subsets) high))
      (λ e.
      let f : m % v % 2 ≡ 1 = lowest m ∙ e in
      omega (
        arith,
        contracted_inside s m e,
        h (s / 2) (m / 2),
        contracted_inside (s % v) (m % v) f,
        lowest s,
        low,
        ap₂ (λ (x y : ℕ). x * y) (ones_inside (m % v) f ∙ ap (λ (x : ℕ). 2 * x) subsets) high ∙ mul_assoc 2 p c,
      ))
      (even_or_odd m)

apart_none : Apart 1
apart_none s m =
    let z : m % 1 ≡ 0 = omega arith in
    let same : contracted (s / 1) (m / 1) ≡ contracted s m = ap₂ contracted (omega arith) (omega arith) in
    let low : contracted (s % 1) (m % 1) ≡ 0 = ap (contracted (s % 1)) z ∙ contracted_none (s % 1) in
    let one : 2 ^ ones (m % 1) ≡ 1 = ap (λ (x : ℕ). 2 ^ ones x) z ∙ ap (λ (x : ℕ). 2 ^ x) ones_none in
    omega (arith, low, same, ap (λ (x : ℕ). x * contracted (s / 1) (m / 1)) one)

pub five_apart : (s m : ℕ) → contracted s m ≡ contracted (s % 32) (m % 32) + 2 ^ ones (m % 32) * contracted (s / 32) (m / 32)
five_apart =
    apart_more 16 32 (λ n. omega arith) (λ n. omega arith) (λ n. omega arith)
    (apart_more 8 16 (λ n. omega arith) (λ n. omega arith) (λ n. omega arith)
    (apart_more 4 8 (λ n. omega arith) (λ n. omega arith) (λ n. omega arith)
    (apart_more 2 4 (λ n. omega arith) (λ n. omega arith) (λ n. omega arith)
    (apart_more 1 2 (λ n. omega arith) (λ n. omega arith) (λ n. omega arith) apart_none))))

-- ---- the list of the numbers of five places

abbrev pub Numbered : (numbers : List ℕ) (n : ℕ) → Type 0
Numbered numbers n = (k : ℕ) → k < n → get_or numbers k 0 ≡ contracted (k % 32) (k / 32)

module _ (numbers : List ℕ) (h : Numbered numbers 1024) where
  entry : (s m : ℕ) → s < 32 → m < 32 → get_or numbers (m * 32 + s) 0 ≡ contracted s m
  entry s m p q = h (m * 32 + s) (omega arith) ∙ ap₂ contracted (omega arith) (omega arith)

  -- the number of a set of ten places
  pub by_fives : (s m : ℕ) → s < 1024 → m < 1024
      → get_or numbers (m % 32 * 32 + s % 32) 0 + (get_or numbers (m % 32 * 32 + m % 32) 0 + 1) * get_or numbers (m / 32 * 32 + s / 32) 0 ≡ contracted s m
  by_fives s m p q =
      let low = entry (s % 32) (m % 32) (omega arith) (omega arith) in
      let high = entry (s / 32) (m / 32) (omega arith) (omega arith) in
      let subsets : get_or numbers (m % 32 * 32 + m % 32) 0 + 1 ≡ 2 ^ ones (m % 32) =
      ap (λ (x : ℕ). x + 1) (entry (m % 32) (m % 32) (omega arith) (omega arith)) ∙ contracted_whole (m % 32) in
      omega (arith, low, ap₂ (λ (x y : ℕ). x * y) subsets high, five_apart s m)

pub five_small : (s m : ℕ) → m < 32 → contracted s m < 32
five_small s m h =
    let most : 2 ^ ones m ≤ 2 ^ 5 = pow_mono (ones-le 5 m h) in
    omega (arith, contracted_lt m s)

module _ (numbers : List ℕ) (place : ℕ) (h : Numbered numbers place) (low : 32 ≤ place) (few : place < 1024) where
  -- what is read, from the halves
  abbrev half : ℕ
  half = place / 32 / 2 * 32 + place % 32 / 2

  pub half_entry : get_or numbers half 0 ≡ contracted (place % 32 / 2) (place / 32 / 2)
  half_entry = h half (omega arith) ∙ ap₂ contracted (omega arith) (omega arith)

  pub half_small : get_or numbers half 0 < 32
  half_small = omega (arith, half_entry, five_small (place % 32 / 2) (place / 32 / 2) (omega arith))

  module _ (all : length numbers ≡ 1024) where
    more : (v : ℕ) → v ≡ contracted (place % 32) (place / 32) → Numbered (set numbers place v) (place + 1)
    more v e = each_more (λ k x. x ≡ contracted (k % 32) (k / 32)) numbers place v h (omega arith) e

    pub numbered_out : (v : ℕ) → place / 32 % 2 ≢ 1 → v ≡ get_or numbers half 0 → Numbered (set numbers place v) (place + 1)
    numbered_out v ne e = more v (e ∙ half_entry ∙ sym (contracted_out (place % 32) (place / 32) (omega arith)))

    pub numbered_in : (v : ℕ) → place / 32 % 2 ≡ 1 → v ≡ place % 32 % 2 + 2 * get_or numbers half 0 → Numbered (set numbers place v) (place + 1)
    numbered_in v is e = more v (omega (arith, e, half_entry, contracted_inside (place % 32) (place / 32) is))

-- the empty mask
pub numbered_none : (numbers : List ℕ) → ((k : ℕ) → k < 1024 → get_or numbers k 0 ≡ 0) → Numbered numbers 32
numbered_none numbers zeros k h =
    let z : k / 32 ≡ 0 = omega arith in
    zeros k (omega arith) ∙ sym (ap (contracted (k % 32)) z ∙ contracted_none (k % 32))

-- ---- the list of the first rows

abbrev pub Firsts : (tested : ℕ) (first : List ℕ) (n sum : ℕ) → Type 0
Firsts tested first n sum = ((k : ℕ) → k < n → get_or first k 0 ≡ before tested k) × (sum ≡ before tested n)

pub firsts_more : (tested : ℕ) (first : List ℕ) (n sum rows : ℕ) → Firsts tested first n sum → n < length first → rows ≡ rows_of tested n
    → Firsts tested (set first n sum) (n + 1) (sum + rows)
firsts_more tested first n sum rows h l e =
    (each_more (λ k x. x ≡ before tested k) first n sum h.0 l h.1, ap₂ ◌+◌ h.1 e ∙ sym (before_next tested n) ∙ ap (before tested) (omega arith))

pub firsts_bound : (tested : ℕ) (first : List ℕ) (n sum : ℕ) → Firsts tested first n sum → n ≤ 1024 → sum ≤ 1048576
firsts_bound tested first n sum h l = omega (arith, h.1, before_bound 10 tested n (omega arith))

-- ---- no place is large

pub first_small : (tested : ℕ) (first : List ℕ) (r : ℕ) → ((k : ℕ) → k < 1024 → get_or first k 0 ≡ before tested k) → r < 1024 → get_or first r 0 ≤ 1048576
first_small tested first r h l = omega (arith, h r l, before_bound 10 tested r (omega arith))

pub number_small : (s m : ℕ) → m < 1024 → contracted s m < 1024
number_small s m h =
    let most : 2 ^ ones m ≤ 2 ^ 10 = pow_mono (ones-le 10 m h) in
    omega (arith, contracted_lt m s)
