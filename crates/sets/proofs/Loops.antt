-- What the loops of `contracted` and `rows_before` keep. The first reads a set from its highest place down, and knows the answer for what it has read.
use Rattle.std.proofs.Common.{◌≡◌, ℕ, suc, ◌+◌, ◌-◌, ◌*◌, ◌/◌, ◌%◌, ◌^◌, ◌<◌, ◌≤◌, true, false, ◌≢◌, sym, ap, ◌∙◌, subst, ap₂, subst₂, ⊎_elim, mul_assoc, mul_comm, pow-suc, mul-zero, mul-add, div-one, mul_left_comm, arith, pow_mono, pow-add}
use lib.Bits.{bit_and, and_le_l}
use lib.Count.{ones, ones-le}
use Rattle.std.proofs.lemmas.Nat.{shr-shr, shr_le}
use Rattle.std.proofs.lemmas.Bool.{cases_eq, eqb-true, eqb-false}
use Rattle.sets.specs.Sets.{has}
use Rattle.sets.specs.Rows.{contracted, before, rows_of}
use Rattle.sets.proofs.Bits.{even_or_odd}
use Rattle.sets.proofs.Contraction.{double, contracted_lt, contracted_out, contracted_inside, contracted_none}
use Rattle.sets.proofs.Positions.{before_none, before_step, before_bound}

pub bit_on : (n i : ℕ) → true ≡ has n i → n / 2 ^ i % 2 ≡ 1
unfolding has
bit_on n i e = eqb-true (n / 2 ^ i % 2) 1 (sym e)

pub bit_off : (n i : ℕ) → false ≡ has n i → n / 2 ^ i % 2 ≡ 0
unfolding has
bit_off n i e = let ne = eqb-false (n / 2 ^ i % 2) 1 (sym e) in omega arith

shift : (n i : ℕ) → 0 < i → n / 2 ^ (i - 1) / 2 ≡ n / 2 ^ i
shift n i h = let up : i - 1 + 1 ≡ i = omega arith in shr-shr n (i - 1) 1 ∙ ap (λ (x : ℕ). n / 2 ^ x) up

-- nothing is left above ten places
over : (n : ℕ) → n < 1024 → n / 1024 ≡ 0
over n h = omega arith

-- ---- `contracted`

abbrev pub Contracting : (s m i number : ℕ) → Type 0
Contracting s m i number = (number ≡ contracted (s / 2 ^ i) (m / 2 ^ i)) × (number < 1024)

module _ (s m i number : ℕ) (few : m < 1024) where
  pub contracting : number ≡ contracted (s / 2 ^ i) (m / 2 ^ i) → Contracting s m i number
  contracting e =
      let most : 2 ^ ones (m / 2 ^ i) ≤ 2 ^ 10 = pow_mono (ones-le 10 (m / 2 ^ i) (omega (arith, shr_le m i))) in
      (e, omega (arith, contracted_lt (m / 2 ^ i) (s / 2 ^ i)))

module _ (s m i number : ℕ) (few : m < 1024) (h : Contracting s m i number) (pos : 0 < i) where
  halves : contracted (s / 2 ^ (i - 1) / 2) (m / 2 ^ (i - 1) / 2) ≡ number
  halves = ap₂ contracted (shift s i pos) (shift m i pos) ∙ sym h.0

  pub contracting_out : false ≡ has m (i - 1) → Contracting s m (i - 1) number
  contracting_out e = contracting s m (i - 1) number few (sym (contracted_out (s / 2 ^ (i - 1)) (m / 2 ^ (i - 1)) (bit_off m (i - 1) e) ∙ halves))

  pub contracting_in : (new : ℕ) → true ≡ has m (i - 1) → new ≡ s / 2 ^ (i - 1) % 2 + 2 * number → Contracting s m (i - 1) new
  contracting_in new e f = contracting s m (i - 1) new few (omega (arith, halves, contracted_inside (s / 2 ^ (i - 1)) (m / 2 ^ (i - 1)) (bit_on m (i - 1) e)))

pub contracting_none : (s m : ℕ) → m < 1024 → Contracting s m 10 0
contracting_none s m h = contracting s m 10 0 h (sym (ap (contracted (s / 1024)) (over m h) ∙ contracted_none (s / 1024)))

-- ---- `rows_before`: what is summed, and what is to come, each row as often as the tables below ask
pub record Placing (set tested left tests twos threes sum : ℕ) : Type 0 where
  pub value : sum + (2 ^ twos * 3 ^ threes) * before tests left ≡ before tested set
  pub tables : twos + threes ≤ 10
  pub room : left < 2 ^ (10 - (twos + threes))

module _ (set tested left tests twos threes sum : ℕ) (h : Placing set tested left tests twos threes sum) where
  abbrev scale : ℕ
  scale = 2 ^ twos * 3 ^ threes

  abbrev above : ℕ
  above = ones (bit_and (left / 2) (tests / 2))

  below : left ≢ 0 → twos + threes < 10
  below ne = ⊎_elim (λ e. absurd (omega (arith, ne, h.room, ap (λ (x : ℕ). 2 ^ (10 - x)) e))) (λ e. omega (arith, e, h.tables)) (cases_eq (twos + threes) 10)

  halved : left ≢ 0 → left / 2 < 2 ^ (10 - (twos + threes + 1))
  halved ne = omega (arith, h.room, double (10 - (twos + threes)) (10 - (twos + threes + 1)) (omega (arith, below ne)))

  pub placing_above : left ≢ 0 → twos + above ≤ 10
  placing_above ne = omega (arith, below ne, ones-le (10 - (twos + threes + 1)) (bit_and (left / 2) (tests / 2)) (omega (arith, halved ne, and_le_l (left / 2) (tests / 2))))

  times : (c d : ℕ) → tests % 2 ≡ c → left % 2 ≡ d → scale * before tests left ≡ (2 + c) * (scale * before (tests / 2) (left / 2)) + d * (scale * rows_of (tests / 2) (left / 2))
  times c d p q =
      let b : ℕ = before (tests / 2) (left / 2) in
      let w : ℕ = rows_of (tests / 2) (left / 2) in
      ap (λ (x : ℕ). scale * x) (before_step tests left c d p q) ∙ mul-add scale ((2 + c) * b) (d * w)
      ∙ ap₂ (λ (x y : ℕ). x + y) (mul_left_comm scale (2 + c) b) (mul_left_comm scale d w)

  -- the rows that this table adds
  pub added : scale * rows_of (tests / 2) (left / 2) ≡ 2 ^ (twos + above) * 3 ^ threes
  added = mul_assoc (2 ^ twos) (3 ^ threes) (2 ^ above) ∙ ap (λ (x : ℕ). 2 ^ twos * x) (mul_comm (3 ^ threes) (2 ^ above))
      ∙ sym (mul_assoc (2 ^ twos) (2 ^ above) (3 ^ threes)) ∙ ap (λ (x : ℕ). x * 3 ^ threes) (sym (pow-add 2 twos above))

  more_twos : (b : ℕ) → (2 ^ (twos + 1) * 3 ^ threes) * b ≡ 2 * (scale * b)
  more_twos b =
      ap (λ (x : ℕ). (x * 3 ^ threes) * b) (double (twos + 1) twos (omega arith))
      ∙ ap (λ (x : ℕ). x * b) (mul_assoc 2 (2 ^ twos) (3 ^ threes)) ∙ mul_assoc 2 scale b

  more_threes : (b : ℕ) → (2 ^ twos * 3 ^ (threes + 1)) * b ≡ 3 * (scale * b)
  more_threes b =
      ap (λ (x : ℕ). (2 ^ twos * x) * b) (ap (λ (x : ℕ). 3 ^ x) (let z : threes + 1 ≡ suc threes = omega arith in z) ∙ pow-suc 3 threes ∙ mul_comm (3 ^ threes) 3)
      ∙ ap (λ (x : ℕ). x * b) (mul_left_comm (2 ^ twos) 3 (3 ^ threes)) ∙ mul_assoc 3 scale b

  next_room : (u v : ℕ) → u + v ≡ twos + threes + 1 → left ≢ 0 → left / 2 < 2 ^ (10 - (u + v))
  next_room u v e ne = subst (λ (x : ℕ). left / 2 < 2 ^ (10 - x)) (sym e) (halved ne)

  -- a turn: s is the sum after the first test, which adds where the table is in the set
  pub placing_untested : (s d : ℕ) → left ≢ 0 → tests % 2 ≡ 0 → left % 2 ≡ d → s ≡ sum + d * (2 ^ (twos + above) * 3 ^ threes)
      → Placing set tested (left / 2) (tests / 2) (twos + 1) threes s
  placing_untested s d ne p q e = record {
    value = let t = times 0 d p q in let a = ap (λ (x : ℕ). d * x) added in omega (arith, e, t, a, h.value, more_twos (before (tests / 2) (left / 2)));
    tables = omega (arith, below ne);
    room = next_room (twos + 1) threes (omega arith) ne;
  }

  pub placing_tested : (s d : ℕ) → left ≢ 0 → tests % 2 ≡ 1 → left % 2 ≡ d → s ≡ sum + d * (2 ^ (twos + above) * 3 ^ threes)
      → Placing set tested (left / 2) (tests / 2) twos (threes + 1) s
  placing_tested s d ne p q e = record {
    value = let t = times 1 d p q in let a = ap (λ (x : ℕ). d * x) added in omega (arith, e, t, a, h.value, more_threes (before (tests / 2) (left / 2)));
    tables = omega (arith, below ne);
    room = next_room twos (threes + 1) (omega arith) ne;
  }

  pub placing_end : left ≡ 0 → sum ≡ before tested set
  placing_end e = omega (arith, h.value, ap (λ (x : ℕ). scale * x) (ap (before tests) e ∙ before_none tests), mul-zero scale)

  pub placing_add : set < 1024 → left % 2 ≡ 1 → sum + 2 ^ (twos + above) * 3 ^ threes ≤ 1048576
  placing_add l q = ⊎_elim
      (λ p. omega (arith, h.value, before_bound 10 tested set (omega arith), times 0 1 p q, added))
      (λ p. omega (arith, h.value, before_bound 10 tested set (omega arith), times 1 1 p q, added))
      (even_or_odd tests)

-- the same of values that are equal, as where the ways of a branch meet
pub placing_as : (a b c d u u' v v' s : ℕ) → u ≡ u' → v ≡ v' → Placing a b c d u' v' s → Placing a b c d u v s
placing_as a b c d u u' v v' s p q h = subst₂ (λ (x y : ℕ). Placing a b c d x y s) (sym p) (sym q) h

-- ---- the last place has been read

whole : (n i : ℕ) → i ≤ 0 → n / 2 ^ i ≡ n
whole n i h = let z : i ≡ 0 = omega arith in ap (λ (x : ℕ). n / 2 ^ x) z ∙ div-one n
