-- A plan of n tables and m tests has 2 (2 n - 1 + m) bytes.
use Rattle.std.proofs.Common.{◌≡◌, ℕ, ◌+◌, ◌-◌, ◌*◌, ◌/◌, ◌%◌, ◌^◌, ◌<◌, ◌≤◌, min, length, ap, ◌∙◌, zero-add, arith, pow_pos}
use lib.Arith.{bin_ind}
use lib.Bits.{bit_and, and_step}
use lib.Count.{ones, ones_step, ones_cat, ones-le}
use Rattle.std.proofs.lemmas.Bool.{lt-ltb}
use Rattle.sets.proofs.Bits.{has_part, part_le}
use Rattle.sets.proofs.Contraction.{ones_none}
use Rattle.sets.proofs.Parts.{one_apart, parts_apart}
use Rattle.plans.specs.Questions.{Question}
use Rattle.plans.specs.Plans.{Plan, bare, test, join, tables, tests, WellFormed}
use Rattle.plans.specs.Spelling.{spelled}
use Rattle.plans.proofs.Optimal.{tests_part, table_below}
use Rattle.plans.proofs.Whole.{full_has}
use Rattle.readoff.proofs.Emitting.{length_test, length_join}

-- ---- how many members a set has

ones_sum : (a b : ℕ) → bit_and a b ≡ 0 → ones (a + b) ≡ ones a + ones b
ones_sum = bin_ind (λ a. (b : ℕ) → bit_and a b ≡ 0 → ones (a + b) ≡ ones a + ones b)
    (λ b e. ap ones (zero-add b) ∙ omega (arith, ones_none))
    (λ a ih b e.
    let s = and_step a b in
    let high : bit_and (a / 2) (b / 2) ≡ 0 = omega arith in
    let low : min (a % 2) (b % 2) ≡ 0 = omega arith in
    let half : (a + b) / 2 ≡ a / 2 + b / 2 = omega arith in
    omega (arith, ones_step (a + b), ones_step a, ones_step b, ap ones half, ih (b / 2) high))

ones_pow : (i : ℕ) → ones (2 ^ i) ≡ 1
unfolding ones
ones_pow i = let e : 2 ^ i ≡ 1 * 2 ^ i + 0 = omega arith in ap ones e ∙ ones_cat i 1 0 (pow_pos i)

-- ---- how many bytes a plan has

module _ (Q : Question) where
  pub spelled_length : (p : Plan) → WellFormed Q p → length (spelled p) + 2 ≡ 4 * ones (tables p) + 2 * ones (tests p)
  unfolding tables tests WellFormed spelled
  spelled_length (bare i) w = omega (arith, ones_pow i, ones_none)
  spelled_length (test i p) w =
      omega (arith, length_test i p, spelled_length p w.0, ones_sum (tests p) (2 ^ i) (one_apart (tests p) i w.3), ones_pow i)
  spelled_length (join l r) w =
      let apart = parts_apart (tests l) (tests r) (tables l) (tables r) (tests_part Q l w.0) (tests_part Q r w.1) w.2 in
      omega (arith, length_join l r, spelled_length l w.0, spelled_length r w.1, ones_sum (tables l) (tables r) w.2, ones_sum (tests l) (tests r) apart)

  tables_few : (p : Plan) → WellFormed Q p → tables p < 2 ^ Q.count
  tables_few p w =
      let part = has_part (tables p) (2 ^ Q.count - 1) (λ i h. full_has Q.count i ∙ lt-ltb i Q.count (table_below Q p i w h)) in
      omega (arith, part_le (tables p) (2 ^ Q.count - 1) part, pow_pos Q.count)

  -- at most 2 (2 n - 1 + n), where there are n tables
  pub plan_short : (p : Plan) → WellFormed Q p → length (spelled p) + 2 ≤ 6 * Q.count
  plan_short p w =
      let few = tables_few p w in
      let fewer : tests p < 2 ^ Q.count = omega (arith, part_le (tests p) (tables p) (tests_part Q p w)) in
      omega (arith, spelled_length p w, ones-le Q.count (tables p) few, ones-le Q.count (tests p) fewer)

  pub within_58 : (p : Plan) → Q.count ≤ 10 → WellFormed Q p → length (spelled p) ≤ 58
  within_58 p h w = omega (arith, plan_short p w)
