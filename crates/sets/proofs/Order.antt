-- The rows are in order.
use Rattle.std.proofs.Common.{◌≡◌, ℕ, zero, suc, ◌+◌, ◌-◌, ◌^◌, ◌<◌, sym, refl, ap, ◌∙◌, ⊎_elim, arith, pow_pos}
use lib.Bits.{bit_and, and_le_l}
use Rattle.std.proofs.lemmas.Bool.{cases_eq}
use Rattle.sets.specs.Sets.{◌⊆◌}
use Rattle.sets.specs.Rows.{tests_on, place_of, row_count}
use Rattle.sets.specs.Order.{RowsInOrder}
use Rattle.sets.proofs.Bits.{part_le}
use Rattle.sets.proofs.Contraction.{next_number}
use Rattle.sets.proofs.Parts.{part_chain, one_le, without_part, tests_part, tests_rest, meet_part}
use Rattle.sets.proofs.Positions.{before_all, place_lt, place_smaller, place_fewer, place_same, place_start, place_first, place_last, place_set}

-- a row with a given place
Placed : (n T k : ℕ) → Type 0
Placed n T k = (R : ℕ) × (S : ℕ) × (R < 2 ^ n) × (S ⊆ tests_on T R) × (place_of T R S ≡ k)

placed : (n T k : ℕ) → T < 2 ^ n → k < row_count n T → Placed n T k
unfolding Placed
placed n T zero h l = (0, 0, pow_pos n, refl, place_start T)
placed n T (suc k) h l = after (placed n T k h (omega arith))
  where
    after : Placed n T k → Placed n T (suc k)
    after w =
        let R : ℕ = w.0 in
        let S : ℕ = w.1 in
        let m : ℕ = tests_on T R in
        ⊎_elim
        (λ all.
        let e : place_of T (suc R) 0 ≡ suc k = place_first T (suc R) ∙ sym (place_last T R) ∙ ap (λ (x : ℕ). place_of T R x + 1) (sym all) ∙ omega (arith, w.4) in
        (suc R, 0, place_set n T (suc R) 0 h (omega arith), refl, e))
        (λ some.
        let lt : S < m = omega (arith, part_le S m w.3) in
        let next = next_number n m S (omega (arith, and_le_l R T, w.2)) w.3 lt in
        (R, bit_and (2 ^ n - m + S) m, w.2, meet_part (2 ^ n - m + S) m, omega (arith, w.4)))
        (cases_eq S m)

pub in_order : RowsInOrder
unfolding Placed
in_order = record {
  counted = before_all;
  below = place_lt;
  each = placed;
  apart = place_same;
  by_tables = place_smaller;
  by_tests = place_fewer;
  left = λ T R S L w p lt. (tests_part T R S L w, place_smaller T L R (bit_and S L) S lt);
  right = λ T R S L w p pos. (tests_rest T R S L p w, place_smaller T (R - L) R (S - bit_and S L) S (omega (arith, part_le L R p)));
  fewer = λ T R S i w h.
      let part = part_chain (S - 2 ^ i) S (tests_on T R) (without_part S i h) w in
      (part, place_fewer T R (S - 2 ^ i) S part w (omega (arith, one_le S i h, pow_pos i)));
}
