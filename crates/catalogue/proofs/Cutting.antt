-- What is listed of each set of tables, from smaller sets; and cuts by it.
use Rattle.std.proofs.Common.{◌≡◌, ℕ, ◌+◌, ◌-◌, ◌^◌, ◌<◌, ◌≤◌, true, cond, sym, ap, ◌∙◌, subst, ap₂, ⊎_elim, arith, pow_pos}
use lib.Bits.{bit_and, bit_or, or_disjoint, and_comm}
use Rattle.std.proofs.lemmas.Bool.{cases_lt, or_cases, true≢false}
use Rattle.sets.specs.Sets.{has, ◌⊆◌, sum_below}
use Rattle.sets.proofs.Bits.{has_or, has_part, has_past, part_has, part_le}
use Rattle.sets.proofs.Parts.{meet_part, meet_part_left, one_le, one_part, parts_apart, rest_apart, rest_part}
use Rattle.plans.specs.Questions.{Question, across, all_tables, cost_of}
use Rattle.catalogue.specs.Within.{inside, near}
use Rattle.catalogue.specs.declared.cuts.Cut.{Cut}
use Rattle.catalogue.proofs.OneWay.{CostsBothWays}
use Rattle.catalogue.proofs.Inside.{across_given, across_one, inside_cut, inside_one}
use Rattle.catalogue.proofs.Near.{near_sum}

-- what stands where no set is listed
abbrev pub no_cut : Cut
no_cut = record { near = 0; inside = 0 }

-- the costs across are what the costs inside both have more than those inside either, of the given tables
pub cut_given : (Q : Question) → CostsBothWays Q → (all L B l b : ℕ) → all ≡ all_tables Q → bit_and L B ≡ 0 → l ≡ bit_and L all → b ≡ bit_and B all
    → (bit_or l b ≤ all) × (inside Q (bit_or l b) ≡ inside Q l + inside Q b + across Q L B)
cut_given Q both_ways all L B l b given apart le be =
    (few, omega (arith, ap (inside Q) (or_disjoint l b sides), inside_cut Q both_ways l b sides, same))
  where
    within : (x y : ℕ) → x ≡ bit_and y all → (x ⊆ y) × (x ⊆ all)
    within x y e = (subst (λ (n : ℕ). n ⊆ y) (sym e) (meet_part_left y all), subst (λ (n : ℕ). n ⊆ all) (sym e) (meet_part y all))

    sides : bit_and l b ≡ 0
    sides = parts_apart l b L B (within l L le).0 (within b B be).0 apart

    few : bit_or l b ≤ all
    few = part_le (bit_or l b) all (has_part (bit_or l b) all (λ i e.
        ⊎_elim (part_has l all i (within l L le).1) (part_has b all i (within b B be).1) (or_cases (has l i) (has b i) (sym (has_or l b i) ∙ e))))

    same : across Q l b ≡ across Q L B
    same = ap₂ (across Q) (le ∙ ap (bit_and L) given) (be ∙ ap (bit_and B) given) ∙ across_given Q L B

module _ (Q : Question) (R t r : ℕ) (in_set : has R t ≡ true) (rest_is : r ≡ R - 2 ^ t) where
  whole : r + 2 ^ t ≡ R
  whole = omega (arith, one_le R t in_set)

  apart : bit_and (2 ^ t) r ≡ 0
  apart = ap (bit_and (2 ^ t)) rest_is ∙ rest_apart (2 ^ t) R (one_part R t in_set)

  t_given : R ≤ all_tables Q → t < Q.count
  t_given given = ⊎_elim (λ l. l) (λ l. absurd (true≢false (sym in_set ∙ has_past Q.count R t (omega (arith, pow_pos Q.count)) l))) (cases_lt t Q.count)

  pub rest_below : r < R
  rest_below = omega (arith, whole, pow_pos t)

  pub one_alone : (o : ℕ) → o ≡ R - bit_and R r → o ≡ 2 ^ t
  one_alone o e =
      let part : bit_and R r ≡ r = and_comm R r ∙ subst (λ (x : ℕ). bit_and x R ≡ x) (sym rest_is) (rest_part (2 ^ t) R (one_part R t in_set)) in
      omega (arith, whole)

  pub one_below : (r ≡ 0 → ⊥) → 2 ^ t < R
  one_below some = omega (arith, whole, some)

  pub near_from : (m n : ℕ) → m ≡ near Q r → n ≡ near Q (2 ^ t) → bit_or m n ≡ near Q R
  near_from m n e f = ap₂ bit_or e f ∙ sym (near_sum Q r (2 ^ t) (and_comm r (2 ^ t) ∙ apart)) ∙ ap (near Q) whole

  pub inside_from : R ≤ all_tables Q → CostsBothWays Q → (n v : ℕ) → n ≡ inside Q r → v ≡ sum_below (λ j. cond (has r j) (cost_of Q t j) 0) Q.count → n + v ≡ inside Q R
  inside_from given both_ways n v e sum =
      let turned : 2 ^ t + r ≡ R = omega (arith, whole) in
      omega (arith, across_one Q t r (t_given given), inside_cut Q both_ways (2 ^ t) r apart, inside_one Q t, ap (inside Q) turned)
