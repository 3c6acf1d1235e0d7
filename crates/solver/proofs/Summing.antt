-- The tries of the rows before a place.
use Rattle.std.proofs.Common.{◌≡◌, ℕ, zero, suc, ◌+◌, ◌^◌, ◌<◌, Bool, true, false, cond, ltb, ◌≢◌, ◌⊎◌, sym, refl, ap, ◌∙◌, subst, ap₂, inl, inr, arith}
use lib.Bits.{bit_and, and_comm}
use Rattle.std.proofs.lemmas.Bool.{cases_eq, eqb-true, eq-eqb, lt-ltb, le-ltb}
use Rattle.std.proofs.lemmas.Bool.Decides.{nat_tests}
use Rattle.pricing.specs.Models.{Model}
use Rattle.sets.specs.Sets.{◌⊆◌, within, sum_below}
use Rattle.sets.proofs.Positions.{place_same, place_lt}
use Rattle.sets.specs.Rows.{row_count}
use Rattle.plans.specs.Questions.{Question, tests_on, all_tests}
use Rattle.plans.specs.Recurrence.{tries, all_tries}
use Rattle.solver.specs.Solved.{Own, place}

-- ---- sums

sum_same : (f g : ℕ → ℕ) (n : ℕ) → ((i : ℕ) → i < n → f i ≡ g i) → sum_below f n ≡ sum_below g n
unfolding sum_below
sum_same f g zero h = refl
sum_same f g (suc n) h = ap₂ ◌+◌ (sum_same f g n (λ i l. h i (omega arith))) (h n (omega arith))

-- one number more, at k
sum_one : (f g : ℕ → ℕ) (n k d : ℕ) → k < n → g k ≡ f k + d → ((i : ℕ) → i < n → i ≢ k → g i ≡ f i) → sum_below g n ≡ sum_below f n + d
unfolding sum_below
sum_one f g zero k d l here other = absurd (omega arith)
sum_one f g (suc n) k d l here other = go (cases_eq k n) (λ j. sum_one f g n k d j here (λ i u v. other i (omega arith) v))
  where
    go : (k ≡ n) ⊎ (k ≡ n → ⊥) → (k < n → sum_below g n ≡ sum_below f n + d) → sum_below g n + g n ≡ sum_below f n + f n + d
    go (inl e) ih =
        let last : g n ≡ f n + d = subst (λ (x : ℕ). g x ≡ f x + d) e here in
        omega (arith, last, sum_same g f n (λ i u. other i (omega arith) (omega arith)))
    go (inr ne) ih = omega (arith, ih (omega (arith, ne)), other n (omega arith) (λ e. ne (sym e)))

sum_nothing : (n : ℕ) → sum_below (λ _. 0) n ≡ 0
unfolding sum_below
sum_nothing zero = refl
sum_nothing (suc n) = ap (λ (x : ℕ). x + 0) (sum_nothing n)

-- ---- tries

module _ {P : Type 0} (m : Model P) (Q : Question) where
  counted : (p R S : ℕ) → Bool → ℕ
  counted p R S own = elim own [ true ↦ cond (ltb (place Q R S) p) (tries m Q R S) 0 | false ↦ 0 ]

  cell : (p R S : ℕ) → ℕ
  cell p R S = counted p R S (within S (tests_on Q (all_tests Q) R))

  -- Those of the rows before p.
  pub tries_before : (p : ℕ) → ℕ
  tries_before p = sum_below (λ R. sum_below (cell p R) (2 ^ Q.count)) (2 ^ Q.count)

  own_of : (R S : ℕ) → within S (tests_on Q (all_tests Q) R) ≡ true → Own Q R S
  own_of R S e = subst (λ (n : ℕ). S ⊆ n) (and_comm (all_tests Q) R) (eqb-true (bit_and S (bit_and (all_tests Q) R)) S e)

  within_of : (R S : ℕ) → Own Q R S → within S (tests_on Q (all_tests Q) R) ≡ true
  within_of R S o = eq-eqb (bit_and S (bit_and (all_tests Q) R)) S (subst (λ (n : ℕ). S ⊆ n) (and_comm R (all_tests Q)) o)

  later : (p x t : ℕ) → x ≢ p → cond (ltb x (p + 1)) t 0 ≡ cond (ltb x p) t 0
  later p x t ne = grind (arith, nat_tests)

  module _ (p R S : ℕ) (o : Own Q R S) (at : place Q R S ≡ p) where
    here : cell (p + 1) R S ≡ cell p R S + tries m Q R S
    unfolding cell counted
    here =
        let w = within_of R S o in
        let now_in : ltb (place Q R S) (p + 1) ≡ true = lt-ltb (place Q R S) (p + 1) (omega (arith, at)) in
        let not_yet : ltb (place Q R S) p ≡ false = le-ltb (place Q R S) p (omega (arith, at)) in
        ap (counted (p + 1) R S) w ∙ ap (λ (b : Bool). cond b (tries m Q R S) 0) now_in
        ∙ sym (ap (λ (n : ℕ). n + tries m Q R S) (ap (counted p R S) w ∙ ap (λ (b : Bool). cond b (tries m Q R S) 0) not_yet) ∙ (let z : 0 + tries m Q R S ≡ tries m Q R S = omega arith in z))

    elsewhere : (R' S' : ℕ) → ((R' ≡ R) × (S' ≡ S) → ⊥) → cell (p + 1) R' S' ≡ cell p R' S'
    unfolding cell counted
    elsewhere R' S' ne = go (within S' (tests_on Q (all_tests Q) R')) refl
      where
        go : (b : Bool) → within S' (tests_on Q (all_tests Q) R') ≡ b → counted (p + 1) R' S' b ≡ counted p R' S' b
        go true e = later p (place Q R' S') (tries m Q R' S') (λ same. ne (place_same (all_tests Q) R' R S' S (own_of R' S' e) o (same ∙ sym at)))
        go false e = refl

    pub tries_more : R < 2 ^ Q.count → S < 2 ^ Q.count → tries_before (p + 1) ≡ tries_before p + tries m Q R S
    unfolding tries_before
    tries_more lr ls =
        sum_one (λ r. sum_below (cell p r) (2 ^ Q.count)) (λ r. sum_below (cell (p + 1) r) (2 ^ Q.count)) (2 ^ Q.count) R (tries m Q R S) lr
        (sum_one (cell p R) (cell (p + 1) R) (2 ^ Q.count) S (tries m Q R S) ls here (λ s l ne. elsewhere R s (λ both. ne both.1)))
        (λ r l ne. sum_same (cell (p + 1) r) (cell p r) (2 ^ Q.count) (λ s k. elsewhere r s (λ both. ne both.0)))

  none_before : (R S : ℕ) (b : Bool) → counted 0 R S b ≡ 0
  unfolding counted
  none_before R S true = ap (λ (b : Bool). cond b (tries m Q R S) 0) (le-ltb (place Q R S) 0 (omega arith))
  none_before R S false = refl

  pub tries_none : tries_before 0 ≡ 0
  unfolding tries_before cell
  tries_none =
      sum_same (λ R. sum_below (cell 0 R) (2 ^ Q.count)) (λ _. 0) (2 ^ Q.count)
      (λ R l. sum_same (cell 0 R) (λ _. 0) (2 ^ Q.count) (λ S k. none_before R S (within S (tests_on Q (all_tests Q) R))) ∙ sum_nothing (2 ^ Q.count))
      ∙ sum_nothing (2 ^ Q.count)

  all_before : (p R S : ℕ) (b : Bool) → place Q R S < p → counted p R S b ≡ elim b as (λ _. ℕ) [ true ↦ tries m Q R S | false ↦ 0 ]
  unfolding counted
  all_before p R S true l = ap (λ (b : Bool). cond b (tries m Q R S) 0) (lt-ltb (place Q R S) p l)
  all_before p R S false l = refl

  pub tries_all : all_tests Q < 2 ^ Q.count → tries_before (row_count Q.count (all_tests Q)) ≡ all_tries m Q
  unfolding tries_before cell all_tries
  tries_all given =
      sum_same _ _ (2 ^ Q.count) (λ R l. sum_same _ _ (2 ^ Q.count) (λ S k.
      all_before (row_count Q.count (all_tests Q)) R S (within S (tests_on Q (all_tests Q) R)) (place_lt Q.count (all_tests Q) R S given l)))
