-- One row more.
use Rattle.std.proofs.Common.{◌≡◌, ℕ, ◌+◌, ◌<◌, Bool, false, cond, eqb, ◌≢◌, List, length, set, Some, None, Option, sym, refl, ap, ◌∙◌, subst, ap₂, ⊎_elim, arith}
use Rattle.std.specs.List.{slice_get}
use Rattle.std.proofs.lemmas.Bool.{cases_eq, cases_lt, and_from, ne_eqb}
use Rattle.pricing.specs.Models.{Model}
use Rattle.sets.specs.Sets.{has, ◌⊆◌}
use Rattle.sets.specs.Rows.{tests_on}
use Rattle.sets.proofs.Bits.{part_le, part_has, has_part, has_and}
use Rattle.sets.proofs.Parts.{part_chain, meet_part, meet_part_left}
use Rattle.sets.proofs.Positions.{place_smaller, place_fewer, place_same}
use Rattle.plans.specs.Questions.{Question, all_tests, size}
use Rattle.plans.specs.Plans.{Plan, bare, test, join, tables}
use Rattle.plans.specs.Prices.{price}
use Rattle.plans.specs.Recurrence.{opt, code}
use Rattle.plans.specs.Entries.{entry, row_entry}
use Rattle.plans.specs.declared.entries.Entry.{Entry}
use Rattle.plans.proofs.Rows.{Smaller}
use Rattle.plans.proofs.RowEntries.{Holds, entry_row}
use Rattle.solver.specs.Held.{as_entry, held, choice_of, priced}
use Rattle.solver.specs.Solved.{Own, place, Solved}
use Rattle.solver.proofs.Nth.{nth_set_same, nth_set_other}

-- ---- rows before

pub own_tables : (Q : Question) (R S : ℕ) → Own Q R S → S ⊆ R
own_tables Q R S h = part_chain S (tests_on (all_tests Q) R) R h (meet_part_left R (all_tests Q))

pub own_tests : (Q : Question) (R S : ℕ) → Own Q R S → S ⊆ all_tests Q
own_tests Q R S h = part_chain S (tests_on (all_tests Q) R) (all_tests Q) h (meet_part R (all_tests Q))

pub own_by : (Q : Question) (R S : ℕ) → S ⊆ R → S ⊆ all_tests Q → Own Q R S
own_by Q R S p q = has_part S (tests_on (all_tests Q) R) (λ i k. has_and R (all_tests Q) i ∙ and_from (has R i) (has (all_tests Q) i) (part_has S R i p k) (part_has S (all_tests Q) i q k))

smaller_own : (Q : Question) (R S R' S' : ℕ) → Own Q R S → Smaller R S R' S' → Own Q R' S'
smaller_own Q R S R' S' h l =
    own_by Q R' S' (l.own (own_tables Q R S h)) (part_chain S' S (all_tests Q) l.tests_of (own_tests Q R S h))

smaller_before : (Q : Question) (R S R' S' : ℕ) → Own Q R S → Smaller R S R' S' → place Q R' S' < place Q R S
smaller_before Q R S R' S' h l = ⊎_elim
    (λ lt. place_smaller (all_tests Q) R' R S' S lt)
    (λ ge.
    let same : R' ≡ R = omega (arith, part_le R' R l.tables_of) in
    let fewer : S' < S = omega (arith, same, l.less) in
    subst (λ (x : ℕ). place Q x S' < place Q R S) (sym same)
    (place_fewer (all_tests Q) R S' S (subst (λ (x : ℕ). Own Q x S') same (smaller_own Q R S R' S' h l)) h fewer))
    (cases_lt R' R)

-- ---- what is held

pub some_code : (p : Plan) → eqb (code (Some p)) 0 ≡ false
unfolding code
some_code (bare i) = refl
some_code (test i p) = ne_eqb (256 + i) 0 (omega arith)
some_code (join l r) = ne_eqb (4096 + tables l) 0 (omega arith)

module _ {P : Type 0} (m : Model P) (Q : Question) (p : ℕ) (prices₀ prices : List P) (sizes₀ sizes choices₀ choices : List ℕ)
    (h : Solved m Q p prices₀ prices sizes₀ sizes choices₀ choices) where
  held_entry : (R S : ℕ) → Own Q R S → place Q R S < p → held prices choices (all_tests Q) R S ≡ entry m Q (opt m Q R S)
  unfolding held entry code
  held_entry R S o l = go (opt m Q R S) refl
    where
      none : (q : Option P) → as_entry q (Some 0) ≡ None
      none None = refl
      none (Some x) = refl

      go : (b : Option Plan) → opt m Q R S ≡ b → as_entry (slice_get prices (place Q R S)) (slice_get choices (place Q R S)) ≡ entry m Q b
      go None e = ap (as_entry (slice_get prices (place Q R S))) (h.choices_are R S o l ∙ ap (λ (x : Option Plan). Some (code x)) e) ∙ none (slice_get prices (place Q R S))
      go (Some b) e =
          ap₂ as_entry (h.prices_are R S b o l e) (h.choices_are R S o l ∙ ap (λ (x : Option Plan). Some (code x)) e)
          ∙ ap (λ (t : Bool). cond t None (Some (record { price = price m Q b; choice = code (Some b) }))) (some_code b)

  pub held_before : (R S : ℕ) → Own Q R S → place Q R S ≡ p → Holds m Q (held prices choices (all_tests Q)) R S
  held_before R S o e R' S' l = held_entry R' S' (smaller_own Q R S R' S' o l) (omega (arith, smaller_before Q R S R' S' o l, e))

-- ---- one row more

module _ {P : Type 0} (m : Model P) (Q : Question) where
  pub solved_none : (prices₀ prices : List P) (sizes₀ sizes choices₀ choices : List ℕ) (p : ℕ) → p ≡ 0 → prices ≡ prices₀ → sizes ≡ sizes₀ → choices ≡ choices₀
      → Solved m Q p prices₀ prices sizes₀ sizes choices₀ choices
  solved_none prices₀ prices sizes₀ sizes choices₀ choices p z ps ss cs = record {
    sizes_are = λ R S o l. absurd (omega arith);
    choices_are = λ R S o l. absurd (omega arith);
    prices_are = λ R S plan o l e. absurd (omega arith);
    prices_kept = λ R S o l e. absurd (omega arith);
    prices_rest = λ k l. ap (λ (x : List P). slice_get x k) ps;
    sizes_rest = λ k l. ap (λ (x : List ℕ). slice_get x k) ss;
    choices_rest = λ k l. ap (λ (x : List ℕ). slice_get x k) cs;
  }

  code_choice : (b : Option Plan) → choice_of (entry m Q b) ≡ code b
  unfolding entry code
  code_choice None = refl
  code_choice (Some b) = refl

  priced_other : (prices : List P) (p k : ℕ) (e : Option (Entry P)) → k ≢ p → slice_get (priced prices p e) k ≡ slice_get prices k
  priced_other prices p k None ne = refl
  priced_other prices p k (Some e) ne = nth_set_other prices p k e.price ne

  priced_none : (prices : List P) (p : ℕ) (b : Option Plan) → b ≡ None → priced prices p (entry m Q b) ≡ prices
  unfolding entry
  priced_none prices p b e = ap (λ (x : Option Plan). priced prices p (entry m Q x)) e

  priced_some : (prices : List P) (p : ℕ) (b : Option Plan) (plan : Plan) → b ≡ Some plan → p < length prices → slice_get (priced prices p (entry m Q b)) p ≡ Some (price m Q plan)
  unfolding entry
  priced_some prices p b plan e l = ap (λ (x : Option Plan). slice_get (priced prices p (entry m Q x)) p) e ∙ nth_set_same prices p (price m Q plan) l

  module _ (p : ℕ) (prices₀ prices : List P) (sizes₀ sizes choices₀ choices : List ℕ) (R S : ℕ)
      (h : Solved m Q p prices₀ prices sizes₀ sizes choices₀ choices) (o : Own Q R S) (at : place Q R S ≡ p) where
    -- what holds of the row at p, and of each before it, holds of each before p + 1
    each_row : (K : ℕ → ℕ → Type 0) → K R S → ((R' S' : ℕ) → Own Q R' S' → place Q R' S' < p → place Q R' S' ≢ p → K R' S') → (R' S' : ℕ) → Own Q R' S' → place Q R' S' < p + 1 → K R' S'
    each_row K new old R' S' o' l = ⊎_elim
        (λ same.
        let both = place_same (all_tests Q) R' R S' S o' o (same ∙ sym at) in
        subst (λ (x : ℕ). K x S') (sym both.0) (subst (λ (y : ℕ). K R y) (sym both.1) new))
        (λ ne. old R' S' o' (omega (arith, ne)) ne)
        (cases_eq (place Q R' S') p)

    solved_by : p < length prices → p < length sizes → p < length choices
        → Solved m Q (p + 1) prices₀ (priced prices p (entry m Q (opt m Q R S))) sizes₀ (set sizes p (size Q R S)) choices₀ (set choices p (code (opt m Q R S)))
    solved_by lp ls lc = record {
      sizes_are = each_row (λ r s. slice_get (set sizes p (size Q R S)) (place Q r s) ≡ Some (size Q r s))
          (ap (slice_get (set sizes p (size Q R S))) at ∙ nth_set_same sizes p (size Q R S) ls)
          (λ r s w l ne. nth_set_other sizes p (place Q r s) (size Q R S) ne ∙ h.sizes_are r s w l);
      choices_are = each_row (λ r s. slice_get (set choices p (code (opt m Q R S))) (place Q r s) ≡ Some (code (opt m Q r s)))
          (ap (slice_get (set choices p (code (opt m Q R S)))) at ∙ nth_set_same choices p (code (opt m Q R S)) lc)
          (λ r s w l ne. nth_set_other choices p (place Q r s) (code (opt m Q R S)) ne ∙ h.choices_are r s w l);
      prices_are = λ r s plan w l. each_row (λ r s. opt m Q r s ≡ Some plan → slice_get (priced prices p (entry m Q (opt m Q R S))) (place Q r s) ≡ Some (price m Q plan))
          (λ b. ap (slice_get (priced prices p (entry m Q (opt m Q R S)))) at ∙ priced_some prices p (opt m Q R S) plan b lp)
          (λ r s w l ne b. priced_other prices p (place Q r s) (entry m Q (opt m Q R S)) ne ∙ h.prices_are r s plan w l b) r s w l;
      prices_kept = each_row (λ r s. opt m Q r s ≡ None → slice_get (priced prices p (entry m Q (opt m Q R S))) (place Q r s) ≡ slice_get prices₀ (place Q r s))
          (λ b. ap (λ (x : List P). slice_get x (place Q R S)) (priced_none prices p (opt m Q R S) b) ∙ h.prices_rest (place Q R S) (omega (arith, at)))
          (λ r s w l ne b. priced_other prices p (place Q r s) (entry m Q (opt m Q R S)) ne ∙ h.prices_kept r s w l b);
      prices_rest = λ k l. priced_other prices p k (entry m Q (opt m Q R S)) (omega arith) ∙ h.prices_rest k (omega arith);
      sizes_rest = λ k l. nth_set_other sizes p k (size Q R S) (omega arith) ∙ h.sizes_rest k (omega arith);
      choices_rest = λ k l. nth_set_other choices p k (code (opt m Q R S)) (omega arith) ∙ h.choices_rest k (omega arith);
    }

    -- The row's entry, from the rows before it, is that of its plan.
    pub entry_right : (e : Option (Entry P)) → e ≡ row_entry m Q (held prices choices (all_tests Q)) R S → e ≡ entry m Q (opt m Q R S)
    entry_right e v =
        v ∙ sym (entry_row m Q (held prices choices (all_tests Q)) R S (own_tables Q R S o) (held_before m Q p prices₀ prices sizes₀ sizes choices₀ choices h R S o at))

    pub solved_more : (e : Option (Entry P)) → p < length prices → p < length sizes → p < length choices
        → e ≡ row_entry m Q (held prices choices (all_tests Q)) R S
        → Solved m Q (p + 1) prices₀ (priced prices p e) sizes₀ (set sizes p (size Q R S)) choices₀ (set choices p (choice_of e))
    solved_more e lp ls lc v =
        let right = entry_right e v in
        subst (λ x. Solved m Q (p + 1) prices₀ (priced prices p x) sizes₀ (set sizes p (size Q R S)) choices₀ (set choices p (choice_of x))) (sym right)
        (subst (λ (n : ℕ). Solved m Q (p + 1) prices₀ (priced prices p (entry m Q (opt m Q R S))) sizes₀ (set sizes p (size Q R S)) choices₀ (set choices p n)) (sym (code_choice (opt m Q R S)))
        (solved_by lp ls lc))
