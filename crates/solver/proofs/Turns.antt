-- One turn of the loop over the rows.
use Rattle.std.proofs.Common.{◌≡◌, ℕ, ◌+◌, ◌-◌, ◌^◌, ◌<◌, ◌≤◌, List, length, set, Some, None, Option, sym, refl, ap, ◌∙◌, subst, MatchOption, IsSomeAnd, ⊎_elim, arith, pow_pos}
use lib.Bits.{and_zero_l}
use Rattle.std.proofs.lemmas.Bool.{cases_lt}
use Rattle.pricing.specs.Models.{Model}
use Rattle.sets.specs.Rows.{NextRow, tests_on, row_count}
use Rattle.sets.specs.declared.rows.Row.{Row}
use Rattle.sets.proofs.Bits.{part_le}
use Rattle.sets.proofs.Positions.{place_set, place_start, place_end, more_rows}
use Rattle.plans.specs.Questions.{Question, all_tests, size}
use Rattle.plans.specs.Recurrence.{tries}
use Rattle.plans.specs.Entries.{row_entry}
use Rattle.plans.specs.declared.entries.Entry.{Entry}
use Rattle.plans.proofs.RowEntries.{tries_entry}
use Rattle.plans.proofs.Whole.{all_tests_part}
use Rattle.solver.specs.Held.{held, choice_of, priced, tries_by}
use Rattle.solver.specs.Ordered.{row_steps}
use Rattle.solver.specs.declared.ordered.Rows.{Rows}
use Rattle.solver.specs.Solved.{Own, place, Solved}
use Rattle.solver.proofs.Steps.{own_tables, held_before, solved_more}
use Rattle.solver.proofs.Summing.{tries_before, tries_more}

pub tests_below : (Q : Question) → all_tests Q < 2 ^ Q.count
tests_below Q = omega (arith, part_le (all_tests Q) (2 ^ Q.count - 1) (all_tests_part Q), pow_pos Q.count)

module _ {P : Type 0} (m : Model P) (Q : Question) (p : ℕ) (prices₀ prices : List P) (sizes₀ sizes choices₀ choices : List ℕ) (R S : ℕ)
    (h : Solved m Q p prices₀ prices sizes₀ sizes choices₀ choices) (o : Own Q R S) (at : place Q R S ≡ p) where
  pub solved_turn : (T : ℕ) (new_prices : List P) (new_sizes new_choices : List ℕ) → T ≡ all_tests Q
      → p < length prices → p < length sizes → p < length choices
      → new_prices ≡ priced prices p (row_entry m Q (held prices choices T) R S)
      → new_sizes ≡ set sizes p (size Q R S)
      → new_choices ≡ set choices p (choice_of (row_entry m Q (held prices choices T) R S))
      → Solved m Q (p + 1) prices₀ new_prices sizes₀ new_sizes choices₀ new_choices
  solved_turn T new_prices new_sizes new_choices tested lp ls lc vp vs vc =
      let e : Option (Entry P) = row_entry m Q (held prices choices (all_tests Q)) R S in
      let ps : priced prices p e ≡ new_prices = sym (vp ∙ ap (λ (t : ℕ). priced prices p (row_entry m Q (held prices choices t) R S)) tested) in
      let cs : set choices p (choice_of e) ≡ new_choices = sym (vc ∙ ap (λ (t : ℕ). set choices p (choice_of (row_entry m Q (held prices choices t) R S))) tested) in
      subst (λ x. Solved m Q (p + 1) prices₀ x sizes₀ new_sizes choices₀ new_choices) ps
      (subst (λ (x : List ℕ). Solved m Q (p + 1) prices₀ (priced prices p e) sizes₀ x choices₀ new_choices) (sym vs)
      (subst (λ (x : List ℕ). Solved m Q (p + 1) prices₀ (priced prices p e) sizes₀ (set sizes p (size Q R S)) choices₀ x) cs
      (solved_more m Q p prices₀ prices sizes₀ sizes choices₀ choices R S h o at e lp ls lc refl)))

  pub tries_turn : (T more made : ℕ) → T ≡ all_tests Q → p < row_count Q.count (all_tests Q) → made ≡ tries_before m Q p
      → more ≡ tries_by m Q (held prices choices T) R S → made + more ≡ tries_before m Q (p + 1)
  tries_turn T more made e l v w =
      let right : more ≡ tries m Q R S =
      w ∙ ap (λ (t : ℕ). tries_by m Q (held prices choices t) R S) e
      ∙ sym (tries_entry m Q (held prices choices (all_tests Q)) R S (own_tables Q R S o) (held_before m Q p prices₀ prices sizes₀ sizes choices₀ choices h R S o at)) in
      let few : R < 2 ^ Q.count = place_set Q.count (all_tests Q) R S (tests_below Q) (omega (arith, at)) in
      let fewer : S < 2 ^ Q.count = omega (arith, part_le S R (own_tables Q R S o)) in
      omega (arith, right, tries_more m Q p R S o at few fewer)

-- It is the row's turn at place p.
abbrev pub TurnAt : Question → (p : ℕ) → Row → Type 0
TurnAt Q p row = Own Q row.tables.bits row.tests.bits × (place Q row.tables.bits row.tests.bits ≡ p)

pub first_turn : (Q : Question) (first : Option Row) → IsSomeAnd first (λ row. (row.tables.bits ≡ 0) × (row.tests.bits ≡ 0)) → IsSomeAnd first (TurnAt Q 0)
first_turn Q None h = h
first_turn Q (Some row) h = (
  subst (λ (s : ℕ). Own Q row.tables.bits s) (sym h.1) (and_zero_l (tests_on (all_tests Q) row.tables.bits)),
  ap (λ (r : ℕ). place Q r row.tests.bits) h.0 ∙ ap (place Q 0) h.1 ∙ place_start (all_tests Q),
)

pub this_turn : (Q : Question) (p : ℕ) (next : Option Row) (row : Row) → Some row ≡ next → IsSomeAnd next (TurnAt Q p) → TurnAt Q p row
this_turn Q p next row e h = subst (λ (o : Option Row). IsSomeAnd o (TurnAt Q p)) (sym e) h

-- The row that follows, where there is one.
pub next_turn : (Q : Question) (row : Row) (s t : Rows) (p q rows : ℕ) → s.tested.bits ≡ all_tests Q → Q.count ≤ 10 → rows ≡ row_count Q.count (all_tests Q) → TurnAt Q p row → row_steps s (Some row) t
    → q ≡ p + 1 → q < rows → IsSomeAnd t.next (TurnAt Q q)
next_turn Q row s t p q rows e few all here step up more = go t.next
    (subst (λ (T : ℕ). MatchOption t.next ((row.tables.bits ≡ 1023) × (row.tests.bits ≡ tests_on T row.tables.bits)) (λ n. NextRow T row.tables.bits row.tests.bits n.tables.bits n.tests.bits)) e step.2)
  where
    go : (o : Option Row) → MatchOption o ((row.tables.bits ≡ 1023) × (row.tests.bits ≡ tests_on (all_tests Q) row.tables.bits)) (λ n. NextRow (all_tests Q) row.tables.bits row.tests.bits n.tables.bits n.tests.bits)
        → IsSomeAnd o (TurnAt Q q)
    go None last =
        let below : all_tests Q < 2 ^ 10 = omega (arith, e, s.tested.few) in
        absurd (omega (arith, more, up, here.1, all, place_end 10 (all_tests Q) row.tables.bits row.tests.bits below (omega (arith, last.0)) last.1, more_rows Q.count 10 (all_tests Q) few (tests_below Q)))
    go (Some n) h = (h.own, omega (arith, h.place here.0, here.1, up))

pub solved_end : {P : Type 0} (m : Model P) (Q : Question) (p q : ℕ) (prices₀ prices : List P) (sizes₀ sizes choices₀ choices : List ℕ) → p ≡ q
    → Solved m Q p prices₀ prices sizes₀ sizes choices₀ choices → Solved m Q q prices₀ prices sizes₀ sizes choices₀ choices
solved_end m Q p q prices₀ prices sizes₀ sizes choices₀ choices e = subst (λ (k : ℕ). Solved m Q k prices₀ prices sizes₀ sizes choices₀ choices) e

-- The same of lists that are equal.
pub solved_as : {P : Type 0} (m : Model P) (Q : Question) (p q : ℕ) (prices₀ a b : List P) (sizes₀ c d choices₀ e f : List ℕ) → p ≡ q → a ≡ b → c ≡ d → e ≡ f
    → Solved m Q p prices₀ a sizes₀ c choices₀ e → Solved m Q q prices₀ b sizes₀ d choices₀ f
solved_as m Q p q prices₀ a b sizes₀ c d choices₀ e f end ab cd ef s =
    solved_end m Q p q prices₀ b sizes₀ d choices₀ f end
    (subst (λ x. Solved m Q p prices₀ x sizes₀ d choices₀ f) ab
    (subst (λ (x : List ℕ). Solved m Q p prices₀ a sizes₀ x choices₀ f) cd
    (subst (λ (x : List ℕ). Solved m Q p prices₀ a sizes₀ c choices₀ x) ef s)))

-- The same of lists that were given and are equal.
pub solved_given : {P : Type 0} (m : Model P) (Q : Question) (p : ℕ) (a b prices : List P) (c d sizes e f choices : List ℕ) → a ≡ b → c ≡ d → e ≡ f
    → Solved m Q p a prices c sizes e choices → Solved m Q p b prices d sizes f choices
solved_given m Q p a b prices c d sizes e f choices ab cd ef s =
    subst (λ x. Solved m Q p x prices d sizes f choices) ab
    (subst (λ (x : List ℕ). Solved m Q p a prices x sizes f choices) cd
    (subst (λ (x : List ℕ). Solved m Q p a prices c sizes x choices) ef s))

-- Where no row comes, all have.
pub all_turns : (Q : Question) (p rows : ℕ) (next : Option Row) → p ≤ rows → (p < rows → IsSomeAnd next (TurnAt Q p)) → None ≡ next → p ≡ rows
all_turns Q p rows next l turn e = ⊎_elim
    (λ less. absurd (subst (λ (o : Option Row). IsSomeAnd o (TurnAt Q p)) (sym e) (turn less)))
    (λ all. omega (arith, l, all))
    (cases_lt p rows)
