-- The choices of the recurrence lead to its plans.
use Rattle.std.proofs.Common.{◌≡◌, ℕ, ◌+◌, ◌-◌, ◌^◌, ◌≤◌, List, length, Some, None, Option, refl, ap, ◌∙◌, arith, pow_pos}
use lib.Bits.{bit_and}
use Rattle.sets.proofs.Bits.{part_le}
use Rattle.sets.proofs.Parts.{meet_part, part_self, part_chain}
use Rattle.pricing.specs.Models.{Model}
use Rattle.plans.specs.Questions.{Question, all_tables, all_tests}
use Rattle.plans.specs.Plans.{Plan, bare, test, join}
use Rattle.plans.specs.Recurrence.{opt, code}
use Rattle.plans.proofs.Rows.{Smaller, left_smaller, right_smaller, test_smaller, opt_comes}
use Rattle.plans.proofs.Optimal.{sound}
use Rattle.plans.proofs.Whole.{all_tests_part}
use Rattle.readoff.specs.Leads.{Leads}
use Rattle.readoff.specs.Statement.{RowOf, LeadsToPlans}
use Rattle.readoff.specs.Written.{Front, ReadOff}
use Rattle.readoff.proofs.Leading.{nothing_led}
use Rattle.readoff.proofs.Codes.{zero_nothing}
use Rattle.readoff.proofs.Short.{within_58}

smaller_row : (Q : Question) (R S R' S' : ℕ) → RowOf Q R S → Smaller R S R' S' → RowOf Q R' S'
smaller_row Q R S R' S' w d = record {
  given = omega (arith, part_le R' R d.tables_of, w.given);
  own = d.own w.own;
  tests = part_chain S' S (all_tests Q) d.tests_of w.tests;
}

pub plans_led_to : {P : Type 0} (m : Model P) (Q : Question) → LeadsToPlans m Q
unfolding Leads code
plans_led_to m Q choice chosen R S p = go p R S
  where
    go : (p : Plan) (R S : ℕ) → RowOf Q R S → opt m Q R S ≡ Some p → Leads choice R S p
    go (bare i) R S w o =
        let c = opt_comes m Q R S (bare i) o in
        record { chosen = chosen R S w ∙ ap code o; alone = c.1; untested = c.2 }
    go (test i p) R S w o =
        let c = opt_comes m Q R S (test i p) o in
        let d = test_smaller R S i c.1 in
        (record { chosen = chosen R S w ∙ ap code o; there = c.1 }, go p R (S - 2 ^ i) (smaller_row Q R S R (S - 2 ^ i) w d) c.3)
    go (join l r) R S w o =
        let c = opt_comes m Q R S (join l r) o in
        let L = c.0 in
        let s = c.1 in
        let v = sound m Q L (bit_and S L) l (meet_part S L) c.2 in (
          L,
          record { chosen = chosen R S w ∙ ap code o ∙ ap (λ (n : ℕ). 4096 + n) v.just_tables; part = s.part; some = s.some; proper = s.proper },
          go l L (bit_and S L) (smaller_row Q R S _ _ w (left_smaller Q R S L s)) c.2,
          go r (R - L) (bit_and S (R - L)) (smaller_row Q R S _ _ w (right_smaller Q R S L s)) c.3,
        )

-- ---- for a solver

pub whole_row : (Q : Question) → RowOf Q (all_tables Q) (all_tests Q)
whole_row Q = record { given = omega (arith, pow_pos Q.count); own = all_tests_part Q; tests = part_self (all_tests Q) }

-- Read into 58 bytes or more, the plan of a row is written.
pub plan_written : {P : Type 0} (m : Model P) (Q : Question) (choice : ℕ → ℕ → ℕ) → ((R S : ℕ) → RowOf Q R S → choice R S ≡ code (opt m Q R S))
    → (R S : ℕ) (p : Plan) (before after : List ℕ) (answer : Option ℕ) → Q.count ≤ 10 → RowOf Q R S → opt m Q R S ≡ Some p → 58 ≤ length before
    → ReadOff choice R S before after answer → Front p before after answer
plan_written m Q choice chosen R S p before after answer few w o room r =
    let short = within_58 Q p few (sound m Q R S p w.own o).formed in
    r.written p (plans_led_to m Q choice chosen R S p w o) (omega arith)

-- A row without a choice has no answer.
pub none_read : (choice : ℕ → ℕ → ℕ) (R S : ℕ) (before after : List ℕ) (answer : Option ℕ) → choice R S ≡ 0 → ReadOff choice R S before after answer
    → answer ≡ None
none_read choice R S before after None e r = refl
none_read choice R S before after (Some n) e r =
    let d = r.led n refl in
    absurd (nothing_led choice R S (zero_nothing (choice R S) R S e) d.0 d.1)
