-- The whole question's plan, from rows that are filled.
use Rattle.std.proofs.Common.{◌≡◌, ℕ, ◌^◌, ◌<◌, ◌≤◌, Bool, true, false, cond, List, length, take, drop, Some, None, Ok, Err, Option, Result, IsErrAnd, sym, refl, ap, ◌∙◌, subst, ap₂, arith, length-take-le, take_at, pow_pos}
use lib.Bits.{and_self}
use Rattle.std.specs.List.{slice_get}
use Rattle.std.specs.Option.{ok_or}
use Rattle.std.proofs.lemmas.Option.{get_or_from_slice_get}
use Rattle.buffers.specs.Written.{written as bytes_of}
use Rattle.pricing.specs.Models.{Model}
use Rattle.sets.specs.Rows.{place_of}
use Rattle.sets.proofs.Positions.{place_lt}
use Rattle.plans.specs.Questions.{Question, all_tables, all_tests}
use Rattle.plans.specs.Plans.{Plan}
use Rattle.plans.specs.Prices.{price}
use Rattle.plans.specs.Recurrence.{opt, code, all_tries}
use Rattle.plans.specs.Spelling.{spelled}
use Rattle.plans.proofs.Optimal.{sound}
use Rattle.plans.proofs.Whole.{all_tests_part}
use Rattle.readoff.specs.Leads.{choice_in, Leads}
use Rattle.readoff.specs.Written.{Front}
use Rattle.readoff.proofs.Following.{plans_led_to}
use Rattle.readoff.proofs.Short.{within_58}
use Rattle.solver.specs.Held.{price_at}
use Rattle.solver.specs.Solved.{Own, place}
use Rattle.solver.specs.Solves.{rows_of, Readable, whole_plan, Answers}
use Rattle.solver.specs.declared.solutions.Solution.{Solution}
use Rattle.solver.specs.declared.solutions.SolveRefusal.{SolveRefusal}
use Rattle.solver.specs.declared.solutions.SolveRefusal.TheVariants.{NoPlan, PastCount}
use Rattle.solver.proofs.Steps.{own_by, some_code}
use Rattle.solver.proofs.Turns.{tests_below}

-- ---- the whole question

module _ {P : Type 0} (m : Model P) (Q : Question) (prices : List P) (choices : List ℕ) (h : Readable m Q prices choices) where
  full_own : Own Q (all_tables Q) (all_tests Q)
  full_own = own_by Q (all_tables Q) (all_tests Q) (all_tests_part Q) (and_self (all_tests Q))

  full_given : all_tables Q < 2 ^ Q.count
  full_given = omega (arith, pow_pos Q.count)

  full_place : place Q (all_tables Q) (all_tests Q) < rows_of Q
  full_place = place_lt Q.count (all_tests Q) (all_tables Q) (all_tests Q) (tests_below Q) full_given

  -- The price of the whole question's plan stands at its place.
  stands : (p : Plan) → opt m Q (all_tables Q) (all_tests Q) ≡ Some p
      → price_at (slice_get prices (place Q (all_tables Q) (all_tests Q))) (slice_get choices (place Q (all_tables Q) (all_tests Q))) ≡ Some (price m Q p)
  stands p e =
      ap₂ price_at (h.prices_are _ _ p full_own full_place e) (h.choices_are _ _ full_own full_place ∙ ap (λ (b : Option Plan). Some (code b)) e)
      ∙ ap (λ (b : Bool). cond b None (Some (price m Q p))) (some_code p)

  no_price : (o : Option P) → price_at o (Some 0) ≡ None
  no_price None = refl
  no_price (Some v) = refl

  stands_not : opt m Q (all_tables Q) (all_tests Q) ≡ None → price_at (slice_get prices (place Q (all_tables Q) (all_tests Q))) (slice_get choices (place Q (all_tables Q) (all_tests Q))) ≡ None
  unfolding code
  stands_not e =
      ap (price_at (slice_get prices (place Q (all_tables Q) (all_tests Q)))) (h.choices_are _ _ full_own full_place ∙ ap (λ (b : Option Plan). Some (code b)) e)
      ∙ no_price (slice_get prices (place Q (all_tables Q) (all_tests Q)))

  abbrev pub At : Option P → Type 0
  At o = o ≡ price_at (slice_get prices (place Q (all_tables Q) (all_tests Q))) (slice_get choices (place Q (all_tables Q) (all_tests Q)))

  leads : (p : Plan) → opt m Q (all_tables Q) (all_tests Q) ≡ Some p → Leads (choice_in choices (all_tests Q)) (all_tables Q) (all_tests Q) p
  leads p e =
      plans_led_to m Q (choice_in choices (all_tests Q))
      (λ r s row. get_or_from_slice_get choices (place Q r s) (code (opt m Q r s)) 0
      (h.choices_are r s (own_by Q r s row.own row.tests) (place_lt Q.count (all_tests Q) r s (tests_below Q) row.given)))
      (all_tables Q) (all_tests Q) p (record { given = full_given; own = all_tests_part Q; tests = and_self (all_tests Q) }) e

  -- The plan that is there has the price that was found.
  found : (v : P) → At (Some v) → (b : Option Plan) → opt m Q (all_tables Q) (all_tests Q) ≡ b → (p : Plan) × (b ≡ Some p) × (v ≡ price m Q p)
  found v e None o = let k : ◌≡◌ {A = Option P} (Some v) None = e ∙ stands_not o in let z : ◌≡◌ {A = ℕ} 0 1 = cc in absurd (omega arith)
  found v e (Some p) o = let k : ◌≡◌ {A = Option P} (Some v) (Some (price m Q p)) = e ∙ stands p o in (p, refl, (cc))

  pub whole_none : At None → Answers m Q (whole_plan m Q (opt m Q (all_tables Q) (all_tests Q))) (Err NoPlan)
  whole_none e = go (opt m Q (all_tables Q) (all_tests Q)) refl
    where
      go : (b : Option Plan) → opt m Q (all_tables Q) (all_tests Q) ≡ b → Answers m Q (whole_plan m Q b) (Err NoPlan)
      go None o = refl
      go (Some p) o = let k : ◌≡◌ {A = Option P} None (Some (price m Q p)) = e ∙ stands p o in let z : ◌≡◌ {A = ℕ} 0 1 = cc in absurd (omega arith)

  pub whole_past : (v : P) → At (Some v) → true ≡ m.past v → Answers m Q (whole_plan m Q (opt m Q (all_tables Q) (all_tests Q))) (Err PastCount)
  whole_past v e far =
      let f = found v e _ refl in
      subst (λ (b : Option Plan). Answers m Q (whole_plan m Q b) (Err PastCount)) (sym f.1)
      (subst (λ (b : Bool). Answers m Q (cond b (Err PastCount) (Ok f.0)) (Err PastCount)) (far ∙ ap m.past f.2) refl)

  -- reading off writes the plan, which is short enough
  module _ (few : Q.count ≤ 10) (before after : List ℕ) (answer : Option ℕ) (room : length before ≡ 58)
      (written : (p : Plan) → Leads (choice_in choices (all_tests Q)) (all_tables Q) (all_tests Q) p → length (spelled p) ≤ length before → Front p before after answer) where
    front : (p : Plan) → opt m Q (all_tables Q) (all_tests Q) ≡ Some p → Front p before after answer
    front p e =
        let formed = (sound m Q (all_tables Q) (all_tests Q) p (all_tests_part Q) e).formed in
        written p (leads p e) (omega (arith, room, within_58 Q p few formed))

    pub whole_unread : (v : P) → At (Some v) → answer ≡ None → Answers m Q (whole_plan m Q (opt m Q (all_tables Q) (all_tests Q))) (Err NoPlan)
    whole_unread v e none =
        let f = found v e _ refl in
        let k : ◌≡◌ {A = Option ℕ} None (Some (length (spelled f.0))) = sym none ∙ (front f.0 f.1).number in
        let z : ◌≡◌ {A = ℕ} 0 1 = cc in
        absurd (omega arith)

    pub whole_told : (v : P) (s : Solution P) (n : ℕ) → At (Some v) → false ≡ m.past v → answer ≡ Some n → bytes_of s.plan ≡ take n after → s.price ≡ v → s.tries ≡ all_tries m Q
        → Answers m Q (whole_plan m Q (opt m Q (all_tables Q) (all_tests Q))) (Ok s)
    whole_told v s n e near found-len is price_is tries =
        let f = found v e _ refl in
        let p = f.0 in
        let w = front p f.1 in
        let same : ◌≡◌ {A = Option ℕ} (Some n) (Some (length (spelled p))) = sym found-len ∙ w.number in
        let len : n ≡ length (spelled p) = cc in
        let bytes : bytes_of s.plan ≡ spelled p = is ∙ ap (take n) w.holds ∙ take_at (spelled p) (drop (length (spelled p)) before) n (sym len) in
        let counted : s.plan.len ≤ length s.plan.room = omega (arith, s.plan.all, s.plan.within) in
        subst (λ (b : Option Plan). Answers m Q (whole_plan m Q b) (Ok s)) (sym f.1)
        (subst (λ (b : Bool). Answers m Q (cond b (Err PastCount) (Ok p)) (Ok s)) (near ∙ ap m.past f.2)
        (record {
          len = sym (length-take-le s.plan.len s.plan.room counted) ∙ ap length bytes;
          bytes = bytes;
          price_is = price_is ∙ f.2;
          tries = tries;
        }))

-- ---- the same, as the code names the whole row

pub full_at : (Q : Question) (T R place_found : ℕ) → T ≡ all_tests Q → R ≡ all_tables Q → place_found ≡ place_of T R T → place_found ≡ place Q (all_tables Q) (all_tests Q)
full_at Q T R k e f at = at ∙ ap (λ (t : ℕ). place_of t R t) e ∙ ap (λ (r : ℕ). place_of (all_tests Q) r (all_tests Q)) f

pub moved : {P : Type 0} (prices : List P) (choices : List ℕ) (k n : ℕ) (o : Option P) → k ≡ n → o ≡ price_at (slice_get prices k) (slice_get choices k) → o ≡ price_at (slice_get prices n) (slice_get choices n)
moved prices choices k n o e f = f ∙ ap (λ (i : ℕ). price_at (slice_get prices i) (slice_get choices i)) e

pub full_written : (Q : Question) (choices before after : List ℕ) (answer : Option ℕ) (T R : ℕ) → T ≡ all_tests Q → R ≡ all_tables Q
    → ((p : Plan) → Leads (choice_in choices T) R T p → length (spelled p) ≤ length before → Front p before after answer)
    → (p : Plan) → Leads (choice_in choices (all_tests Q)) (all_tables Q) (all_tests Q) p → length (spelled p) ≤ length before → Front p before after answer
full_written Q choices before after answer T R e f w p l =
    w p (subst (λ (r : ℕ). Leads (choice_in choices T) r T p) (sym f) (subst (λ (t : ℕ). Leads (choice_in choices t) (all_tables Q) t p) (sym e) l))

-- What `?` hands on where there was nothing.
pub no_plan : {A B : Type 0} (r : Result A SolveRefusal) (e : SolveRefusal) (o : Option B) → IsErrAnd r (λ x. x ≡ e) → ◌≡◌ {A = Result B SolveRefusal} (Err e) (ok_or o NoPlan) → o ≡ None → r ≡ Err NoPlan
no_plan (Ok a) e o h v none = absurd h
no_plan {B = B} (Err x) e o h v none =
    let w : ◌≡◌ {A = Result B SolveRefusal} (Err e) (Err NoPlan) = v ∙ ap (λ (p : Option B). ok_or p NoPlan) none in
    let s : e ≡ NoPlan = cc in
    ap Err (h ∙ s)
