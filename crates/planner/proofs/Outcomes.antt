-- What solve's outcome says of the valid plans.
use Rattle.std.proofs.Common.{◌≡◌, ℕ, ◌<◌, Bool, true, false, cond, not, eqb, is_some, Some, None, Ok, Err, Option, sym, refl, ap, ◌∙◌, arith}
use Rattle.std.proofs.lemmas.Bool.{ne_eqb}
use Rattle.pricing.specs.Models.{Model, Lawful}
use Rattle.plans.specs.Questions.{Question, all_tables, all_tests}
use Rattle.plans.specs.Plans.{Plan}
use Rattle.plans.specs.Prices.{price}
use Rattle.plans.specs.Recurrence.{opt}
use Rattle.plans.specs.Statement.{Planned}
use Rattle.plans.proofs.Planned.{planned}
use Rattle.plans.proofs.Whole.{all_tests_part}
use Rattle.solver.specs.Solves.{outcome, whole_plan}
use Rattle.solver.specs.declared.solutions.SolveRefusal.TheVariants.{NoTables, ListTooShort, PastCount}
use Rattle.planner.specs.Law.{Cheapest, HasNoPlan, AllPast}

module _ {P : Type 0} (m : Model P) (Q : Question) where
  -- An outcome with a plan is the recurrence's plan of the whole question.
  pub plan_found : (room : Bool) (p : Plan) → outcome m Q room ≡ Ok p → opt m Q (all_tables Q) (all_tests Q) ≡ Some p
  plan_found room p = by_tables (eqb Q.count 0)
    where
      by_count : (far : Bool) (q : Plan) → opt m Q (all_tables Q) (all_tests Q) ≡ Some q → cond far (Err PastCount) (Ok q) ≡ Ok p → opt m Q (all_tables Q) (all_tests Q) ≡ Some p
      by_count true q found e = let z : ◌≡◌ {A = ℕ} 0 1 = cc in absurd (omega arith)
      by_count false q found e = cc

      by_plan : (b : Option Plan) → opt m Q (all_tables Q) (all_tests Q) ≡ b → whole_plan m Q b ≡ Ok p → opt m Q (all_tables Q) (all_tests Q) ≡ Some p
      by_plan None found e = let z : ◌≡◌ {A = ℕ} 0 1 = cc in absurd (omega arith)
      by_plan (Some q) found e = by_count (m.past (price m Q q)) q found e

      by_room : (b : Bool) → cond b (whole_plan m Q (opt m Q (all_tables Q) (all_tests Q))) (Err ListTooShort) ≡ Ok p → opt m Q (all_tables Q) (all_tests Q) ≡ Some p
      by_room true e = by_plan (opt m Q (all_tables Q) (all_tests Q)) refl e
      by_room false e = let z : ◌≡◌ {A = ℕ} 0 1 = cc in absurd (omega arith)

      by_tables : (none : Bool) → cond none (Err NoTables) (cond room (whole_plan m Q (opt m Q (all_tables Q) (all_tests Q))) (Err ListTooShort)) ≡ Ok p
          → opt m Q (all_tables Q) (all_tests Q) ≡ Some p
      by_tables true e = let z : ◌≡◌ {A = ℕ} 0 1 = cc in absurd (omega arith)
      by_tables false e = by_room room e

  -- With a table and rows enough the outcome is that of the whole question's plan.
  pub with_room : (room : Bool) → 0 < Q.count → room ≡ true → outcome m Q room ≡ whole_plan m Q (opt m Q (all_tables Q) (all_tests Q))
  with_room room some enough =
      ap (λ (b : Bool). cond b (Err NoTables) (cond room (whole_plan m Q (opt m Q (all_tables Q) (all_tests Q))) (Err ListTooShort))) (ne_eqb Q.count 0 (λ z. omega arith))
      ∙ ap (λ (b : Bool). cond b (whole_plan m Q (opt m Q (all_tables Q) (all_tests Q))) (Err ListTooShort)) enough

  module _ (laws : Lawful m) where
    by_theorem : Planned m Q
    by_theorem = planned m laws Q

    pub found_cheapest : (p : Plan) → opt m Q (all_tables Q) (all_tests Q) ≡ Some p → Cheapest m Q p (price m Q p)
    found_cheapest p found = record {
      valid = by_theorem.sound _ _ p (all_tests_part Q) found;
      paid = refl;
      least = λ q valid. ap not (by_theorem.cheapest _ _ p q found valid);
    }

    pub found_none : opt m Q (all_tables Q) (all_tests Q) ≡ None → HasNoPlan Q
    found_none none q valid =
        let k : false ≡ true = ap is_some (sym none) ∙ by_theorem.complete _ _ q valid in
        let z : ◌≡◌ {A = ℕ} 0 1 = ap (λ (b : Bool). cond b 1 0) k in
        omega (arith, z)

    pub found_past : (p : Plan) → opt m Q (all_tables Q) (all_tests Q) ≡ Some p → m.past (price m Q p) ≡ true → AllPast m Q
    found_past p found far q valid = by_theorem.past_all _ _ p q found far valid
