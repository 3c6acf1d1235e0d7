-- What solve answers is a cheapest plan.
use Rattle.std.proofs.Common.{◌≡◌, ℕ, Bool, true, false, cond, T, eqb, is_some, Some, None, Ok, Err, Option, Result, sym, refl, ap, ◌∙◌, subst, arith, eqb→eq}
use Rattle.pricing.specs.Models.{Model, Lawful}
use Rattle.plans.specs.Questions.{Question, all_tables, all_tests}
use Rattle.plans.specs.Plans.{Plan}
use Rattle.plans.specs.Prices.{price}
use Rattle.plans.specs.Recurrence.{opt}
use Rattle.plans.specs.Statement.{Planned}
use Rattle.plans.proofs.Planned.{planned}
use Rattle.plans.proofs.Whole.{all_tests_part}
use Rattle.solver.specs.Solves.{Answers, Cheapest, Tells, Whole, outcome, whole_plan}
use Rattle.solver.specs.declared.solutions.Solution.{Solution}
use Rattle.solver.specs.declared.solutions.SolveRefusal.{SolveRefusal}
use Rattle.solver.specs.declared.solutions.SolveRefusal.TheVariants.{NoTables, ListTooShort, NoPlan, PastCount}

module _ {P : Type 0} (m : Model P) (laws : Lawful m) (Q : Question) where
  by_theorem : Planned m Q
  by_theorem = planned m laws Q

  refused : (e f : SolveRefusal) → f ≡ e → Cheapest m Q (Err e) → Cheapest m Q (Err f)
  refused e f same c = subst (λ (x : SolveRefusal). Cheapest m Q (Err x)) (sym same) c

  told : (p : Plan) (s : Solution P) → opt m Q (all_tables Q) (all_tests Q) ≡ Some p → m.past (price m Q p) ≡ false → Tells m Q p s → Cheapest m Q (Ok s)
  told p s found near t = (
    p,
    by_theorem.sound _ _ p (all_tests_part Q) found,
    t.bytes,
    t.price_is,
    ap m.past t.price_is ∙ near,
    λ q valid. ap (λ (x : P). m.at_most x (price m Q q)) t.price_is ∙ by_theorem.cheapest _ _ p q found valid,
  )

  module _ (p : Plan) (found : opt m Q (all_tables Q) (all_tests Q) ≡ Some p) where
    by_count : (far : Bool) → m.past (price m Q p) ≡ far → (r : Result (Solution P) SolveRefusal) → Answers m Q (cond far (Err PastCount) (Ok p)) r → Cheapest m Q r
    by_count true far (Ok s) a = absurd a
    by_count true far (Err f) a = refused PastCount f a (λ q valid. by_theorem.past_all _ _ p q found far valid)
    by_count false near (Ok s) a = told p s found near a
    by_count false near (Err f) a = absurd a

  no_valid : opt m Q (all_tables Q) (all_tests Q) ≡ None → (q : Plan) → Whole m Q q → ⊥
  no_valid none q valid =
      let k : false ≡ true = ap is_some (sym none) ∙ by_theorem.complete _ _ q valid in
      let z : ◌≡◌ {A = ℕ} 0 1 = ap (λ (b : Bool). cond b 1 0) k in
      omega (arith, z)

  by_plan : (b : Option Plan) → opt m Q (all_tables Q) (all_tests Q) ≡ b → (r : Result (Solution P) SolveRefusal) → Answers m Q (whole_plan m Q b) r → Cheapest m Q r
  by_plan None none (Ok s) a = absurd a
  by_plan None none (Err f) a = refused NoPlan f a (no_valid none)
  by_plan (Some p) found r a = by_count p found (m.past (price m Q p)) refl r a

  by_room : (room : Bool) (r : Result (Solution P) SolveRefusal) → Answers m Q (cond room (whole_plan m Q (opt m Q (all_tables Q) (all_tests Q))) (Err ListTooShort)) r → Cheapest m Q r
  by_room true r a = by_plan (opt m Q (all_tables Q) (all_tests Q)) refl r a
  by_room false (Ok s) a = absurd a
  by_room false (Err f) a = refused ListTooShort f a tt

  pub never_undercut : (room : Bool) (r : Result (Solution P) SolveRefusal) → Answers m Q (outcome m Q room) r → Cheapest m Q r
  never_undercut room r a = by_tables (eqb Q.count 0) refl r a
    where
      by_tables : (none : Bool) → eqb Q.count 0 ≡ none → (r : Result (Solution P) SolveRefusal)
          → Answers m Q (cond none (Err NoTables) (cond room (whole_plan m Q (opt m Q (all_tables Q) (all_tests Q))) (Err ListTooShort))) r → Cheapest m Q r
      by_tables true none (Ok s) a = absurd a
      by_tables true none (Err f) a = refused NoTables f a (eqb→eq Q.count 0 (subst T (sym none) tt))
      by_tables false some r a = by_room room r a
