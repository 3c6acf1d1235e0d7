-- The law over runs: a plan that stands is a cheapest one of the question as it stands.
use Rattle.std.proofs.Common.{◌≡◌, ℕ, ◌<◌, Bool, true, false, cond, List, [], ◌∷◌, ◌++◌, Some, None, Ok, Err, Option, Result, sym, refl, ap, ◌∙◌, subst, ⊎_elim, arith}
use Rattle.pricing.specs.Models.{Model, Lawful}
use Rattle.plans.specs.Questions.{Question, all_tables, all_tests}
use Rattle.plans.specs.Plans.{Plan, Answers}
use Rattle.plans.specs.Prices.{price}
use Rattle.plans.specs.Recurrence.{all_tries, opt}
use Rattle.catalogue.specs.Changes.{tabled, tied, tested, corrected}
use Rattle.catalogue.specs.declared.refusals.ChangeRefusal.{ChangeRefusal}
use Rattle.solver.specs.Solves.{enough, outcome, whole_plan}
use Rattle.solver.specs.declared.solutions.SolveRefusal.{SolveRefusal}
use Rattle.solver.specs.declared.solutions.SolveRefusal.TheVariants.{PastCount}
use Rattle.planner.specs.Calls.{Call, add_table, set_tie, set_test, correct_test, solve_with, tell_into, check_plan, Answer, solved, told, refused}
use Rattle.planner.specs.Given.{taken, after_call, given_by}
use Rattle.planner.specs.States.{State, Stood, fresh}
use Rattle.planner.specs.Steps.{Step, Changes, Solves, Tells, Checks, with_plan}
use Rattle.planner.specs.Law.{Run, Reached, Cheapest, ToldTrue, HasNoPlan, AllPast, Decided, Promise, Kept, Law}
use Rattle.planner.specs.Lent.{Lent, Works}
use Rattle.planner.proofs.Outcomes.{plan_found, with_room, found_cheapest, found_none, found_past}

-- What stands is a cheapest plan, at its price.
abbrev pub Stands : {P : Type 0} → Model P → Question → Option (Stood P) → Type 0
Stands m Q None = Unit {0}
Stands m Q (Some x) = ToldTrue m Q x.plan x.price

abbrev pub Sound : {P : Type 0} → Model P → State P → Type 0
Sound m s = Stands m s.question s.standing

module _ {P : Type 0} (m : Model P) (laws : Lawful m) where
  same : (s t : State P) → t ≡ s → Sound m s → Sound m t
  same s t e h = subst (λ u. Sound m u) (sym e) h

  -- ---- each call keeps it

  changes_stay : (s : State P) (a : Answer P) (t : State P) (b : Answer P) (o : Result Question ChangeRefusal) → Sound m s → Changes m s a t b o → Sound m t
  changes_stay s a t b (Ok Q) h x = subst (λ u. Sound m u) (sym x.1) tt
  changes_stay s a t b (Err e) h x = same s t x.1 h

  solves_stay : (s : State P) (a : Answer P) (t : State P) (room : Bool) (o : Result Plan SolveRefusal) → outcome m s.question room ≡ o → Sound m s → Solves m s a t o → Sound m t
  solves_stay s a t room (Ok p) e h x =
      subst (λ u. Sound m u) (sym x.1) (p, refl, found_cheapest m s.question laws p (plan_found m s.question room p e))
  solves_stay s a t room (Err f) e h x = same s t x.1 h

  -- After a solve that answered, whatever stood before.
  pub solved_sound : (s t : State P) (prices sizes choices tries : ℕ) (v : P) → Step m s (solve_with prices sizes choices) (solved tries v) t → Sound m t
  solved_sound s t prices sizes choices tries v = go (outcome m s.question (enough s.question prices sizes choices)) refl
    where
      go : (o : Result Plan SolveRefusal) → outcome m s.question (enough s.question prices sizes choices) ≡ o → Solves m s (solved tries v) t o → Sound m t
      go (Ok p) e x = subst (λ u. Sound m u) (sym x.1) (p, refl, found_cheapest m s.question laws p (plan_found m s.question _ p e))
      go (Err f) e x = let r = x.0 in let z : ◌≡◌ {A = ℕ} 0 1 = cc in absurd (omega arith)

  tells_stay : (s : State P) (a : Answer P) (t : State P) (buffer : ℕ) (o : Option (Stood P)) → Sound m s → Tells m s a t buffer o → Sound m t
  tells_stay s a t buffer None h x = same s t x.1 h
  tells_stay s a t buffer (Some y) h x = ⊎_elim (λ x. same s t x.1.1 h) (λ x. same s t x.1.1 h) x

  checks_stay : (s : State P) (a : Answer P) (t : State P) (bytes : List ℕ) (prices : ℕ) → Sound m s → Checks m s a t bytes prices → Sound m t
  checks_stay s a t bytes prices h =
      ⊎_elim (λ x. same s t x.1.1 h) (λ x.
      ⊎_elim (λ x. same s t x.1.1 h) (λ x.
      ⊎_elim (λ x. same s t x.1.1 h) (λ x. same s t x.1.2.1 h) x.1) x.1)

  pub stay : (s : State P) (c : Call) (a : Answer P) (t : State P) → Sound m s → Step m s c a t → Sound m t
  stay s (add_table rows) a t = changes_stay s a t _ (tabled s.question rows)
  stay s (set_tie i j p q cost) a t = changes_stay s a t _ (tied s.question i j p q cost)
  stay s (set_test i p q cost kind) a t = changes_stay s a t _ (tested s.question i p q cost kind)
  stay s (correct_test i by) a t = changes_stay s a t _ (corrected s.question i by)
  stay s (solve_with prices sizes choices) a t =
      let room = enough s.question prices sizes choices in solves_stay s a t room (outcome m s.question room) refl
  stay s (tell_into buffer) a t = tells_stay s a t buffer s.standing
  stay s (check_plan bytes prices) a t = checks_stay s a t bytes prices

  -- ---- the question that calls give

  changes_give : (s : State P) (a : Answer P) (t : State P) (b : Answer P) (o : Result Question ChangeRefusal) → Changes m s a t b o → t.question ≡ taken s.question o
  changes_give s a t b (Ok Q) x = ap (λ (u : State P). u.question) x.1
  changes_give s a t b (Err e) x = ap (λ (u : State P). u.question) x.1

  solves_give : (s : State P) (a : Answer P) (t : State P) (o : Result Plan SolveRefusal) → Solves m s a t o → t.question ≡ s.question
  solves_give s a t (Ok p) x = ap (λ (u : State P). u.question) x.1
  solves_give s a t (Err e) x = ap (λ (u : State P). u.question) x.1

  tells_give : (s : State P) (a : Answer P) (t : State P) (buffer : ℕ) (o : Option (Stood P)) → Tells m s a t buffer o → t.question ≡ s.question
  tells_give s a t buffer None x = ap (λ (u : State P). u.question) x.1
  tells_give s a t buffer (Some y) x = ⊎_elim (λ x. ap (λ (u : State P). u.question) x.1.1) (λ x. ap (λ (u : State P). u.question) x.1.1) x

  checks_give : (s : State P) (a : Answer P) (t : State P) (bytes : List ℕ) (prices : ℕ) → Checks m s a t bytes prices → t.question ≡ s.question
  checks_give s a t bytes prices =
      ⊎_elim (λ x. ap (λ (u : State P). u.question) x.1.1) (λ x.
      ⊎_elim (λ x. ap (λ (u : State P). u.question) x.1.1) (λ x.
      ⊎_elim (λ x. ap (λ (u : State P). u.question) x.1.1) (λ x. ap (λ (u : State P). u.question) x.1.2.1) x.1) x.1)

  pub gives : (s : State P) (c : Call) (a : Answer P) (t : State P) → Step m s c a t → t.question ≡ after_call s.question c
  gives s (add_table rows) a t = changes_give s a t _ (tabled s.question rows)
  gives s (set_tie i j p q cost) a t = changes_give s a t _ (tied s.question i j p q cost)
  gives s (set_test i p q cost kind) a t = changes_give s a t _ (tested s.question i p q cost kind)
  gives s (correct_test i by) a t = changes_give s a t _ (corrected s.question i by)
  gives s (solve_with prices sizes choices) a t = solves_give s a t (outcome m s.question (enough s.question prices sizes choices))
  gives s (tell_into buffer) a t = tells_give s a t buffer s.standing
  gives s (check_plan bytes prices) a t = checks_give s a t bytes prices

  run_gives : (calls : List Call) (answers : List (Answer P)) (s t : State P) → Run (Step m) s calls answers t → t.question ≡ given_by s.question calls
  run_gives [] [] s t r = ap (λ (u : State P). u.question) (sym r)
  run_gives [] (a ∷ rest) s t r = absurd r
  run_gives (c ∷ calls) [] s t r = absurd r
  run_gives (c ∷ calls) (a ∷ answers) s t r =
      run_gives calls answers r.0 t r.2 ∙ ap (λ (Q : Question). given_by Q calls) (gives s c a r.0 r.1)

  -- ---- the promises

  tells_true : (s : State P) (a : Answer P) (t : State P) (buffer : ℕ) (o : Option (Stood P)) → Stands m s.question o → Tells m s a t buffer o
      → (bytes : List ℕ) (v : P) → a ≡ told bytes v → ToldTrue m s.question bytes v
  tells_true s a t buffer None h x bytes v e = let r = x.0 in let z : ◌≡◌ {A = ℕ} 0 1 = cc in absurd (omega arith)
  tells_true s a t buffer (Some y) h x bytes v e = ⊎_elim
      (λ x. let r = x.1.0 in let z : ◌≡◌ {A = ℕ} 0 1 = cc in absurd (omega arith))
      (λ x.
      let r = x.1.0 in
      let same_price : y.price ≡ v = cc in
      let spelled_so = h.1 in
      (h.0, (cc), subst (λ w. Cheapest m s.question h.0 w) same_price h.2))
      x

  module _ (s : State P) (a : Answer P) (t : State P) where
    decided_none : HasNoPlan s.question → a ≡ refused 13 → Decided m s a t
    decided_none lacks r = record {
      none = λ _. lacks;
      none_only = λ _. r;
      past = λ e. let z : ◌≡◌ {A = ℕ} 13 14 = cc in absurd (omega arith);
      past_only = λ p valid _. absurd (lacks p valid);
      else = λ some _. absurd (some lacks);
    }

    decided_past : (p : Plan) → Answers s.question p → AllPast m s.question → a ≡ refused 14 → Decided m s a t
    decided_past p valid all r = record {
      none = λ e. let z : ◌≡◌ {A = ℕ} 13 14 = cc in absurd (omega arith);
      none_only = λ lacks. absurd (lacks p valid);
      past = λ _. ((p, valid), all);
      past_only = λ _ _ _. r;
      else = λ _ near. absurd (near all);
    }

    decided_found : (p : Plan) → Cheapest m s.question p (price m s.question p) → m.past (price m s.question p) ≡ false
        → a ≡ solved (all_tries m s.question) (price m s.question p) → t ≡ with_plan m s p → Decided m s a t
    decided_found p best near r e = record {
      none = λ f. let z : ◌≡◌ {A = ℕ} 0 1 = cc in absurd (omega arith);
      none_only = λ lacks. absurd (lacks p best.valid);
      past = λ f. let z : ◌≡◌ {A = ℕ} 0 1 = cc in absurd (omega arith);
      past_only = λ q valid all. let far = all p best.valid in let z : ◌≡◌ {A = ℕ} 0 1 = ap (λ (b : Bool). cond b 1 0) (sym near ∙ far) in absurd (omega (arith, z));
      else = λ _ _. (p, price m s.question p, r, e, best);
    }

    pub decided : (prices sizes choices : ℕ) → Step m s (solve_with prices sizes choices) a t
        → 0 < s.question.count → enough s.question prices sizes choices ≡ true → Decided m s a t
    decided prices sizes choices x some room =
        by_plan (opt m Q (all_tables Q) (all_tests Q)) refl (subst (λ o. Solves m s a t o) (with_room m Q (enough Q prices sizes choices) some room) x)
      where
        Q : Question
        Q = s.question

        by_count : (p : Plan) → opt m Q (all_tables Q) (all_tests Q) ≡ Some p → (far : Bool) → m.past (price m Q p) ≡ far
            → Solves m s a t (cond far (Err PastCount) (Ok p)) → Decided m s a t
        by_count p found true far x = decided_past p (found_cheapest m Q laws p found).valid (found_past m Q laws p found far) x.0
        by_count p found false near x = decided_found p (found_cheapest m Q laws p found) near x.0 x.1

        by_plan : (b : Option Plan) → opt m Q (all_tables Q) (all_tests Q) ≡ b → Solves m s a t (whole_plan m Q b) → Decided m s a t
        by_plan None none x = decided_none (found_none m Q laws none) x.0
        by_plan (Some p) found x = by_count p found (m.past (price m Q p)) refl x

  pub promised : (s : State P) (c : Call) (a : Answer P) (t : State P) → Sound m s → Step m s c a t → Promise m s c a t
  promised s (add_table rows) a t h x = tt
  promised s (set_tie i j p q cost) a t h x = tt
  promised s (set_test i p q cost kind) a t h x = tt
  promised s (correct_test i by) a t h x = tt
  promised s (solve_with prices sizes choices) a t h x = decided s a t prices sizes choices x
  promised s (tell_into buffer) a t h x = tells_true s a t buffer s.standing h x
  promised s (check_plan bytes prices) a t h x = tt

  -- ---- runs

  pub run_stays : (calls : List Call) (answers : List (Answer P)) (s t : State P) → Sound m s → Run (Step m) s calls answers t → Sound m t
  run_stays [] [] s t h r = subst (λ u. Sound m u) r h
  run_stays [] (a ∷ rest) s t h r = absurd r
  run_stays (c ∷ calls) [] s t h r = absurd r
  run_stays (c ∷ calls) (a ∷ answers) s t h r = run_stays calls answers r.0 t (stay s c a r.0 h r.1) r.2

  pub run_kept : (calls : List Call) (answers : List (Answer P)) (s t : State P) → Sound m s → Run (Step m) s calls answers t → Run (Kept m) s calls answers t
  run_kept [] [] s t h r = r
  run_kept [] (a ∷ rest) s t h r = r
  run_kept (c ∷ calls) [] s t h r = r
  run_kept (c ∷ calls) (a ∷ answers) s t h r =
      (r.0, (r.1, promised s c a r.0 h r.1), run_kept calls answers r.0 t (stay s c a r.0 h r.1) r.2)

  pub reached_sound : (s : State P) → Reached m s → Sound m s
  reached_sound s r = run_stays r.0 r.1 fresh s tt r.2

  pub law : Law m
  law = record {
    as_given = λ calls answers s r. run_gives calls answers fresh s r;
    told_true = λ calls answers s t buffer bytes v r x. tells_true s (told bytes v) t buffer s.standing (run_stays calls answers fresh s tt r) x bytes v refl;
    solved_right = λ calls answers s t prices sizes choices a r x. decided s a t prices sizes choices x;
    throughout = λ calls answers t r. run_kept calls answers fresh t tt r;
  }

-- One call more at the end.
pub run_more : {S C A : Type 0} (R : S → C → A → S → Type 0) (calls : List C) (answers : List A) (s t u : S) (c : C) (a : A)
    → Run R s calls answers t → R t c a u → Run R s (calls ++ c ∷ []) (answers ++ a ∷ []) u
run_more R [] [] s t u c a r x = (u, subst (λ v. R v c a u) (sym r) x, refl)
run_more R [] (_ ∷ _) s t u c a r x = absurd r
run_more R (_ ∷ _) [] s t u c a r x = absurd r
run_more R (_ ∷ calls) (_ ∷ answers) s t u c a r x = (r.0, r.1, run_more R calls answers r.0 t u c a r.2 x)

pub reached_more : {P : Type 0} (m : Model P) (s : State P) (c : Call) (a : Answer P) (t : State P) → Reached m s → Step m s c a t → Reached m t
reached_more m s c a t r x = (r.0 ++ c ∷ [], r.1 ++ a ∷ [], run_more (Step m) r.0 r.1 fresh s t c a r.2 x)

-- Of a run beside its lists, the calls alone.
pub run_alone : {P : Type 0} (m : Model P) (calls : List Call) (answers : List (Answer P)) (u v : State P × Lent P) → Run (Works m) u calls answers v → Run (Step m) u.0 calls answers v.0
run_alone {P} m [] [] u v r = ap (λ (w : State P × Lent P). w.0) r
run_alone m [] (a ∷ rest) u v r = absurd r
run_alone m (c ∷ calls) [] u v r = absurd r
run_alone m (c ∷ calls) (a ∷ answers) u v r = (r.0.0, r.1.0.0, run_alone m calls answers r.0 v r.2)
