-- What a caller knows after a call, from the number of its refusal and from what it leaves.
use Rattle.std.proofs.Common.{◌≡◌, ℕ, ◌≤◌, cond, eqb, List, length, Ok, Err, Result, sym, refl, ap, ◌∙◌, subst, ⊎_elim, arith}
use Rattle.pricing.specs.Models.{Model, Lawful}
use Rattle.plans.specs.Questions.{Question as AskedQuestion}
use Rattle.plans.specs.Plans.{Plan}
use Rattle.plans.specs.Prices.{price}
use Rattle.plans.specs.Recurrence.{all_tries}
use Rattle.plans.specs.Spelling.{spelled}
use Rattle.catalogue.specs.Asked.{asked}
use Rattle.solver.specs.Solves.{enough, outcome, solve_number}
use Rattle.solver.specs.declared.solutions.SolveRefusal.{SolveRefusal}
use Rattle.solver.specs.declared.solutions.SolveRefusal.TheVariants.{NoTables, ListTooShort, NoPlan, PastCount}
use Rattle.pricing.specs.declared.models.PriceModel.{Ghosts}
use Rattle.planner.specs.declared.questions.Question.{Question}
use Rattle.planner.specs.Calls.{Answer, refused, solve_with, solved, tell_into, told}
use Rattle.planner.specs.Law.{ToldTrue}
use Rattle.planner.specs.Made.{Made}
use Rattle.planner.specs.States.{State, state_of}
use Rattle.planner.specs.Steps.{Solves, Step, Tells, with_plan}
use Rattle.planner.proofs.Promise.{gives, promised, solved_sound}

-- ---- a refusal is known by its number

solve_named : ℕ → SolveRefusal
solve_named n = cond (eqb n 11) NoTables (cond (eqb n 12) ListTooShort (cond (eqb n 13) NoPlan PastCount))

solve_back : (e : SolveRefusal) → solve_named (solve_number e) ≡ e
unfolding solve_named
solve_back NoTables = refl
solve_back ListTooShort = refl
solve_back NoPlan = refl
solve_back PastCount = refl

pub solve_known : (e f : SolveRefusal) → solve_number e ≡ solve_number f → e ≡ f
solve_known e f n = sym (solve_back e) ∙ ap solve_named n ∙ solve_back f

-- ---- a solve, and a tell after it

module _ {M P : Type 0} {G : Ghosts M P} (meaning : M → Model P) (laws : (x : M) → Lawful (meaning x)) (q r : Question M P G) (ps ss cs : ℕ) where
  -- A solve leaves tables, ties and tests as they are.
  pub solve_keeps : (a : Answer P) → Made meaning q (solve_with ps ss cs) a r → asked r.held.catalogue ≡ asked q.held.catalogue
  solve_keeps a made = gives (meaning q.model) (laws q.model) (state_of q.held) (solve_with ps ss cs) a (state_of r.held) made.step

  -- What a tell answers after a solve that answered is a cheapest plan, whatever was called before.
  pub solved_then_told : (tries buffer : ℕ) (v w : P) (bytes : List ℕ) → Made meaning q (solve_with ps ss cs) (solved tries v) r → Made meaning r (tell_into buffer) (told bytes w) r
      → ToldTrue (meaning q.model) (asked q.held.catalogue) bytes w
  solved_then_told tries buffer v w bytes made tell =
      let m = meaning q.model in
      let t = state_of r.held in
      let sound = solved_sound m (laws q.model) (state_of q.held) t ps ss cs tries v made.step in
      let step = subst (λ x. Step (meaning x) t (tell_into buffer) (told bytes w) t) made.model tell.step in
      subst (λ Q. ToldTrue m Q bytes w) (solve_keeps (solved tries v) made) (promised m (laws q.model) t (tell_into buffer) (told bytes w) t sound step bytes w refl)

-- ---- which plan that is

module _ {M P : Type 0} {G : Ghosts M P} (meaning : M → Model P) (q r : Question M P G) (ps ss cs : ℕ) where
  abbrev pub Found : Plan → Type 0
  Found p = outcome (meaning q.model) (asked q.held.catalogue) (enough (asked q.held.catalogue) ps ss cs) ≡ Ok p

  -- A solve that answered found the plan of the outcome, and that plan stands.
  pub solved_plan : (tries : ℕ) (v : P) → Made meaning q (solve_with ps ss cs) (solved tries v) r
      → (p : Plan) × Found p × (tries ≡ all_tries (meaning q.model) (asked q.held.catalogue)) × (state_of r.held ≡ with_plan (meaning q.model) (state_of q.held) p)
  solved_plan tries v made = go (outcome m Q (enough Q ps ss cs)) refl made.step
    where
      m : Model P
      m = meaning q.model

      Q : AskedQuestion
      Q = asked q.held.catalogue

      go : (o : Result Plan SolveRefusal) → outcome m Q (enough Q ps ss cs) ≡ o → Solves m (state_of q.held) (solved tries v) (state_of r.held) o
          → (p : Plan) × (outcome m Q (enough Q ps ss cs) ≡ Ok p) × (tries ≡ all_tries m Q) × (state_of r.held ≡ with_plan m (state_of q.held) p)
      go (Ok p) e x = let a = x.0 in (p, e, (cc), x.1)
      go (Err f) e x = let a = x.0 in let z : ◌≡◌ {A = ℕ} 0 1 = cc in absurd (omega arith)

  pub solve_refused : (e : SolveRefusal) → Made meaning q (solve_with ps ss cs) (refused (solve_number e)) r
      → outcome (meaning q.model) (asked q.held.catalogue) (enough (asked q.held.catalogue) ps ss cs) ≡ Err e
  solve_refused e made = go (outcome m Q (enough Q ps ss cs)) made.step
    where
      m : Model P
      m = meaning q.model

      Q : AskedQuestion
      Q = asked q.held.catalogue

      go : (o : Result Plan SolveRefusal) → Solves m (state_of q.held) (refused (solve_number e)) (state_of r.held) o → o ≡ Err e
      go (Ok p) x = let a = x.0 in let z : ◌≡◌ {A = ℕ} 0 1 = cc in absurd (omega arith)
      go (Err f) x = let a = x.0 in let n : solve_number f ≡ solve_number e = cc in ap Err (solve_known f e n)

  module _ (p : Plan) (stands : state_of r.held ≡ with_plan (meaning q.model) (state_of q.held) p) (buffer : ℕ) where
    tells : (a : Answer P) → Made meaning r (tell_into buffer) a r
        → Tells (meaning r.model) (state_of r.held) a (state_of r.held) buffer (with_plan (meaning q.model) (state_of q.held) p).standing
    tells a tell = subst (λ o. Tells (meaning r.model) (state_of r.held) a (state_of r.held) buffer o) (ap (λ (s : State P). s.standing) stands) tell.step

    -- A tell then answers that plan and its price, ..
    pub told_plan : (bytes : List ℕ) (w : P) → Made meaning r (tell_into buffer) (told bytes w) r
        → (bytes ≡ spelled p) × (w ≡ price (meaning q.model) (asked q.held.catalogue) p)
    told_plan bytes w tell = ⊎_elim
        (λ x. let a = x.1.0 in let z : ◌≡◌ {A = ℕ} 0 1 = cc in absurd (omega arith))
        (λ x. let a = x.1.0 in ((cc), (cc)))
        (tells (told bytes w) tell)

    -- .. and is not refused where there is room for it.
    pub tell_has_room : (n : ℕ) → length (spelled p) ≤ buffer → Made meaning r (tell_into buffer) (refused n) r → ⊥
    tell_has_room n room tell = ⊎_elim
        (λ x. let short = x.0 in omega (arith, short, room))
        (λ x. let a = x.1.0 in let z : ◌≡◌ {A = ℕ} 0 1 = cc in omega arith)
        (tells (refused n) tell)
