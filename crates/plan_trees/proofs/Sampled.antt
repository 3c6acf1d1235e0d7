-- The calls of the sample lead to its question.
use Rattle.std.proofs.Common.{◌≡◌, ℕ, List, [], ◌∷◌, map, take, ap, ◌∙◌}
use Rattle.pricing.specs.Models.{Model, Lawful}
use Rattle.plans.specs.Questions.{tie_of}
use Rattle.catalogue.specs.Changes.{empty}
use Rattle.planner.specs.Calls.{Answer}
use Rattle.planner.specs.Given.{given_by}
use Rattle.planner.specs.Law.{Run, Reached}
use Rattle.planner.specs.Lent.{Lent, Works}
use Rattle.planner.specs.Replies.{call_of}
use Rattle.planner.specs.States.{State, fresh}
use Rattle.planner.specs.declared.calls.Call as code
use Rattle.planner.specs.declared.calls.Call.TheVariants.{Table, Tie, Test, Solve, Tell}
use Rattle.planner.proofs.Promise.{law, run_alone}
use Rattle.sheet.specs.Sample.{sample}

abbrev pub calls : List code.Call
calls =
    Table 100 ∷ Table 10 ∷ Table 8 ∷ Table 3 ∷ Tie 0 1 1 100 60 ∷ Tie 1 2 1 8 5 ∷ Tie 2 3 1 3 1 ∷ Test 0 1 2 350 1 ∷ Test 2 1 2 20 0 ∷ Solve ∷ Tell ∷ []

module _ {P : Type 0} (m : Model P) (laws : Lawful m) (ps ss cs n : ℕ) (all : n ≡ 11) (answers : List (Answer P)) (l k : Lent P) (t : State P)
    (run : Run (Works m) (fresh, l) (map (call_of ps ss cs) (take n calls)) answers (t, k)) where
  pub sample_given : t.question ≡ sample
  unfolding tie_of
  sample_given =
      (law m laws).as_given (map (call_of ps ss cs) (take n calls)) answers t (run_alone m (map (call_of ps ss cs) (take n calls)) answers (fresh, l) (t, k) run)
      ∙ ap (λ (j : ℕ). given_by empty (map (call_of ps ss cs) (take j calls))) all

  pub sample_reached : Reached m t
  sample_reached = (map (call_of ps ss cs) (take n calls), answers, run_alone m (map (call_of ps ss cs) (take n calls)) answers (fresh, l) (t, k) run)
