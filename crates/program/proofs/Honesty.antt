-- What is written is the refusal that is due, or a cheapest plan of the question that the lines ask.
use Rattle.std.proofs.Common.{◌≡◌, ℕ, ◌+◌, ◌<◌, Bool, true, false, cond, eqb, ltb, ◌⊎◌, List, [], ◌∷◌, ◌++◌, length, Some, None, Ok, Err, Option, Result, refl, ap, ◌∙◌, subst, inl, inr, arith}
use Rattle.std.proofs.lemmas.Bool.{eqb-true, ltb-true, ltb-false}
use Rattle.pricing.specs.Models.{Model, Lawful}
use Rattle.plans.specs.Questions.{Question, all_tables, all_tests}
use Rattle.plans.specs.Plans.{Plan}
use Rattle.plans.specs.Prices.{price}
use Rattle.plans.specs.Recurrence.{opt}
use Rattle.solver.specs.Solves.{enough, outcome, whole_plan}
use Rattle.solver.specs.declared.solutions.SolveRefusal.{SolveRefusal}
use Rattle.solver.specs.declared.solutions.SolveRefusal.TheVariants.{NoTables, ListTooShort, NoPlan, PastCount}
use Rattle.planner.proofs.Outcomes.{found_cheapest, found_none, found_past, plan_found}
use Rattle.frames.specs.Lines.{PlainLine, lines_of}
use Rattle.frames.specs.Turns.{turn_finished}
use Rattle.frames.specs.declared.faults.FrameFault.TheVariants.{NoEnd}
use Rattle.frames.specs.declared.turns.Turn.{Turn}
use Rattle.frames.specs.declared.turns.Turn.TheVariants.{Tables, Predicates, Ended}
use Rattle.program.specs.declared.faults.ProgramFault.{ProgramFault}
use Rattle.program.specs.declared.faults.ProgramFault.TheVariants.{InputTooLong, Frame, Solve}
use Rattle.program.specs.declared.faults.Refused.{Refused}
use Rattle.program.specs.Lines.{Gathered, judged}
use Rattle.program.specs.Outputs.{written}
use Rattle.program.specs.Runs.{at_line, finished, gathered, planned, ran, solved_after, start}
use Rattle.program.specs.Statement.{Accepted, Unsolved, Honest}

-- ---- what becomes of the lines after the first n

pub record Stopped (n : ℕ) (g : Gathered) (ls : List PlainLine) (r : Refused) : Type 0 where
  pub before : List PlainLine
  pub line : PlainLine
  pub after : List PlainLine
  pub so_far : Gathered
  pub lines : ls ≡ before ++ line ∷ after
  pub accepted : Accepted g before so_far
  pub refused : judged so_far line ≡ Err r.fault
  pub number : r.line ≡ n + length before + 1

pub record LeftOpen (n : ℕ) (g : Gathered) (ls : List PlainLine) (r : Refused) : Type 0 where
  pub so_far : Gathered
  pub accepted : Accepted g ls so_far
  pub open_turn : (so_far.turn ≡ Tables) ⊎ (so_far.turn ≡ Predicates)
  pub fault : r ≡ at_line (Frame NoEnd) (n + length ls + 1)

abbrev pub Story : (n : ℕ) (g : Gathered) (ls : List PlainLine) → Result (ℕ × Question) Refused → Type 0
Story n g ls (Ok end) = (end.0 ≡ n + length ls) × Accepted g ls (record { turn = Ended; question = end.1 })
Story n g ls (Err r) = Stopped n g ls r ⊎ LeftOpen n g ls r

module _ (n : ℕ) (g k : Gathered) (l : PlainLine) (ls : List PlainLine) (taken : judged g l ≡ Ok k) where
  story_more : (o : Result (ℕ × Question) Refused) → Story (n + 1) k ls o → Story n g (l ∷ ls) o
  story_more (Ok end) h = (omega (arith, h.0), (k, taken, h.1))
  story_more (Err r) (inl s) = inl (record {
    before = l ∷ s.before;
    line = s.line;
    after = s.after;
    so_far = s.so_far;
    lines = ap (λ (xs : List PlainLine). l ∷ xs) s.lines;
    accepted = (k, taken, s.accepted);
    refused = s.refused;
    number = omega (arith, s.number);
  })
  story_more (Err r) (inr s) = inr (record {
    so_far = s.so_far;
    accepted = (k, taken, s.accepted);
    open_turn = s.open_turn;
    fault = s.fault ∙ ap (at_line (Frame NoEnd)) (omega arith);
  })

ended_story : (n : ℕ) (Q : Question) (turn : Turn) → Story n (record { turn = turn; question = Q }) [] (finished n Q (turn_finished turn))
ended_story n Q Tables = inr (record { so_far = record { turn = Tables; question = Q }; accepted = refl; open_turn = inl refl; fault = ap (at_line (Frame NoEnd)) (omega arith) })
ended_story n Q Predicates = inr (record { so_far = record { turn = Predicates; question = Q }; accepted = refl; open_turn = inr refl; fault = ap (at_line (Frame NoEnd)) (omega arith) })
ended_story n Q Ended = (omega arith, refl)

story : (n : ℕ) (g : Gathered) (ls : List PlainLine) → Story n g ls (gathered n g ls)
story n g [] = ended_story n g.question g.turn
story n g (l ∷ ls) = go (λ next. story (n + 1) next ls) (judged g l) refl
  where
    go : ((next : Gathered) → Story (n + 1) next ls (gathered (n + 1) next ls)) → (r : Result Gathered ProgramFault) → judged g l ≡ r → Story n g (l ∷ ls) (elim r [ Ok next ↦ gathered (n + 1) next ls | Err fault ↦ Err (at_line fault (n + 1)) ])
    go rest (Ok next) e = story_more n g next l ls e (gathered (n + 1) next ls) (rest next)
    go rest (Err fault) e = inl (record {
      before = [];
      line = l;
      after = ls;
      so_far = g;
      lines = refl;
      accepted = refl;
      refused = e;
      number = omega arith;
    })

-- ---- why there is no plan

module _ {P : Type 0} (m : Model P) (laws : Lawful m) (ps ss cs : ℕ) (Q : Question) where
  module _ (e : SolveRefusal) where
    because : (f : SolveRefusal) → Unsolved m ps ss cs Q f → ◌≡◌ {A = Result Plan SolveRefusal} (Err f) (Err e) → Unsolved m ps ss cs Q e
    because f u same = let is : f ≡ e = cc in subst (Unsolved m ps ss cs Q) is u

    by_count : (p : Plan) → opt m Q (all_tables Q) (all_tests Q) ≡ Some p → (far : Bool) → m.past (price m Q p) ≡ far → cond far (Err PastCount) (Ok p) ≡ Err e → Unsolved m ps ss cs Q e
    by_count p found true far h = because PastCount ((p, (found_cheapest m Q laws p found).valid), found_past m Q laws p found far) h
    by_count p found false near h = let z : ◌≡◌ {A = ℕ} 0 1 = cc in absurd (omega arith)

    by_plan : (b : Option Plan) → opt m Q (all_tables Q) (all_tests Q) ≡ b → whole_plan m Q b ≡ Err e → Unsolved m ps ss cs Q e
    by_plan None none h = because NoPlan (found_none m Q laws none) h
    by_plan (Some p) found h = by_count p found (m.past (price m Q p)) refl h

    by_room : (room : Bool) → enough Q ps ss cs ≡ room → cond room (whole_plan m Q (opt m Q (all_tables Q) (all_tests Q))) (Err ListTooShort) ≡ Err e → Unsolved m ps ss cs Q e
    by_room true some h = by_plan (opt m Q (all_tables Q) (all_tests Q)) refl h
    by_room false none h = because ListTooShort none h

    pub unsolved : outcome m Q (enough Q ps ss cs) ≡ Err e → Unsolved m ps ss cs Q e
    unsolved h = by_tables (eqb Q.count 0) refl h
      where
        by_tables : (none : Bool) → eqb Q.count 0 ≡ none
            → cond none (Err NoTables) (cond (enough Q ps ss cs) (whole_plan m Q (opt m Q (all_tables Q) (all_tests Q))) (Err ListTooShort)) ≡ Err e → Unsolved m ps ss cs Q e
        by_tables true none h = because NoTables (eqb-true Q.count 0 none) h
        by_tables false some h = by_room (enough Q ps ss cs) refl h

-- ---- the promise

module _ {P : Type 0} (m : Model P) (laws : Lawful m) (shown : P → List ℕ) (ps ss cs : ℕ) (input : List ℕ) where
  module _ (short : 8192 < length input → ⊥) where
    by_outcome : (n : ℕ) (Q : Question) → n ≡ 0 + length (lines_of input) → Accepted start (lines_of input) (record { turn = Ended; question = Q })
        → (o : Result Plan SolveRefusal) → outcome m Q (enough Q ps ss cs) ≡ o → Honest m shown ps ss cs input (written m shown (planned n Q o))
    by_outcome n Q last all (Ok p) e =
        inr (Q, p, price m Q p, refl, record { all = all; short = short }, found_cheapest m Q laws p (plan_found m Q (enough Q ps ss cs) p e))
    by_outcome n Q last all (Err f) e =
        inl (
          at_line (Solve f) n,
          refl,
          inr (inr (inr (record {
            question = Q;
            asks = record { all = all; short = short };
            cause = f;
            unsolved = unsolved m laws ps ss cs Q f e;
            fault = ap (at_line (Solve f)) (omega (arith, last));
          }))),
        )

    by_story : (o : Result (ℕ × Question) Refused) → Story 0 start (lines_of input) o → Honest m shown ps ss cs input (written m shown (solved_after m ps ss cs o))
    by_story (Ok end) h = by_outcome end.0 end.1 h.0 h.1 (outcome m end.1 (enough end.1 ps ss cs)) refl
    by_story (Err r) (inl s) = inl (
      r,
      refl,
      inr (inl (record {
        before = s.before;
        line = s.line;
        after = s.after;
        so_far = s.so_far;
        lines = s.lines;
        accepted = s.accepted;
        refused = s.refused;
        number = omega (arith, s.number);
      })),
    )
    by_story (Err r) (inr s) = inl (
      r,
      refl,
      inr (inr (inl (record {
        so_far = s.so_far;
        accepted = s.accepted;
        open_turn = s.open_turn;
        fault = s.fault ∙ ap (at_line (Frame NoEnd)) (omega arith);
      }))),
    )

  pub honest : Honest m shown ps ss cs input (written m shown (ran m ps ss cs input))
  honest = by_length (ltb 8192 (length input)) refl
    where
      by_length : (long : Bool) → ltb 8192 (length input) ≡ long
          → Honest m shown ps ss cs input (written m shown (elim long [ true ↦ Err (at_line InputTooLong 0) | false ↦ solved_after m ps ss cs (gathered 0 start (lines_of input)) ]))
      by_length true e = inl (at_line InputTooLong 0, refl, inl (ltb-true 8192 (length input) e, refl))
      by_length false e = by_story (λ h. let few = ltb-false 8192 (length input) e in omega arith) (gathered 0 start (lines_of input)) (story 0 start (lines_of input))
