-- The lines of an input, gathered one by one.
use Rattle.std.proofs.Common.{◌≡◌, ℕ, ◌+◌, List, [], Ok, Err, Result, sym, refl, ap, ◌∙◌, subst}
use Rattle.plans.specs.Questions.{Question}
use Rattle.frames.specs.Lines.{PlainLine, lines_of}
use Rattle.frames.specs.Splitting.{First}
use Rattle.frames.specs.Turns.{turn_finished}
use Rattle.frames.specs.declared.faults.FrameFault.{FrameFault}
use Rattle.frames.specs.declared.turns.Turn.{Turn}
use Rattle.program.specs.declared.faults.ProgramFault.{ProgramFault}
use Rattle.program.specs.declared.faults.Refused.{Refused}
use Rattle.program.specs.declared.faults.ProgramFault.TheVariants.{Frame}
use Rattle.program.specs.Lines.{Gathered, judged, Judges, frame_or_fault}
use Rattle.program.specs.Runs.{at_line, finished, gathered, Gathers}

-- One line: the rest after it, or its fault.
abbrev after_line : (n : ℕ) → List PlainLine → Result Gathered ProgramFault → Result (ℕ × Question) Refused
after_line n ls r = elim r [ Ok next ↦ gathered (n + 1) next ls | Err fault ↦ Err (at_line fault (n + 1)) ]

module _ (n : ℕ) (g : Gathered) (input rest : List ℕ) (l : PlainLine) (first : First input l rest) (after : Question) where
  first_line : gathered n g (lines_of input) ≡ after_line n (lines_of rest) (judged g l)
  first_line = ap (gathered n g) first.lines

  pub line_taken : (turn : Turn) → Judges (judged g l) (Ok turn) after → gathered n g (lines_of input) ≡ gathered (n + 1) (record { turn = turn; question = after }) (lines_of rest)
  line_taken turn h = first_line ∙ go (judged g l) h
    where
      go : (r : Result Gathered ProgramFault) → Judges r (Ok turn) after → after_line n (lines_of rest) r ≡ gathered (n + 1) (record { turn = turn; question = after }) (lines_of rest)
      go (Ok next) (t, q) =
          ap (λ (x : Turn). gathered (n + 1) (record { turn = x; question = next.question }) (lines_of rest)) (sym t)
          ∙ ap (λ (x : Question). gathered (n + 1) (record { turn = turn; question = x }) (lines_of rest)) (sym q)
      go (Err e) h = absurd h

  pub line_refused : (e : ProgramFault) → Judges (judged g l) (Err e) after → gathered n g (lines_of input) ≡ Err (at_line e (n + 1))
  line_refused e h = first_line ∙ go (judged g l) h
    where
      go : (r : Result Gathered ProgramFault) → Judges r (Err e) after → after_line n (lines_of rest) r ≡ Err (at_line e (n + 1))
      go (Ok next) h = absurd h
      go (Err f) h = ap (λ (x : ProgramFault). Err (at_line x (n + 1))) (sym h)

-- After the last line.
pub no_more : (n : ℕ) (turn : Turn) (Q : Question) (input : List ℕ) → input ≡ [] → gathered n (record { turn = turn; question = Q }) (lines_of input) ≡ finished n Q (turn_finished turn)
unfolding lines_of
no_more n turn Q input e = ap (λ (x : List ℕ). gathered n (record { turn = turn; question = Q }) (lines_of x)) e

pub has_ended : (n : ℕ) (Q : Question) (r : Result Unit FrameFault) (u : Unit) → frame_or_fault r ≡ Ok u → finished n Q r ≡ Ok (n, Q)
has_ended n Q (Ok v) u e = refl
has_ended n Q (Err f) u e = cc

pub not_ended : (n : ℕ) (Q : Question) (r : Result Unit FrameFault) (f : ProgramFault) → frame_or_fault r ≡ Err f → finished n Q r ≡ Err (at_line f (n + 1))
not_ended n Q (Ok v) f e = cc
not_ended n Q (Err g) f e = let same : Frame g ≡ f = cc in ap (λ x. Err (at_line x (n + 1))) same

pub gathers_by : (o p : Result (ℕ × Question) Refused) (r : Result ℕ Refused) (after : Question) → o ≡ p → Gathers p r after → Gathers o r after
gathers_by o p r after e h = subst (λ x. Gathers x r after) (sym e) h
