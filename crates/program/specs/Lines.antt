-- How a line is judged: by characters, frame, turn, reading, call. The first fault passes up unchanged.
use Rattle.std.specs.Prelude.{◌≡◌, Some, None, Ok, Err, Option, Result}
use Rattle.plans.specs.Questions.{Question}
use Rattle.catalogue.specs.Changes.{tabled, tied, tested, corrected}
use Rattle.catalogue.specs.declared.refusals.ChangeRefusal.{ChangeRefusal}
use Rattle.frames.specs.Decoding.{line_frame}
use Rattle.frames.specs.Frames.{PlainFrame, table, tie, test, correct, end, correction_of}
use Rattle.frames.specs.Lines.{PlainLine}
use Rattle.frames.specs.Turns.{turn_after}
use Rattle.frames.specs.declared.faults.FrameFault.{FrameFault}
use Rattle.frames.specs.declared.faults.LineFault.TheVariants.{NotPairs}
use Rattle.frames.specs.declared.turns.Turn.{Turn}
use Rattle.program.specs.declared.faults.ProgramFault.{ProgramFault}
use Rattle.program.specs.declared.faults.ProgramFault.TheVariants.{Line, Frame, Change}

abbrev pub and_then : {X Y E : Type 0} → Result X E → (X → Result Y E) → Result Y E
and_then (Ok x) f = f x
and_then (Err e) f = Err e

abbrev pub frame_or_fault : {X : Type 0} → Result X FrameFault → Result X ProgramFault
frame_or_fault (Ok x) = Ok x
frame_or_fault (Err e) = Err (Frame e)

-- The frame in a line: the characters are judged first.
abbrev pub frame_in : Option (Result PlainFrame FrameFault) → Result PlainFrame ProgramFault
frame_in None = Err (Line NotPairs)
frame_in (Some frame) = frame_or_fault frame

abbrev pub change_or_fault : {X : Type 0} → Result X ChangeRefusal → Result X ProgramFault
change_or_fault (Ok x) = Ok x
change_or_fault (Err e) = Err (Change e)

-- The call of a frame; a correction is read first.
abbrev pub called : Question → PlainFrame → Result Question ProgramFault
called Q (table rows) = change_or_fault (tabled Q rows)
called Q (tie i j p q cost) = change_or_fault (tied Q i j p q cost)
called Q (test i p q cost kind) = change_or_fault (tested Q i p q cost kind)
called Q (correct i reading) = and_then (frame_or_fault (correction_of reading)) (λ by. change_or_fault (corrected Q i by))
called Q end = Ok Q

-- What the lines so far have led to.
pub record Gathered : Type 0 where
  pub turn : Turn
  pub question : Question

abbrev pub judged : Gathered → PlainLine → Result Gathered ProgramFault
judged g l =
    and_then (frame_in (line_frame l)) (λ frame.
    and_then (frame_or_fault (turn_after g.turn frame)) (λ turn.
    and_then (called g.question frame) (λ Q.
    Ok (record { turn = turn; question = Q }))))

-- The code's answer and the question after it are as the outcome says.
abbrev pub Calls : Result Question ProgramFault → Result Unit ProgramFault → (after : Question) → Type 0
Calls (Ok Q) (Ok u) after = after ≡ Q
Calls (Ok Q) (Err e) after = ⊥
Calls (Err e) (Ok u) after = ⊥
Calls (Err e) (Err f) after = f ≡ e

abbrev pub Judges : Result Gathered ProgramFault → Result Turn ProgramFault → (after : Question) → Type 0
Judges (Ok g) (Ok turn) after = (turn ≡ g.turn) × (after ≡ g.question)
Judges (Ok g) (Err e) after = ⊥
Judges (Err e) (Ok turn) after = ⊥
Judges (Err e) (Err f) after = f ≡ e
