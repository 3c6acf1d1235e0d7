-- A frame's call, from what the call of the question gives.
use Rattle.std.proofs.Common.{◌≡◌, ℕ, List, ℤ, Ok, Err, Result, sym, ap, ◌∙◌, subst}
use Rattle.plans.specs.Questions.{Question}
use Rattle.catalogue.specs.Changes.{Follows, corrected}
use Rattle.catalogue.specs.declared.refusals.ChangeRefusal.{ChangeRefusal}
use Rattle.frames.specs.Frames.{correction_of, plain_frame}
use Rattle.frames.specs.declared.faults.FrameFault.{FrameFault}
use Rattle.frames.specs.declared.frames.Frame.{Frame}
use Rattle.program.specs.declared.faults.ProgramFault.TheVariants.{Change}
use Rattle.program.specs.Lines.{and_then, Calls, called, change_or_fault, frame_or_fault}

module _ (X : Type 0) (o : Result Question ChangeRefusal) (Q after : Question) where
  change_refused : (e : ChangeRefusal) → Follows {X = X} o Q (Err e) after → Calls (change_or_fault o) (Err (Change e)) after
  change_refused e = go o
    where
      go : (o : Result Question ChangeRefusal) → Follows {X = X} o Q (Err e) after → Calls (change_or_fault o) (Err (Change e)) after
      go (Ok changed) f = absurd f
      go (Err cause) f = ap Change f.0

  change_accepted : (x : X) → Follows {X = X} o Q (Ok x) after → Calls (change_or_fault o) (Ok tt) after
  change_accepted x = go o
    where
      go : (o : Result Question ChangeRefusal) → Follows {X = X} o Q (Ok x) after → Calls (change_or_fault o) (Ok tt) after
      go (Ok changed) f = f
      go (Err cause) f = absurd f

  module _ (frame same : Frame) (is : frame ≡ same) (by : called Q (plain_frame same) ≡ change_or_fault o) where
    called_so : called Q (plain_frame frame) ≡ change_or_fault o
    called_so = ap (λ (f : Frame). called Q (plain_frame f)) is ∙ by

    pub frame_refused : (e : ChangeRefusal) → Follows {X = X} o Q (Err e) after → Calls (called Q (plain_frame frame)) (Err (Change e)) after
    frame_refused e f = subst (λ r. Calls r (Err (Change e)) after) (sym called_so) (change_refused e f)

    pub frame_accepted : (x : X) → Follows {X = X} o Q (Ok x) after → Calls (called Q (plain_frame frame)) (Ok tt) after
    frame_accepted x f = subst (λ r. Calls r (Ok tt) after) (sym called_so) (change_accepted x f)

-- A correction is read before it is called.
pub read_so : (Q : Question) (i : ℕ) (characters : List ℕ) (by : ℤ) → Ok by ≡ correction_of characters
    → and_then (frame_or_fault (correction_of characters)) (λ n. change_or_fault (corrected Q i n)) ≡ change_or_fault (corrected Q i by)
read_so Q i characters by e = ap (λ (r : Result ℤ FrameFault). and_then (frame_or_fault r) (λ n. change_or_fault (corrected Q i n))) (sym e)
