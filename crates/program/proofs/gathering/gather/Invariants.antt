use Rattle.std.proofs.Common.{◌≡◌, ◌+◌, ◌≤◌, length}
use Rattle.catalogue.specs.Asked.{asked}
use Rattle.frames.specs.Lines.{lines_of}
use Rattle.frames.specs.declared.turns.Turn.TheVariants.{Tables}
use Rattle.program.specs.Runs.{gathered}
use Rattle.program.proofs.gathering.gather.Given as goal

abbrev pub invariant-loop-line : goal.invariant-loop-line
invariant-loop-line g l =
    (l.question.model ≡ l.initial.question.model)
    × (l.number + length l.rest ≤ 8192)
    × (gathered 0 (record { turn = Tables; question = asked l.initial.question.held.catalogue }) (lines_of l.initial.rest)
    ≡ gathered l.number (record { turn = l.turn; question = asked l.question.held.catalogue }) (lines_of l.rest))

abbrev pub decreases-loop-line : goal.decreases-loop-line
decreases-loop-line g l = length l.rest
