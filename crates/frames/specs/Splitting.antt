-- The first line of an input and what follows it.
use Rattle.std.specs.Prelude.{◌≡◌, ℕ, ◌<◌, true, false, List, ◌∷◌, length}
use Rattle.frames.specs.declared.lines.Line.{Line}
use Rattle.frames.specs.declared.lines.Line.TheVariants.{Ended, Cut}
use Rattle.frames.specs.Lines.{PlainLine, line, lines_of}

-- the code's line as a plain one
abbrev pub plain_line : Line → PlainLine
plain_line (Ended characters) = line characters.now true
plain_line (Cut characters) = line characters.now false

-- the line is the input's first, the others are those of the rest, and the rest is shorter
pub record First (input : List ℕ) (first : PlainLine) (rest : List ℕ) : Type 0 where
  pub lines : lines_of input ≡ first ∷ lines_of rest
  pub shorter : length rest < length input
