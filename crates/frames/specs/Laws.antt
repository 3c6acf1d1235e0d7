-- What a client may rely on of lines and frames.
use Rattle.std.specs.Prelude.{◌≡◌, ℕ, ◌<◌, true, cond, List, [], ◌∷◌, ◌++◌, length, take, Some, ◌≢◌}
use Rattle.std.specs.List.{flat_map, AllByRecursion}
use Rattle.frames.specs.Frames.{frame_of}
use Rattle.frames.specs.Hexadecimal.{hex_digits, hex_line}
use Rattle.frames.specs.Lines.{PlainLine, line, lines_of, frame_bytes}

-- a line as it stands in the input
abbrev pub line_text : PlainLine → List ℕ
line_text l = l.characters ++ cond l.ended (10 ∷ []) []

-- the lines one after another are the input, and no 0A stands within one
pub record CutAtEnds : Type 0 where
  pub whole : (input : List ℕ) → flat_map line_text (lines_of input) ≡ input
  pub none_within : (input : List ℕ) → AllByRecursion (λ l. AllByRecursion (λ c. c ≢ 10) l.characters) (lines_of input)

-- a written line is a line of its own, and its bytes are those that were written
pub record LinesReadBack : Type 0 where
  pub first : (bytes rest : List ℕ) → lines_of (hex_line bytes ++ rest) ≡ line (hex_digits bytes) true ∷ lines_of rest
  pub bytes : (bytes : List ℕ) → AllByRecursion (λ b. b < 256) bytes → 0 < length bytes → frame_bytes (line (hex_digits bytes) true) ≡ Some bytes

-- no frame has ten bytes, so the first ten bytes decide which frame they are
abbrev pub TenDecide : Type 0
TenDecide = (bytes : List ℕ) → frame_of (take 10 bytes) ≡ frame_of bytes
