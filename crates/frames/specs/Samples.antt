-- Lines, frames and refusals by example.
use Rattle.std.specs.Prelude.{◌≡◌, ℕ, true, false, List, [], ◌∷◌, ◌++◌, Some, None, Ok, Err, codes, Option, Result}
use Rattle.frames.specs.declared.faults.FrameFault.{FrameFault}
use Rattle.frames.specs.declared.faults.FrameFault.TheVariants.{BadFrame}
use Rattle.frames.specs.Decoding.{line_frame}
use Rattle.frames.specs.Frames.{PlainFrame, table, tie, test, correct, end}
use Rattle.frames.specs.Hexadecimal.{hex_line}
use Rattle.frames.specs.Lines.{line, lines_of, frame_bytes}

-- the frame in an ended line of these characters
abbrev pub frame_in : List ℕ → Option (Result PlainFrame FrameFault)
frame_in characters = line_frame (line characters true)

pub record Samples : Type 0 where
  pub table_line : frame_in (codes "0100000064") ≡ Some (Ok (table 100))
  pub tie_line : frame_in (codes "020001000100640001") ≡ Some (Ok (tie 0 1 1 100 1))
  pub test_line : frame_in (codes "0300000100029C4001") ≡ Some (Ok (test 0 1 2 40_000 1))
  pub correction_line : frame_in (codes "04002D302E323530") ≡ Some (Ok (correct 0 (codes "-0.250")))
  pub end_line : frame_in (codes "05") ≡ Some (Ok end)
  pub unknown_kind : frame_in (codes "06") ≡ Some (Err BadFrame)
  pub wrong_length : frame_in (codes "01000064") ≡ Some (Err BadFrame)
  pub small_letter : frame_in (codes "010000000a") ≡ None
  pub no_pair : frame_in [] ≡ None
  pub not_ended : frame_bytes (line (codes "05") false) ≡ None
  pub two_lines : lines_of (codes "05" ++ 10 ∷ codes "05") ≡ line (codes "05") true ∷ line (codes "05") false ∷ []
  pub fault_line : hex_line (255 ∷ 4 ∷ 11 ∷ 0 ∷ 1 ∷ []) ≡ codes "FF040B0001" ++ 10 ∷ []
