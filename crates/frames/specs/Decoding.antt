-- What decoding a line answers: the first ten of its bytes, which decide its frame.
use Rattle.std.specs.Prelude.{ℕ, List, take, Some, None, Ok, Err, Option, Result}
use Rattle.frames.specs.declared.faults.LineFault.{LineFault}
use Rattle.frames.specs.declared.faults.LineFault.TheVariants.{NotPairs}
use Rattle.buffers.specs.Written.{written}
use Rattle.buffers.specs.declared.room.Bytes.{Bytes}
use Rattle.frames.specs.declared.faults.FrameFault.{FrameFault}
use Rattle.frames.specs.Frames.{PlainFrame, frame_of}
use Rattle.frames.specs.Lines.{PlainLine, pairs, frame_bytes}

abbrev pub first_ten : Option (List ℕ) → Option (List ℕ)
first_ten (Some bytes) = Some (take 10 bytes)
first_ten None = None

abbrev pub decoded_pairs : List ℕ → Option (List ℕ)
decoded_pairs characters = first_ten (pairs characters)

abbrev pub or_not_pairs : Option (List ℕ) → Result (List ℕ) LineFault
or_not_pairs (Some bytes) = Ok bytes
or_not_pairs None = Err NotPairs

abbrev pub decoded_line : PlainLine → Result (List ℕ) LineFault
decoded_line l = or_not_pairs (first_ten (frame_bytes l))

abbrev pub framed : Option (List ℕ) → Option (Result PlainFrame FrameFault)
framed (Some bytes) = Some (frame_of bytes)
framed None = None

-- the frame in a line: None if it is not pairs
abbrev pub line_frame : PlainLine → Option (Result PlainFrame FrameFault)
line_frame l = framed (frame_bytes l)

-- what was kept of a line, and the frame that it is
abbrev pub kept : Option (Bytes 10) → Option (List ℕ)
kept (Some d) = Some (written d)
kept None = None

abbrev pub kept_line : Result (Bytes 10) LineFault → Result (List ℕ) LineFault
kept_line (Ok d) = Ok (written d)
kept_line (Err fault) = Err fault

abbrev pub framed_line : Result (Bytes 10) LineFault → Option (Result PlainFrame FrameFault)
framed_line (Ok d) = Some (frame_of (written d))
framed_line (Err fault) = None
