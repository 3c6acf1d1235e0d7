-- What the bytes of a frame say.
use Rattle.std.specs.Prelude.{ℕ, ◌+◌, ◌*◌, Bool, cond, ◌&&◌, List, length, drop, ℤ, Ok, Err, Result, ◌==◌, nat_le, slice_index}
use Rattle.reading.specs.declared.ReadingFault.{ReadingFault}
use Rattle.reading.specs.Outcomes.{reading}
use Rattle.frames.specs.declared.faults.FrameFault.{FrameFault}
use Rattle.frames.specs.declared.faults.FrameFault.TheVariants.{BadFrame, Reading}
use Rattle.frames.specs.declared.frames.Frame.{Frame}
use Rattle.frames.specs.declared.frames.Frame.TheVariants.{Table, Tie, Test, Correct, End}

-- a frame, with the characters of its reading as a list
pub data PlainFrame : Type 0 where
  table : (rows : ℕ) → PlainFrame
  tie : (table other p q cost : ℕ) → PlainFrame
  test : (table p q cost kind : ℕ) → PlainFrame
  correct : (table : ℕ) (reading : List ℕ) → PlainFrame
  end : PlainFrame

-- a number of two bytes, and one of four, from the place i on: the highest byte first
abbrev pub two_bytes : List ℕ → ℕ → ℕ
two_bytes bytes i = slice_index bytes i * 256 + slice_index bytes (i + 1)

abbrev pub four_bytes : List ℕ → ℕ → ℕ
four_bytes bytes i = two_bytes bytes i * 65536 + two_bytes bytes (i + 2)

-- the bytes begin with the kind byte, and are so many
abbrev pub has_form : (kind size : ℕ) → List ℕ → Bool
has_form kind size bytes = length bytes == size && slice_index bytes 0 == kind

-- a correction has 7 to 9 bytes
abbrev pub is_correction : List ℕ → Bool
is_correction bytes = nat_le 7 (length bytes) && nat_le (length bytes) 9 && slice_index bytes 0 == 4

-- the frame that the bytes are, by the kind and the length
abbrev pub frame_of : List ℕ → Result PlainFrame FrameFault
frame_of bytes =
    cond (has_form 1 5 bytes) (Ok (table (four_bytes bytes 1)))
    (cond (has_form 2 9 bytes) (Ok (tie (slice_index bytes 1) (slice_index bytes 2) (two_bytes bytes 3) (two_bytes bytes 5) (two_bytes bytes 7)))
    (cond (has_form 3 9 bytes) (Ok (test (slice_index bytes 1) (two_bytes bytes 2) (two_bytes bytes 4) (two_bytes bytes 6) (slice_index bytes 8)))
    (cond (is_correction bytes) (Ok (correct (slice_index bytes 1) (drop 2 bytes)))
    (cond (has_form 5 1 bytes) (Ok end)
    (Err BadFrame)))))

-- the code's frame as a plain one
abbrev pub plain_frame : Frame → PlainFrame
plain_frame (Table rows) = table rows
plain_frame (Tie t other p q cost) = tie t other p q cost
plain_frame (Test t p q cost kind) = test t p q cost kind
plain_frame (Correct t characters) = correct t characters.now
plain_frame End = end

abbrev pub plain : Result Frame FrameFault → Result PlainFrame FrameFault
plain (Ok frame) = Ok (plain_frame frame)
plain (Err fault) = Err fault

-- a reading's fault passes up unchanged
abbrev pub carried : Result ℤ ReadingFault → Result ℤ FrameFault
carried (Ok n) = Ok n
carried (Err fault) = Err (Reading fault)

abbrev pub correction_of : List ℕ → Result ℤ FrameFault
correction_of characters = carried (reading characters)
