use Rattle.std.proofs.Common.{◌+◌, ◌*◌, take}
use Rattle.frames.specs.Hexadecimal.{hex_digits}
use Rattle.buffers.specs.Put.{Put}
use Rattle.frames.proofs.hexadecimal.put_digits.Given as goal

-- the digits of the bytes so far are written
abbrev pub invariant-loop-place : goal.invariant-loop-place
invariant-loop-place l = Put l.initial.buffer l.buffer l.at (l.at + 2 * l.place) (hex_digits (take l.place l.bytes))
