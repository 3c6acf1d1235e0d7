use Rattle.std.proofs.Common.{◌≡◌, length}
use Rattle.frames.specs.Decoding.{decoded_pairs}
use Rattle.buffers.specs.Written.{written}
use Rattle.frames.specs.Lines.{pairs}
use Rattle.frames.proofs.Keeping.{ten_after}
use Rattle.frames.proofs.lines.decode_pairs.Given as goal

-- what was kept, with the pairs that are left, gives the first ten bytes
abbrev pub invariant-loop-rest : goal.invariant-loop-rest
invariant-loop-rest l = ten_after (written l.decoded) (pairs l.rest) ≡ decoded_pairs l.characters

abbrev pub decreases-loop-rest : goal.decreases-loop-rest
decreases-loop-rest l = length l.rest
