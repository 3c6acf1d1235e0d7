use Rattle.std.proofs.Common.{◌≡◌, ◌+◌, ◌*◌, ◌≤◌, ◌++◌, length, take}
use Rattle.program.specs.Outputs.{pair_lines}
use Rattle.program.proofs.writing.put_pairs.Given as goal

abbrev pub invariant-loop-left : goal.invariant-loop-left
invariant-loop-left l =
    (2 * l.output.len + 5 * length l.left ≤ 290)
    × (take l.output.len l.output.bytes ++ pair_lines l.left ≡ take l.initial.output.len l.initial.output.bytes ++ pair_lines l.initial.left)

abbrev pub decreases-loop-left : goal.decreases-loop-left
decreases-loop-left l = length l.left
