use Rattle.std.proofs.Common.{◌≡◌, length}
use Rattle.catalogue.specs.Asked.{asked}
use Rattle.checker.specs.Checks.{named_pairs}
use Rattle.checker.proofs.named.all_named.Given as goal

abbrev pub invariant-loop-left : goal.invariant-loop-left
invariant-loop-left l = named_pairs (asked l.catalogue) l.bytes ≡ named_pairs (asked l.catalogue) l.left

abbrev pub decreases-loop-left : goal.decreases-loop-left
decreases-loop-left l = length l.left
