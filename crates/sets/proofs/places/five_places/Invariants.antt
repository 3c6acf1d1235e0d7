use Rattle.std.proofs.Common.{◌≡◌, length}
use Rattle.sets.proofs.Fives.{Numbered}
use Rattle.sets.proofs.places.five_places.Given as goal

abbrev pub invariant-loop-place : goal.invariant-loop-place
invariant-loop-place l = (length l.numbers ≡ 1024) × Numbered l.numbers l.place
