use Rattle.std.proofs.Common.{◌≡◌, length}
use Rattle.sets.proofs.Fives.{Firsts}
use Rattle.sets.proofs.places.first_rows.Given as goal

abbrev pub invariant-loop-tables : goal.invariant-loop-tables
invariant-loop-tables l = (length l.first ≡ 1024) × Firsts l.tested.bits l.first l.tables l.sum
