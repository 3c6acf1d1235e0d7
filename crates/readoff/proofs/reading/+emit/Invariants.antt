use Rattle.std.proofs.Common.{◌+◌}
use Rattle.readoff.proofs.reading.+emit.Given as goal

abbrev pub decreases-emit : goal.decreases-emit
decreases-emit l = l.row.tables.bits + l.row.tests.bits
