use Rattle.std.proofs.Common.{rules}
use lib.Bits.{and_le_l}
use Rattle.sets.proofs.small_sets.SmallSet.without.Goals as goal

pub overflow_sub-result : goal.overflow_sub-result
overflow_sub-result c = search (rules, and_le_l)
