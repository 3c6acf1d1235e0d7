use Rattle.std.proofs.Common.{arith}
use lib.Count.{ones-le}
use Rattle.sets.proofs.small_sets.SmallSet.len.Goals as goal

pub returns : goal.returns
returns c = record { value = omega arith; few = omega (arith, ones-le 10 c.args.self.bits c.args.self.few) }
