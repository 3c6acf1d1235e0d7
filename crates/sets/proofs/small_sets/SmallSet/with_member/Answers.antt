use lib.Bits.{or_lt}
use Rattle.sets.proofs.small_sets.SmallSet.with_member.Goals as goal

pub invariant_of-result : goal.invariant_of-result
invariant_of-result c = record { few = or_lt 10 c.args.self.bits c.in_ok-one.one.bits c.args.self.few c.in_ok-one.one.few }
