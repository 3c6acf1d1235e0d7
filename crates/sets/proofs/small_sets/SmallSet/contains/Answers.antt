use Rattle.std.proofs.Common.{sym, ◌∙◌}
use Rattle.std.proofs.lemmas.Bool.{le-ltb}
use Rattle.sets.proofs.Bits.{has_past}
use Rattle.sets.proofs.Masks.{shifted_bit}
use Rattle.sets.proofs.small_sets.SmallSet.contains.Goals as goal

pub returns-then-member-lt10 : goal.returns-then-member-lt10
returns-then-member-lt10 c = shifted_bit c.args.self.bits c.args.member

pub returns-else-member-lt10 : goal.returns-else-member-lt10
returns-else-member-lt10 c =
    let high = c.if-member-lt10.false in
    le-ltb c.args.member 10 high ∙ sym (has_past 10 c.args.self.bits c.args.member c.args.self.few high)
