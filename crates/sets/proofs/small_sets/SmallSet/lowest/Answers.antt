use Rattle.std.proofs.Common.{sym, arith}
use Rattle.std.proofs.lemmas.Bool.{eqb-false}
use Rattle.sets.proofs.Lowest.{lowest_in, lowest_least}
use Rattle.sets.proofs.small_sets.SmallSet.lowest.Goals as goal

pub returns : goal.returns
returns c =
    let some = eqb-false c.args.self.bits 0 (sym c.if-is_empty.ensures) in
    (lowest_in 16 c.args.self.bits (omega arith) (omega arith), lowest_least 16 c.args.self.bits)
