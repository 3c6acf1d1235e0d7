use Rattle.std.proofs.Common.{arith}
use Rattle.sets.proofs.Fives.{first_small, number_small}
use Rattle.sets.proofs.places.Places.position.Goals as goal

pub overflow_add-result : goal.overflow_add-result
overflow_add-result c =
    let s = c.args.self.now in
    omega (arith, first_small _ s.first c.bits.result s.firsts (omega arith), c.number.ensures, number_small c.args.row.tests.bits c.intersection-tests.result.bits c.intersection-tests.result.few)
