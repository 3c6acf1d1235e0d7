use Rattle.std.proofs.Common.{◌∙◌, ap₂, arith}
use Rattle.sets.specs.Rows.{contracted}
use Rattle.sets.proofs.Fives.{by_fives}
use Rattle.sets.proofs.places.Places.number.Goals as goal

pub returns : goal.returns
returns c =
    by_fives c.args.self.now.numbers c.args.self.now.numbered c.bits-tests.result c.bits-of.result (omega (arith, c.bits-tests.ensures, c.args.tests.few)) (omega (arith, c.bits-of.ensures, c.args.of.few))
    ∙ ap₂ contracted c.bits-tests.ensures c.bits-of.ensures
