use Rattle.std.proofs.Common.{length, rules}
use Rattle.catalogue.specs.Asked.{asked}
use Rattle.solver.specs.Solves.{enough}
use Rattle.solver.proofs.Undercut.{never_undercut}
use Rattle.solver.proofs.solving.solve.Goals as goal

pub returns-clause-cheapest : goal.returns-clause-cheapest
returns-clause-cheapest g c =
    let Q = asked c.args.catalogue.now in
    never_undercut _ (g.met.M.PriceModel.lawful c.args.model.now) Q (enough Q (length c.args.prices.now) (length c.args.sizes.now) (length c.args.choices.now)) _ (search rules)
