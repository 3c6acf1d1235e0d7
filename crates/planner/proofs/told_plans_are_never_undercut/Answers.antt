use Rattle.planner.proofs.Promise.{law}
use Rattle.planner.proofs.told_plans_are_never_undercut.Goals as goal

pub returns : goal.returns
returns g c = law (g.M.PriceModel.meaning c.args.model.now) (g.met.M.PriceModel.lawful c.args.model.now)
