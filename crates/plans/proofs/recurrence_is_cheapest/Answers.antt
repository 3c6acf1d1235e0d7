use Rattle.plans.proofs.Planned.{planned}
use Rattle.plans.proofs.recurrence_is_cheapest.Goals as goal

pub returns : goal.returns
returns g c Q = planned _ (g.met.M.PriceModel.lawful _) Q
