use Rattle.plans.proofs.Counting.{valid_by_counting}
use Rattle.plans.proofs.valid_plans_are_counted.Goals as goal

pub returns : goal.returns
returns c Q = valid_by_counting Q
