use Rattle.plans.proofs.Spellings.{spelled_one_way}
use Rattle.plans.proofs.plans_are_spelled_one_way.Goals as goal

pub returns : goal.returns
returns c = spelled_one_way
