use Rattle.readoff.proofs.Short.{within_58}
use Rattle.readoff.proofs.plans_have_at_most_58_bytes.Goals as goal

pub returns : goal.returns
returns c = within_58
