use Rattle.readoff.proofs.Following.{plans_led_to}
use Rattle.readoff.proofs.choices_lead_to_the_plan.Goals as goal

pub returns : goal.returns
returns g c m Q = plans_led_to m Q
