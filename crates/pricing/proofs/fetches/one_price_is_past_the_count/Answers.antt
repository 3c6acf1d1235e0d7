use Rattle.pricing.specs.Prices.{one_past}
use Rattle.pricing.proofs.fetches.one_price_is_past_the_count.Goals as goal

pub returns : goal.returns
returns c = one_past
