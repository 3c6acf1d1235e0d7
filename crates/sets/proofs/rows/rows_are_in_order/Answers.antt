use Rattle.sets.proofs.Order.{in_order}
use Rattle.sets.proofs.rows.rows_are_in_order.Goals as goal

pub returns : goal.returns
returns c = in_order
