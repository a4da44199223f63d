use Rattle.cp_group_state.proofs.Moments.{full-order}
use Rattle.cp_group_state.proofs.full_order_is_order.Goals as goal

pub returns : goal.returns
returns c = full-order
