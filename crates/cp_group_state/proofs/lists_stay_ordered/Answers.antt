use Rattle.cp_group_state.proofs.Ordered.{always-ordered}
use Rattle.cp_group_state.proofs.lists_stay_ordered.Goals as goal

pub returns : goal.returns
returns c = always-ordered
