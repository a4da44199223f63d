use Rattle.cp_group_state.proofs.Holds.{one-owner}
use Rattle.cp_group_state.proofs.each_lock_has_one_owner.Goals as goal

pub returns : goal.returns
returns c = one-owner
