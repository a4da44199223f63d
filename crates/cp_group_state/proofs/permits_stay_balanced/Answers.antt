use Rattle.cp_group_state.proofs.Balance.{always-balanced}
use Rattle.cp_group_state.proofs.permits_stay_balanced.Goals as goal

pub returns : goal.returns
returns c = always-balanced
