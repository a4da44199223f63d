use Rattle.cp_group_state.proofs.Balance.{always-stand}
use Rattle.cp_group_state.proofs.holdings_are_of_semaphores.Goals as goal

pub returns : goal.returns
returns c = always-stand
