use Rattle.cp_state_bytes.proofs.Sound.{come_back}
use Rattle.cp_state_bytes.proofs.states_come_back.Goals as goal

pub returns : goal.returns
returns c = come_back
