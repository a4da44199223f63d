use Rattle.cp_group_state.proofs.Single.{always-differ}
use Rattle.cp_group_state.proofs.calls_wait_once.Goals as goal

pub returns : goal.returns
returns c = always-differ
