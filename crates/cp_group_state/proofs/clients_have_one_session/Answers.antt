use Rattle.cp_group_state.proofs.Single.{always-one_session}
use Rattle.cp_group_state.proofs.clients_have_one_session.Goals as goal

pub returns : goal.returns
returns c = always-one_session
