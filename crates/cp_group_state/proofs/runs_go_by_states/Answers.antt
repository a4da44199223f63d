use Rattle.cp_group_state.proofs.Moments.{by-states}
use Rattle.cp_group_state.proofs.runs_go_by_states.Goals as goal

pub returns : goal.returns
returns c = by-states
