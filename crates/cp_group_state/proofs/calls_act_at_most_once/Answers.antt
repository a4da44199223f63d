use Rattle.cp_group_state.proofs.Once.{acts-once}
use Rattle.cp_group_state.proofs.calls_act_at_most_once.Goals as goal

pub returns : goal.returns
returns c = acts-once
