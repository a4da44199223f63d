use Rattle.cp_group_state.proofs.Fences.{fences-rise}
use Rattle.cp_group_state.proofs.fences_rise.Goals as goal

pub returns : goal.returns
returns c = fences-rise
