use Rattle.cp_group_state.proofs.Holds.{fences-stand}
use Rattle.cp_group_state.proofs.answered_fences_stand.Goals as goal

pub returns : goal.returns
returns c = fences-stand
