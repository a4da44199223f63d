use Rattle.cp_group_ranges.proofs.Sound.{sound-apply}
use Rattle.cp_group_ranges.proofs.entries_keep_states_sound.Goals as goal

pub returns : goal.returns
returns c = sound-apply
