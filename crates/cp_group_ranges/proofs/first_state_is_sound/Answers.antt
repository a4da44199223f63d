use Rattle.cp_group_ranges.proofs.Sound.{sound-empty}
use Rattle.cp_group_ranges.proofs.first_state_is_sound.Goals as goal

pub returns : goal.returns
returns c = sound-empty
