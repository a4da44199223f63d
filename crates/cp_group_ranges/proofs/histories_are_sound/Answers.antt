use Rattle.cp_group_ranges.proofs.Sound.{sound-history}
use Rattle.cp_group_ranges.proofs.histories_are_sound.Goals as goal

pub returns : goal.returns
returns c = sound-history
