use Rattle.cp_meta_state.proofs.Sound.{sound_first}
use Rattle.cp_meta_state.proofs.first_state_is_sound.Goals as goal

pub returns : goal.returns
returns c = sound_first
