use Rattle.cp_meta_state.proofs.Sound.{sound_step}
use Rattle.cp_meta_state.proofs.entries_keep_states_sound.Goals as goal

pub returns : goal.returns
returns c = sound_step
