use Rattle.cp_meta_state.proofs.Sound.{sound_history}
use Rattle.cp_meta_state.proofs.histories_are_sound.Goals as goal

pub returns : goal.returns
returns c = sound_history
