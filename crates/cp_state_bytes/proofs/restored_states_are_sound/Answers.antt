use Rattle.cp_state_bytes.proofs.Sound.{are_sound}
use Rattle.cp_state_bytes.proofs.restored_states_are_sound.Goals as goal

pub returns : goal.returns
returns c = are_sound
