use Rattle.std.proofs.Common.{refl}
use Rattle.cp_log_rules.specs.Recovery.{recovered_from}
use Rattle.cp_log.proofs.store.empty_files_are_sound.Goals as goal

pub returns : goal.returns
unfolding recovered_from
returns c = λ managed size. refl
