use Rattle.std.proofs.Common.{refl}
use Rattle.cp_try_rules.proofs.tries_again_in_time.Goals as goal

pub returns : goal.returns
returns c = record { hello = refl; attempt = refl; pause = refl; pause_again = refl }
