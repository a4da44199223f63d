use Rattle.std.proofs.Common.{refl}
use Rattle.cp_try_rules.proofs.beats_once.Goals as goal

pub returns : goal.returns
returns c = record { refused = refl; one = refl; latest = refl; two_groups = refl }
