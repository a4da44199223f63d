use Rattle.std.proofs.Common.{refl}
use Rattle.cp_try_rules.proofs.stays_with_its_group.Goals as goal

pub returns : goal.returns
returns c = record { countdown = refl; session = refl }
