use Rattle.std.proofs.Common.{refl}
use Rattle.cp_try_rules.proofs.forgets_destroyed_groups.Goals as goal

pub returns : goal.returns
returns c = refl
