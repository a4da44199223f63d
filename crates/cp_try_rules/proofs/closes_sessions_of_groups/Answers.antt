use Rattle.std.proofs.Common.{refl}
use Rattle.cp_try_rules.proofs.closes_sessions_of_groups.Goals as goal

pub returns : goal.returns
returns c = refl
