use Rattle.std.proofs.Common.{refl}
use Rattle.cp_try_rules.proofs.follows_refusals.Goals as goal

pub returns : goal.returns
returns c = record { leader = refl; waits = refl; twice = refl; other = refl }
