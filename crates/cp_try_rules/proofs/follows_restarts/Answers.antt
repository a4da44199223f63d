use Rattle.std.proofs.Common.{refl}
use Rattle.cp_try_rules.proofs.follows_restarts.Goals as goal

pub returns : goal.returns
returns c = record { lost = refl; again = refl }
