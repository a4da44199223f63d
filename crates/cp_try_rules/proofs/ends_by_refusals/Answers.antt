use Rattle.std.proofs.Common.{refl}
use Rattle.cp_try_rules.proofs.ends_by_refusals.Goals as goal

pub returns : goal.returns
returns c = record { refused = refl; lost = refl }
