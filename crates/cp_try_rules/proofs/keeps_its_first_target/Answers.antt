use Rattle.std.proofs.Common.{refl}
use Rattle.cp_try_rules.proofs.keeps_its_first_target.Goals as goal

pub returns : goal.returns
returns c = refl
