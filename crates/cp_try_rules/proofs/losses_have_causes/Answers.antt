use Rattle.cp_try_rules.proofs.Caused.{losses-caused}
use Rattle.cp_try_rules.proofs.losses_have_causes.Goals as goal

pub returns : goal.returns
returns c = losses-caused
