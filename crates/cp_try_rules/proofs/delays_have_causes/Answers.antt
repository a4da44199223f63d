use Rattle.cp_try_rules.proofs.Delays.{delays-caused}
use Rattle.cp_try_rules.proofs.delays_have_causes.Goals as goal

pub returns : goal.returns
returns c = delays-caused
