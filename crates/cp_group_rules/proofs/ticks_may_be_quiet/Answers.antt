use Rattle.cp_group_rules.proofs.Quiet.{quiet}
use Rattle.cp_group_rules.proofs.ticks_may_be_quiet.Goals as goal

pub returns : goal.returns
returns g c = λ m. quiet m
