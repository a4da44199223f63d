use Rattle.cp_world_rules.proofs.wrong_executions_are_refused.Goals as goal
use Rattle.cp_world_rules.proofs.Refusals.{are-refused}

pub returns : goal.returns
returns c = are-refused
