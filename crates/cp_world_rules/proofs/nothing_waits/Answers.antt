use Rattle.cp_world_rules.proofs.nothing_waits.Goals as goal
use Rattle.cp_world_rules.proofs.Settled.{settled}

pub returns : goal.returns
returns c = settled
