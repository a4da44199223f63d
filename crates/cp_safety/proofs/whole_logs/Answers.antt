use Rattle.cp_safety.proofs.Executions.{whole_logs as law}
use Rattle.cp_safety.proofs.whole_logs.Goals as goal

pub returns : goal.returns
returns c = law
