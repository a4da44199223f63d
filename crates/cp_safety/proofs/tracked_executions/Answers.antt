use Rattle.cp_safety.proofs.Tracking.{tracked_executions as law}
use Rattle.cp_safety.proofs.tracked_executions.Goals as goal

pub returns : goal.returns
returns c = law
