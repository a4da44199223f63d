use Rattle.cp_rules_facts.proofs.Executions.{local_executions as law}
use Rattle.cp_rules_facts.proofs.local_executions.Goals as goal

pub returns : goal.returns
returns c = law
