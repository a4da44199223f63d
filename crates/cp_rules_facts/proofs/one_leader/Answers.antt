use Rattle.cp_rules_facts.proofs.Executions.{one_leader as law}
use Rattle.cp_rules_facts.proofs.one_leader.Goals as goal

pub returns : goal.returns
returns c = law
