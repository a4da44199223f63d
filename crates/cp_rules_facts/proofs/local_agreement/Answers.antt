use Rattle.cp_rules_facts.proofs.Executions.{agrees as law}
use Rattle.cp_rules_facts.proofs.local_agreement.Goals as goal

pub returns : goal.returns
returns c = law
