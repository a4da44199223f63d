use Rattle.cp_rules_laws.proofs.Steps.{steps_write as law}
use Rattle.cp_rules_laws.proofs.steps_write.Goals as goal

pub returns : goal.returns
returns c = law
