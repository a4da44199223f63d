use Rattle.cp_rules_laws.proofs.Origins.{entries_were_made as law}
use Rattle.cp_rules_laws.proofs.entries_were_made.Goals as goal

pub returns : goal.returns
returns c = law
