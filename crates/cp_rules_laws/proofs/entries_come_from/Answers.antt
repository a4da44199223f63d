use Rattle.cp_rules_laws.proofs.Moves.{entries_come_from as law}
use Rattle.cp_rules_laws.proofs.entries_come_from.Goals as goal

pub returns : goal.returns
returns c = law
