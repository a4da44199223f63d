use Rattle.cp_rules_laws.proofs.Moves.{commits_rise as law}
use Rattle.cp_rules_laws.proofs.commits_rise.Goals as goal

pub returns : goal.returns
returns c = law
