use Rattle.cp_rules_rounds.proofs.Leading.{leaders_are_last as law}
use Rattle.cp_rules_rounds.proofs.leaders_are_last.Goals as goal

pub returns : goal.returns
returns c = law
