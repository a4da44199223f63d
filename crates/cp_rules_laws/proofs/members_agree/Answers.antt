use Rattle.cp_rules_laws.proofs.Moments.{members_agree as law}
use Rattle.cp_rules_laws.proofs.members_agree.Goals as goal

pub returns : goal.returns
returns c = law
