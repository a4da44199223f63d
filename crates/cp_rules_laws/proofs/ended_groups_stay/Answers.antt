use Rattle.cp_rules_laws.proofs.Ended.{ended_groups_stay as law}
use Rattle.cp_rules_laws.proofs.ended_groups_stay.Goals as goal

pub returns : goal.returns
returns c = law
