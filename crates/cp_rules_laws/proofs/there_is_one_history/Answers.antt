use Rattle.cp_rules_laws.proofs.Histories.{there_is_one_history as law}
use Rattle.cp_rules_laws.proofs.there_is_one_history.Goals as goal

pub returns : goal.returns
returns c = law
