use Rattle.cp_rules_facts.proofs.Laws.{steps_meet_facts as law}
use Rattle.cp_rules_facts.proofs.steps_meet_facts.Goals as goal

pub returns : goal.returns
returns c = law
