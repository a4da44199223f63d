use Rattle.cp_rules_facts.proofs.Laws.{stays_sound as law}
use Rattle.cp_rules_facts.proofs.members_stay_sound.Goals as goal

pub returns : goal.returns
returns c = law
