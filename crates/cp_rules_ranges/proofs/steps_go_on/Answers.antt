use Rattle.cp_rules_ranges.proofs.Steps.{steps_go_on as law}
use Rattle.cp_rules_ranges.proofs.steps_go_on.Goals as goal

pub returns : goal.returns
returns c = law
