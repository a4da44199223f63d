use Rattle.cp_rules_rounds.proofs.Steps.{steps_confirm_rounds as law}
use Rattle.cp_rules_rounds.proofs.steps_confirm_rounds.Goals as goal

pub returns : goal.returns
returns c = law
