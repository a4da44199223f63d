use Rattle.cp_rules_rounds.proofs.Answers.{answers_are_fresh as law}
use Rattle.cp_rules_rounds.proofs.answers_are_fresh.Goals as goal

pub returns : goal.returns
returns c = law
