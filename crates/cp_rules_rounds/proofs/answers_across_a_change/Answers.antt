use Rattle.cp_rules_rounds.proofs.Examples.{happens, answered, configured}
use Rattle.cp_rules_rounds.proofs.answers_across_a_change.Goals as goal

pub returns : goal.returns
returns c = record { happens = happens; answered = answered; configured = configured }
