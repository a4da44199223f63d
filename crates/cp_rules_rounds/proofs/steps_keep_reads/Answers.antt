use Rattle.cp_rules_rounds.proofs.Waiting.{steps_keep_reads as law}
use Rattle.cp_rules_rounds.proofs.steps_keep_reads.Goals as goal

pub returns : goal.returns
returns c = law
