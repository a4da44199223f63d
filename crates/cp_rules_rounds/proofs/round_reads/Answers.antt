use Rattle.cp_rules_rounds.proofs.Answers.{round_reads as law}
use Rattle.cp_rules_rounds.proofs.round_reads.Goals as goal

pub returns : goal.returns
returns c = law
