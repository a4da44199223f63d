use Rattle.cp_replicate.proofs.Rules.{reads_go_as_decided as law}
use Rattle.cp_replicate.proofs.reads_go_as_decided.Goals as goal

pub returns : goal.returns
returns c = law
