use Rattle.cp_replicate.proofs.Rules.{sends_as_decided as law}
use Rattle.cp_replicate.proofs.sends_as_decided.Goals as goal

pub returns : goal.returns
returns c = law
