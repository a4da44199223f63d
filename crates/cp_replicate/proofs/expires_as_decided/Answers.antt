use Rattle.cp_replicate.proofs.Rules.{expires_as_decided as law}
use Rattle.cp_replicate.proofs.expires_as_decided.Goals as goal

pub returns : goal.returns
returns c = law
