use Rattle.cp_replicate.proofs.Rules.{commits_go_as_decided as law}
use Rattle.cp_replicate.proofs.commits_go_as_decided.Goals as goal

pub returns : goal.returns
returns c = law
