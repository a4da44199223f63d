use Rattle.cp_replicate.proofs.Rules.{append_replies_go_as_decided as law}
use Rattle.cp_replicate.proofs.append_replies_go_as_decided.Goals as goal

pub returns : goal.returns
returns c = law
