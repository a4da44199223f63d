use Rattle.cp_election.proofs.Rules.{pre_votes_go_as_decided as law}
use Rattle.cp_election.proofs.pre_votes_go_as_decided.Goals as goal

pub returns : goal.returns
returns c = law
