use Rattle.cp_election.proofs.Rules.{pre_vote_replies_go_as_decided as law}
use Rattle.cp_election.proofs.pre_vote_replies_go_as_decided.Goals as goal

pub returns : goal.returns
returns c = law
