use Rattle.cp_election.proofs.Rules.{vote_replies_go_as_decided as law}
use Rattle.cp_election.proofs.vote_replies_go_as_decided.Goals as goal

pub returns : goal.returns
returns c = law
