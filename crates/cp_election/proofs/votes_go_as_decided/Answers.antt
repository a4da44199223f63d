use Rattle.cp_election.proofs.Rules.{votes_go_as_decided as law}
use Rattle.cp_election.proofs.votes_go_as_decided.Goals as goal

pub returns : goal.returns
returns c = law
