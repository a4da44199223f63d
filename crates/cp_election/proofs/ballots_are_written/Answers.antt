use Rattle.cp_election.proofs.Rules.{ballots_are_written as law}
use Rattle.cp_election.proofs.ballots_are_written.Goals as goal

pub returns : goal.returns
returns c = law
