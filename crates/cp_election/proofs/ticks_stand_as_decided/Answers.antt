use Rattle.cp_election.proofs.Rules.{ticks_stand_as_decided as law}
use Rattle.cp_election.proofs.ticks_stand_as_decided.Goals as goal

pub returns : goal.returns
returns c = law
