use Rattle.cp_agreement.proofs.Quorums.{quorums_meet as law}
use Rattle.cp_agreement.proofs.quorums_meet.Goals as goal

pub returns : goal.returns
returns c = law
