use Rattle.cp_agreement.proofs.Quorums.{quorums_meet as law}
use Rattle.cp_safety.proofs.neighbours_meet.Goals as goal

pub returns : goal.returns
returns c = law
