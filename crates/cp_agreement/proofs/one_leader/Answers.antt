use Rattle.cp_agreement.proofs.Moments.{one_leader as law}
use Rattle.cp_agreement.proofs.one_leader.Goals as goal

pub returns : goal.returns
returns c = law
