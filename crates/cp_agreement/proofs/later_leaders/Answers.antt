use Rattle.cp_agreement.proofs.Moments.{later_leaders as law}
use Rattle.cp_agreement.proofs.later_leaders.Goals as goal

pub returns : goal.returns
returns c = law
