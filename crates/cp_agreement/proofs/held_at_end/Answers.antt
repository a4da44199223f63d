use Rattle.cp_agreement.proofs.Moments.{held_at_end as law}
use Rattle.cp_agreement.proofs.held_at_end.Goals as goal

pub returns : goal.returns
returns c = law
