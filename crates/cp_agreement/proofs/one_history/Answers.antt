use Rattle.cp_agreement.proofs.Moments.{one_history as law}
use Rattle.cp_agreement.proofs.one_history.Goals as goal

pub returns : goal.returns
returns c = law
