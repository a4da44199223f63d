use Rattle.cp_agreement.proofs.Moments.{committed_prefixes as law}
use Rattle.cp_agreement.proofs.committed_prefixes.Goals as goal

pub returns : goal.returns
returns c = law
