use Rattle.cp_agreement.proofs.Moments.{equal_prefixes as law}
use Rattle.cp_agreement.proofs.equal_prefixes.Goals as goal

pub returns : goal.returns
returns c = law
