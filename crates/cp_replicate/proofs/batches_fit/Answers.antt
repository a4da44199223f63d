use Rattle.cp_replicate.proofs.Batches.{batches_fit as law}
use Rattle.cp_replicate.proofs.batches_fit.Goals as goal

pub returns : goal.returns
returns c = law
