use Rattle.cp_rules.proofs.Chunks.{apart}
use Rattle.cp_rules.proofs.chunks_stay_apart.Goals as goal

pub returns : goal.returns
returns c = apart
