use Rattle.cp_safety.proofs.Chunks.{chunks_join as law}
use Rattle.cp_safety.proofs.chunks_join.Goals as goal

pub returns : goal.returns
returns c = law
