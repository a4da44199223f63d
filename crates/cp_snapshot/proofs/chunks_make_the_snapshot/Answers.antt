use Rattle.cp_snapshot.proofs.Pieces.{chunks_make_the_snapshot as law}
use Rattle.cp_snapshot.proofs.chunks_make_the_snapshot.Goals as goal

pub returns : goal.returns
returns c = law
