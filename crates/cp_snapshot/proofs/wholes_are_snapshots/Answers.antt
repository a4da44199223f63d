use Rattle.cp_snapshot.proofs.Pieces.{wholes_are_snapshots as law}
use Rattle.cp_snapshot.proofs.wholes_are_snapshots.Goals as goal

pub returns : goal.returns
returns c = law
