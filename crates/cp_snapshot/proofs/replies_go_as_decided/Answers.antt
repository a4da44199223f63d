use Rattle.cp_snapshot.proofs.Pieces.{replies_go_as_decided as law}
use Rattle.cp_snapshot.proofs.replies_go_as_decided.Goals as goal

pub returns : goal.returns
returns c = law
