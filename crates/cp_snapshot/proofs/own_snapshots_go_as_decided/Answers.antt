use Rattle.cp_snapshot.proofs.Rules.{own_snapshots_go_as_decided as law}
use Rattle.cp_snapshot.proofs.own_snapshots_go_as_decided.Goals as goal

pub returns : goal.returns
returns c = law
