use Rattle.cp_group_rules.proofs.Viewing.{machines_read_back, snapshots_restore as law}
use Rattle.cp_group_rules.proofs.snapshots_restore.Goals as goal

pub returns : goal.returns
returns g c = record { bytes = machines_read_back; machine = λ m. law m }
