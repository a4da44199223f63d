use Rattle.cp_rules_laws.proofs.Snapshots.{snapshots_were_taken as law}
use Rattle.cp_rules_laws.proofs.snapshots_were_taken.Goals as goal

pub returns : goal.returns
returns c = law
