use Rattle.std.proofs.Common.{◌≡◌}
use Rattle.cp_rules_laws.proofs.Snapshots.{snapshots_have}
use Rattle.cp_rules_laws.proofs.snapshots_read.Goals as goal

pub returns : goal.returns
returns g c = λ reads view. snapshots_have (λ index text. reads text ≡ view index)
