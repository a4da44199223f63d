use Rattle.std.proofs.Common.{refl}
use Rattle.cp_safety.proofs.Examples.{elects_meets}
use Rattle.cp_safety.proofs.elects_and_commits.Goals as goal

pub returns : goal.returns
returns c = record { meets = elects_meets; commits = refl }
