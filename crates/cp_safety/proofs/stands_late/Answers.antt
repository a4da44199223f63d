use Rattle.std.proofs.Common.{refl}
use Rattle.cp_safety.proofs.Examples.{stands_late_meets}
use Rattle.cp_safety.proofs.stands_late.Goals as goal

pub returns : goal.returns
returns c = record { meets = stands_late_meets; one = refl; two = refl; same = refl }
