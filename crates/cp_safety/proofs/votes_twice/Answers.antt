use Rattle.std.proofs.Common.{refl}
use Rattle.cp_safety.proofs.Examples.{votes_twice_meets}
use Rattle.cp_safety.proofs.votes_twice.Goals as goal

pub returns : goal.returns
returns c = record { meets = votes_twice_meets; one = refl; two = refl; same = refl }
