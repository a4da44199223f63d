use Rattle.cp_safety.proofs.Laws.{later_offices as law}
use Rattle.cp_safety.proofs.later_offices.Goals as goal

pub returns : goal.returns
returns c = law
