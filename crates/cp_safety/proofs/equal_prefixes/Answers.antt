use Rattle.cp_safety.proofs.Laws.{equal_prefixes as law}
use Rattle.cp_safety.proofs.equal_prefixes.Goals as goal

pub returns : goal.returns
returns c = law
