use Rattle.cp_safety.proofs.Laws.{committed_prefixes as law}
use Rattle.cp_safety.proofs.committed_prefixes.Goals as goal

pub returns : goal.returns
returns c = law
