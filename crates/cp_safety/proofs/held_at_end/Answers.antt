use Rattle.cp_safety.proofs.Laws.{held_at_end as law}
use Rattle.cp_safety.proofs.held_at_end.Goals as goal

pub returns : goal.returns
returns c = law
