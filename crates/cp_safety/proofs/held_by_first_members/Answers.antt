use Rattle.cp_safety.proofs.Laws.{held_by_first_members as law}
use Rattle.cp_safety.proofs.held_by_first_members.Goals as goal

pub returns : goal.returns
returns c = law
