use Rattle.cp_safety.proofs.Laws.{one_office as law}
use Rattle.cp_safety.proofs.one_office.Goals as goal

pub returns : goal.returns
returns c = law
