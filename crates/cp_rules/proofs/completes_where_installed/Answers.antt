use Rattle.cp_rules.proofs.Completes.{completes_where_installed as law}
use Rattle.cp_rules.proofs.completes_where_installed.Goals as goal

pub returns : goal.returns
returns c = law
