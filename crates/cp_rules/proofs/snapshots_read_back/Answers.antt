use Rattle.cp_rules.proofs.SpellingLaws.{snapshots_read_back as law}
use Rattle.cp_rules.proofs.snapshots_read_back.Goals as goal

pub returns : goal.returns
returns c = law
