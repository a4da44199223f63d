use Rattle.cp_rules.proofs.SpellingLaws.{entry_members as law}
use Rattle.cp_rules.proofs.changes_are_spelled.Goals as goal

pub returns : goal.returns
returns c = law
