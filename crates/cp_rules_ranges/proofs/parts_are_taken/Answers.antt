use Rattle.cp_rules_ranges.proofs.Laws.{parts_are_taken as law}
use Rattle.cp_rules_ranges.proofs.parts_are_taken.Goals as goal

pub returns : goal.returns
returns c = law
