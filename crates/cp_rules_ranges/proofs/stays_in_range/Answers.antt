use Rattle.cp_rules_ranges.proofs.Steps.{stays_in_range as law}
use Rattle.cp_rules_ranges.proofs.stays_in_range.Goals as goal

pub returns : goal.returns
returns c = law
