use Rattle.cp_rules_ranges.proofs.Bodies.{spelled_in_range}
use Rattle.cp_rules_ranges.proofs.what_comes_is_in_range.Goals as goal

pub returns : goal.returns
returns c = spelled_in_range
