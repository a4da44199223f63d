use Rattle.cp_group_ranges.proofs.Counts.{counted-history}
use Rattle.cp_group_ranges.proofs.histories_are_counted.Goals as goal

pub returns : goal.returns
returns c = counted-history
