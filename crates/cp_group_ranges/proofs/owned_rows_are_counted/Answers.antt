use Rattle.cp_group_ranges.proofs.Counts.{counted}
use Rattle.cp_group_ranges.proofs.owned_rows_are_counted.Goals as goal

pub returns : goal.returns
returns c = counted
