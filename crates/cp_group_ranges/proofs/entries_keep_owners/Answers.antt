use Rattle.cp_group_ranges.proofs.Owners.{own-apply}
use Rattle.cp_group_ranges.proofs.entries_keep_owners.Goals as goal

pub returns : goal.returns
returns c = own-apply
