use Rattle.cp_ops.proofs.Entries.{entries_short}
use Rattle.cp_ops.proofs.sizes.entries_are_short.Goals as goal

pub returns : goal.returns
returns c = entries_short
