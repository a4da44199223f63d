use Rattle.cp_ops.proofs.Entries.{older_entries_short}
use Rattle.cp_ops.proofs.sizes.older_entries_are_short.Goals as goal

pub returns : goal.returns
returns c = older_entries_short
