use Rattle.cp_raft.proofs.Said.{said_in_range}
use Rattle.cp_raft.proofs.coming.what_has_a_spelling_is_in_range.Goals as goal

pub returns : goal.returns
returns c = said_in_range
