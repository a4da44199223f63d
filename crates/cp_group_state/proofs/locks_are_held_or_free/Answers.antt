use Rattle.cp_group_state.proofs.Tables.{always-held-or-free}
use Rattle.cp_group_state.proofs.locks_are_held_or_free.Goals as goal

pub returns : goal.returns
returns c = always-held-or-free
