use Rattle.std.proofs.Common.{◌≡◌, ◌++◌}
use Rattle.cp_group_state.specs.Locks.{held_among}
use Rattle.cp_lock.proofs.close.names_held.Given as goal

abbrev pub invariant-loop-name : goal.invariant-loop-name
invariant-loop-name l = l.names.items ++ held_among l.closed l.name-iterator ≡ held_among l.closed l.rows.entries
