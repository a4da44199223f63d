-- The parts of a state's bytes, list by list.
use Rattle.std.specs.Prelude.{ℕ, List, [], ◌++◌}
use Rattle.cp_grammar.specs.Common.{group_id}
use Rattle.cp_group_state.specs.GroupState.{GroupState}
use Rattle.cp_state_bytes.specs.declared.version.Version.TheVariants.{Third}
use Rattle.cp_state_bytes.specs.Rows.{session_row, lock_row, semaphore_row, held_row, latch_row, long_row, ref_row, gone_row, waiter_row, memory_row, pair_row}
use Rattle.cp_state_bytes.specs.Lists.{by_name}
use Rattle.cp_state_bytes.specs.Spelled.{list_spelled}

unfoldable pub owners_spelled : GroupState → List ℕ
owners_spelled s = group_id.spelling s.destroyed_group ++ (list_spelled (session_row []) s.sessions ++ (list_spelled (lock_row []) s.locks
    ++ (list_spelled (semaphore_row []) s.semaphores.rows ++ list_spelled (held_row []) (by_name s.semaphores.holdings))))

unfoldable pub objects_spelled : GroupState → List ℕ
objects_spelled s = list_spelled (latch_row []) s.latches ++ (list_spelled (long_row []) s.longs ++ (list_spelled (ref_row Third []) s.refs ++ list_spelled (gone_row Third []) s.gone))

unfoldable pub calls_spelled : GroupState → List ℕ
calls_spelled s = list_spelled waiter_row s.waiters ++ (list_spelled (memory_row Third []) s.memory ++ list_spelled (pair_row []) s.maps)
