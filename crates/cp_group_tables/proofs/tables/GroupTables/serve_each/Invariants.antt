use Rattle.std.proofs.Common.{◌≡◌, ◌++◌, length}
use Rattle.cp_group_state.specs.Changes.{for_each}
use Rattle.cp_group_state.specs.Serving.{serve}
use Rattle.cp_group_state.specs.Apply.{told}
use Rattle.cp_group_tables.proofs.tables.GroupTables.serve_each.Given as goal

abbrev pub invariant-loop-rest : goal.invariant-loop-rest
invariant-loop-rest l = record {
  state : (for_each (serve) l.rest l.self).state ≡ (for_each (serve) l.semaphores l.fn.self).state;
  told : l.out ++ told (for_each (serve) l.rest l.self).ended ≡ l.fn.out ++ told (for_each (serve) l.semaphores l.fn.self).ended;
}

abbrev pub decreases-loop-rest : goal.decreases-loop-rest
decreases-loop-rest l = length l.rest
