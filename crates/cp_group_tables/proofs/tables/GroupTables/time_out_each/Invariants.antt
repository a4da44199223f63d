use Rattle.std.proofs.Common.{◌≡◌, ◌++◌, length}
use Rattle.cp_group_state.specs.Changes.{for_each}
use Rattle.cp_group_state.specs.Apply.{told}
use Rattle.cp_group_tables.specs.declared.ending.Ending.TheVariants as ending
use Rattle.cp_group_tables.specs.Endings.{ended_by, timed_out}
use Rattle.cp_group_tables.proofs.tables.GroupTables.time_out_each.Given as goal

abbrev pub invariant-loop-rest : goal.invariant-loop-rest
invariant-loop-rest l = record {
  state : (for_each timed_out l.rest l.self).state ≡ (for_each timed_out l.calls l.fn.self).state;
  ended : ended_by ending.TimedOut l.ended ++ (for_each timed_out l.rest l.self).ended ≡ (for_each timed_out l.calls l.fn.self).ended;
  told : l.out ++ told (for_each timed_out l.rest l.self).ended ≡ l.fn.out ++ told (for_each timed_out l.calls l.fn.self).ended;
}

abbrev pub decreases-loop-rest : goal.decreases-loop-rest
decreases-loop-rest l = length l.rest
