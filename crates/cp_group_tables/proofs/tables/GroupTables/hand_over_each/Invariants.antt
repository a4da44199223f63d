use Rattle.std.proofs.Common.{◌≡◌, ◌++◌, length}
use Rattle.cp_group_state.specs.Changes.{for_each}
use Rattle.cp_group_state.specs.Serving.{hand_over}
use Rattle.cp_group_state.specs.Apply.{told}
use Rattle.cp_group_tables.specs.Stand.{EachStands}
use Rattle.cp_group_tables.proofs.tables.GroupTables.hand_over_each.Given as goal

abbrev pub invariant-loop-rest : goal.invariant-loop-rest
invariant-loop-rest l = record {
  there : EachStands l.rest l.self.locks;
  state : (for_each (hand_over l.index) l.rest l.self).state ≡ (for_each (hand_over l.index) l.names l.fn.self).state;
  told : l.out ++ told (for_each (hand_over l.index) l.rest l.self).ended ≡ l.fn.out ++ told (for_each (hand_over l.index) l.names l.fn.self).ended;
}

abbrev pub decreases-loop-rest : goal.decreases-loop-rest
decreases-loop-rest l = length l.rest
