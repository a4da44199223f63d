use Rattle.std.proofs.Common.{◌≡◌, ◌++◌, length}
use Rattle.cp_group_state.specs.Memory.{note_all}
use Rattle.cp_group_state.specs.Apply.{told}
use Rattle.cp_group_tables.specs.Endings.{ended_by}
use Rattle.cp_group_tables.proofs.waiters.note_each.Given as goal

abbrev pub invariant-loop-rest : goal.invariant-loop-rest
invariant-loop-rest l = record {
  memory : note_all l.memory (ended_by l.ending l.rest) ≡ note_all l.fn.memory (ended_by l.ending l.waiters);
  told : l.out ++ told (ended_by l.ending l.rest) ≡ l.fn.out ++ told (ended_by l.ending l.waiters);
}

abbrev pub decreases-loop-rest : goal.decreases-loop-rest
decreases-loop-rest l = length l.rest
