use Rattle.std.proofs.Common.{◌≡◌, length}
use Rattle.cp_group_state.specs.Semaphores.{take_all}
use Rattle.cp_semaphore.specs.Tables.{seen, IsTable}
use Rattle.cp_semaphore.specs.Serving.{CanTake}
use Rattle.cp_semaphore.proofs.serving.take_each.Given as goal

abbrev pub invariant-loop-rest : goal.invariant-loop-rest
invariant-loop-rest l = record {
  table : IsTable l.tables;
  can : CanTake l.key l.rest (seen l.tables);
  same : take_all l.key l.rest (seen l.tables) ≡ take_all l.key l.waiters (seen l.fn.tables);
}

abbrev pub decreases-loop-rest : goal.decreases-loop-rest
decreases-loop-rest l = length l.rest
