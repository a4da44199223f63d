use Rattle.std.proofs.Common.{◌≡◌, length}
use Rattle.cp_group_state.specs.Semaphores.{all_back}
use Rattle.cp_semaphore.specs.Tables.{seen, IsTable}
use Rattle.cp_semaphore.proofs.closing.close_sessions.Given as goal

abbrev pub invariant-loop-rest : goal.invariant-loop-rest
invariant-loop-rest l = record {
  table : IsTable l.tables;
  same : all_back l.rest (seen l.tables) ≡ all_back l.sessions (seen l.fn.tables);
}

abbrev pub decreases-loop-rest : goal.decreases-loop-rest
decreases-loop-rest l = length l.rest
