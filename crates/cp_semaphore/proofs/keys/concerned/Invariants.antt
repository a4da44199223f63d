use Rattle.std.proofs.Common.{◌≡◌, ◌++◌}
use Rattle.std.specs.List.{filter}
use Rattle.std.specs.Map.{keys_of}
use Rattle.cp_semaphore.specs.Concerns.{is_concerned}
use Rattle.cp_semaphore.proofs.keys.concerned.Given as goal

abbrev pub invariant-loop-name : goal.invariant-loop-name
invariant-loop-name l = l.keys ++ filter (is_concerned l.sessions l.ended l.semaphores.holdings) (keys_of l.name-iterator) ≡ filter (is_concerned l.sessions l.ended l.semaphores.holdings) (keys_of l.semaphores.rows)
