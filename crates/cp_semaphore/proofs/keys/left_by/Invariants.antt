use Rattle.std.proofs.Common.{◌≡◌, ◌++◌}
use Rattle.std.specs.List.{filter}
use Rattle.std.specs.Map.{keys_of}
use Rattle.cp_semaphore.specs.Concerns.{is_left}
use Rattle.cp_semaphore.proofs.keys.left_by.Given as goal

abbrev pub invariant-loop-name : goal.invariant-loop-name
invariant-loop-name l = l.keys ++ filter (is_left l.ended) (keys_of l.name-iterator) ≡ filter (is_left l.ended) (keys_of l.semaphores.rows)
