use Rattle.std.proofs.Common.{◌≡◌, ℕ, List, ◌||◌, length}
use Rattle.cp_semaphore.specs.Concerns.{has, left_named}
use Rattle.cp_semaphore.proofs.left.names_left.Given as goal

abbrev pub invariant-loop-rest : goal.invariant-loop-rest
invariant-loop-rest l = (name : List ℕ) → (has l.names.entries name || left_named l.rest l.kind name) ≡ left_named l.ended l.kind name

abbrev pub decreases-loop-rest : goal.decreases-loop-rest
decreases-loop-rest l = length l.rest
