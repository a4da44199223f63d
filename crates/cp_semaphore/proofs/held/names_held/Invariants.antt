use Rattle.std.proofs.Common.{◌≡◌, ℕ, List, ◌||◌}
use Rattle.cp_semaphore.specs.Nested.{flat}
use Rattle.cp_semaphore.specs.Concerns.{has, held_named}
use Rattle.cp_semaphore.proofs.held.names_held.Given as goal

abbrev pub invariant-loop-session : goal.invariant-loop-session
invariant-loop-session l = (name : List ℕ) → (has l.names.entries name || held_named l.sessions (flat l.session-iterator) name) ≡ held_named l.sessions (flat l.holdings.entries) name
