-- Adopting a term: the term with no vote in it; Follower, and no leader known.
use Rattle.std.specs.Prelude.{ℕ, [], Some, if◌then◌else◌, nat_lt}
use Rattle.cp_rules.specs.declared.ballot.Ballot.{Ballot}
use Rattle.cp_rules.specs.declared.role.Role.TheVariants.{Follower}
use Rattle.cp_log_rules.specs.Persistent.{PersistentState}
use Rattle.cp_rules.specs.Persistent.{StatePart}
use Rattle.cp_rules.specs.Volatile.{VolatileState}
use Rattle.cp_rules.specs.Local.{LocalStep, does}

abbrev pub adopted : ℕ → Ballot → Ballot
adopted term b = if nat_lt b.term term then record { term = term; vote = 0 } else b

abbrev pub steps_down : VolatileState → VolatileState
steps_down v = record v { role = Follower; leader = 0 }

-- where the term is greater than the member's own
abbrev pub steps_down_for : ℕ → PersistentState → VolatileState → VolatileState
steps_down_for term p v = if nat_lt p.term term then steps_down v else v

-- a reply of a greater term
abbrev pub adopts : ℕ → PersistentState → VolatileState → LocalStep
adopts term p v = does (Some (StatePart (record { term = term; vote = 0 }))) (steps_down v) []
