-- What may come to a member, whatever it keeps.
use Rattle.std.specs.Prelude.{Option, Some, None}
use Rattle.cp_log_rules.specs.Persistent.{PersistentState}
use Rattle.cp_rules.specs.Local.{Body, Event}
use Rattle.cp_rules.specs.Volatile.{VolatileState}
use Rattle.cp_rules_facts.specs.Soundness.{IsFair}
use Rattle.cp_rules_ranges.specs.Ranges.{BodyIsInRange, EventIsInRange}
use Rattle.cp_raft.specs.Taking.{NamesMember}

pub record MayCome (event : Event) : Type 0 where
  pub fair : (p : PersistentState) (v : VolatileState) → IsFair p v event
  pub comes : (v : VolatileState) → EventIsInRange v event
  pub names : NamesMember event

-- a body in range, of a kind for members of a group
abbrev pub IsSaid : Option Body → Type 0
IsSaid None = ⊥
IsSaid (Some body) = BodyIsInRange body
