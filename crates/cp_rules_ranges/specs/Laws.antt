-- What a step writes is what a store takes, and what it sends has a spelling.
use Rattle.std.specs.Prelude.{◌≡◌, ℕ, ◌≤◌, length, List, Some, Contains, IsTrue}
use Rattle.cp_base.specs.declared.identifier.GroupId.{GroupId}
use Rattle.cp_base.specs.declared.limits.TheConstants.{BODY_LIMIT}
use Rattle.cp_parts.specs.Parts.{part_grammar}
use Rattle.cp_grammar.specs.Common as common
use Rattle.cp_log_rules.specs.Persistent.{PersistentState, new_group}
use Rattle.cp_log_rules.specs.Durable.{DurableState, group_at}
use Rattle.cp_log_rules.specs.Legal.{is_legal}
use Rattle.cp_message.specs.Messages.{message_grammar}
use Rattle.cp_rules.specs.Limits.{most_index}
use Rattle.cp_rules.specs.Persistent.{Part, after_part}
use Rattle.cp_rules.specs.Parts.{part_of}
use Rattle.cp_rules.specs.Volatile.{VolatileState, started}
use Rattle.cp_rules.specs.Local.{Body, Sent, Event}
use Rattle.cp_rules.specs.Steps.{step}
use Rattle.cp_rules_facts.specs.Soundness.{IsSound, IsFair}
use Rattle.cp_rules_ranges.specs.Messages.{message_of}
use Rattle.cp_rules_ranges.specs.Ranges.{IsInRange, IsMember, BodyIsInRange, EventIsInRange}

-- a sound member in range, and a fair event in range
pub record MayStep (me : ℕ) (p : PersistentState) (v : VolatileState) (event : Event) : Type 0 where
  pub member : IsMember me
  pub sound : IsSound me p v
  pub range : IsInRange p v
  pub fair : IsFair p v event
  pub comes : EventIsInRange v event

-- ---- members stay in range

-- A step leaves a sound member in range, and so does a crash; a group begins in range.
pub record StaysInRange : Type 0 where
  pub step : (me : ℕ) (p : PersistentState) (v : VolatileState) (event : Event) → MayStep me p v event
      → IsInRange (after_part (step me p v event).part p) (step me p v event).state
  pub start : (p : PersistentState) (v : VolatileState) (clock : ℕ) → IsInRange p v → clock ≤ most_index → IsInRange p (started p.base clock)
  pub begin : (members : List ℕ) (clock : ℕ) → common.members.Fits members → clock ≤ most_index → IsInRange (new_group members) (started 0 clock)

-- ---- one step after another

-- a member that may take a step: one of the nine, sound and in range
pub record MayGoOn (me : ℕ) (p : PersistentState) (v : VolatileState) : Type 0 where
  pub member : IsMember me
  pub sound : IsSound me p v
  pub range : IsInRange p v

-- What each step requires of the member, the step before it leaves, and so does a crash; a group begins with it.
pub record StepsGoOn : Type 0 where
  pub step : (me : ℕ) (p : PersistentState) (v : VolatileState) (event : Event) → MayStep me p v event
      → MayGoOn me (after_part (step me p v event).part p) (step me p v event).state
  pub start : (me clock : ℕ) (p : PersistentState) (v : VolatileState) → MayGoOn me p v → clock ≤ most_index → MayGoOn me p (started p.base clock)
  pub begin : (me clock : ℕ) (members : List ℕ) → IsMember me → common.members.Fits members → clock ≤ most_index → MayGoOn me (new_group members) (started 0 clock)

-- ---- what is written

-- A part that a store takes: it is legal after what is stored, has a spelling, and a record of the journal has room for it.
pub record IsTaken (group : GroupId) (s : DurableState) (x : Part) : Type 0 where
  pub legal : IsTrue (is_legal (part_of group x) s)
  pub fits : part_grammar.Fits (part_of group x)
  pub room : length (part_grammar.spelling (part_of group x)) ≤ BODY_LIMIT

-- In the second format, for a group that stands.
abbrev pub PartsAreTaken : Type 0
PartsAreTaken = (group : GroupId) (s : DurableState) (me : ℕ) (p : PersistentState) (v : VolatileState) (event : Event) (part : Part)
    → group.0 ≤ most_index → s.format ≡ 2 → group_at s group.0 ≡ Some p → MayStep me p v event
    → (step me p v event).part ≡ Some part → IsTaken group s part

-- ---- what is sent

abbrev pub MessagesAreSpelled : Type 0
MessagesAreSpelled = (group : GroupId) (me : ℕ) (p : PersistentState) (v : VolatileState) (event : Event) (x : Sent)
    → group.0 ≤ most_index → MayStep me p v event
    → Contains (step me p v event).sends x → message_grammar.Fits (message_of group me x.to x.body)

-- A message that has a spelling is in range, so what comes over the wire from a member is.
abbrev pub SpelledAreInRange : Type 0
SpelledAreInRange = (group : GroupId) (from to : ℕ) (body : Body) → message_grammar.Fits (message_of group from to body) → BodyIsInRange body
