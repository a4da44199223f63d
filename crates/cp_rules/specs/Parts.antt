-- The parts of steps as parts of the journal.
use Rattle.std.specs.Prelude.{◌≡◌, ◌≢◌, ℕ, Some}
use Rattle.cp_base.specs.declared.identifier.GroupId.{GroupId}
use Rattle.cp_parts.specs.declared.part.Part as journal
use Rattle.cp_parts.specs.declared.part.Part.TheVariants as part
use Rattle.cp_log_rules.specs.Persistent.{PersistentState}
use Rattle.cp_log_rules.specs.Durable as durable
use Rattle.cp_log_rules.specs.Durable.{DurableState, group_at, with_group}
use Rattle.cp_rules.specs.Persistent.{Part, StatePart, AppendPart, SnapshotPart, with_part}

-- the part of the journal that a step of this group writes
abbrev pub part_of : GroupId → Part → journal.Part
part_of group (StatePart b) = part.State group b.term b.vote
part_of group (AppendPart b after entries) = part.Append group b.term b.vote after entries
part_of group (SnapshotPart b index bytes) = part.Snapshot group b.term b.vote index bytes

-- The part of a step changes what the member has stored of its group, as the step says, and nothing of another.
pub record ChangesItsGroup (group : GroupId) (x : Part) (s : DurableState) : Type 0 where
  pub whole : durable.with_part (part_of group x) s ≡ with_group group.0 (with_part x) s
  pub own : (p : PersistentState) → group_at s group.0 ≡ Some p → group_at (durable.with_part (part_of group x) s) group.0 ≡ Some (with_part x p)
  pub others : (other : ℕ) → other ≢ group.0 → group_at (durable.with_part (part_of group x) s) other ≡ group_at s other

abbrev pub PartsChangeTheirGroup : Type 0
PartsChangeTheirGroup = (group : GroupId) (x : Part) (s : DurableState) → ChangesItsGroup group x s
