-- What contracts see of a member.
use Rattle.std.specs.Prelude.{◌≡◌, ◌≤◌, Some}
use Rattle.cp_log_rules.specs.Persistent.{PersistentState}
use Rattle.cp_log_rules.specs.Durable.{DurableState, group_at, group_in}
use Rattle.cp_rules.specs.Limits.{most_index}
use Rattle.cp_rules.specs.Volatile.{VolatileState}
use Rattle.cp_rules_ranges.specs.Laws as ranges
use Rattle.cp_raft_state.specs.declared.seat.Seat.{Seat}
use Rattle.cp_raft.specs.declared.raft.Raft.{Raft}
use Rattle.cp_raft.specs.Frugal.{NoneReady}

-- whose it is
abbrev pub seat_of : Raft → Seat
seat_of raft = raft.seat

-- what it keeps in memory
abbrev pub state_of : Raft → VolatileState
state_of raft = raft.state

-- This is what is stored of the group of a seat, in a store of the second format.
pub record HasStored (s : DurableState) (seat : Seat) (p : PersistentState) : Type 0 where
  pub group : seat.group.0 ≤ most_index
  pub format : s.format ≡ 2
  pub stands : group_at s seat.group.0 ≡ Some p

-- A member stands so that another step may be taken; no read waits that can be answered.
pub record MayGoOn (s : DurableState) (seat : Seat) (v : VolatileState) : Type 0 where
  pub stored : HasStored s seat (group_in s seat.group.0)
  pub may : ranges.MayGoOn seat.me (group_in s seat.group.0) v
  pub settled : NoneReady seat.me (group_in s seat.group.0) v
