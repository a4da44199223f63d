-- A tick, by its parts: the member's own snapshot, and a leader's beat.
use Rattle.std.specs.Prelude.{ℕ, ◌-◌, Bool, ◌&&◌, if◌then◌else◌, List, [], ◌++◌, length, map, Option, Some, None, nat_le}
use Rattle.cp_log_rules.specs.Persistent.{PersistentState}
use Rattle.cp_rules.specs.Limits.{beat_period, most_snapshot}
use Rattle.cp_rules.specs.Local.{Sent}
use Rattle.cp_rules.specs.Persistent.{Part, SnapshotPart, ballot}
use Rattle.cp_rules.specs.Sending.{appends}
use Rattle.cp_rules.specs.Snapshots.{own_head, from_start}
use Rattle.cp_rules.specs.Spelling.{snapshot_bytes}
use Rattle.cp_rules.specs.Ticks.{confirms_again}
use Rattle.cp_rules.specs.Volatile.{VolatileState}

-- ---- the member's own snapshot

abbrev pub if_fits : Bool → List ℕ → Option (List ℕ)
if_fits may_write whole = if may_write && nat_le (length whole) most_snapshot then Some whole else None

-- the bytes of the snapshot of an index that is written, if one is
abbrev pub own_bytes : PersistentState → ℕ → Bool → Option (List ℕ) → Option (List ℕ)
own_bytes p index may_write None = None
own_bytes p index may_write (Some machine) = if_fits may_write (snapshot_bytes (own_head p index) machine)

abbrev pub own_part : PersistentState → ℕ → Option (List ℕ) → Option Part
own_part p index None = None
own_part p index (Some bytes) = Some (SnapshotPart (ballot p) index bytes)

-- a new snapshot is sent from its start
abbrev pub from_new : Option (List ℕ) → VolatileState → VolatileState
from_new None v = v
from_new (Some bytes) v = record v { peers = map from_start v.peers }

-- ---- a beat of one that leads and has appended nothing

abbrev pub is_due : VolatileState → Bool
is_due v = nat_le beat_period (v.clock - v.beat)

abbrev pub beaten : VolatileState → VolatileState
beaten v = if is_due v then record v { beat = v.clock } else v

abbrev pub beat_sends : ℕ → PersistentState → VolatileState → List Sent
beat_sends me p v = if is_due v then appends me p (record v { beat = v.clock }) ++ confirms_again me p v.reads else []
