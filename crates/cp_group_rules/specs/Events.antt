-- What comes to a group at a member, and which event of Raft it becomes.
use Rattle.std.specs.Prelude.{ℕ, ◌-◌, Bool, true, false, ◌&&◌, List, Option, Some, None, nat_lt, nat_le, if◌then◌else◌}
use Rattle.std.specs.Option.{option_map}
use Rattle.cp_base.specs.declared.identifier.Invocation.{Invocation}
use Rattle.cp_object_ops.specs.declared.latch_op.LatchOp.TheVariants as latch
use Rattle.cp_object_ops.specs.declared.lock_op.LockOp.TheVariants as lock
use Rattle.cp_object_ops.specs.declared.long_op.LongOp.TheVariants as long
use Rattle.cp_object_ops.specs.declared.map_op.MapOp.TheVariants as maps
use Rattle.cp_object_ops.specs.declared.ref_op.RefOp.TheVariants as ref
use Rattle.cp_object_ops.specs.declared.sem_op.SemOp.TheVariants as sem
use Rattle.cp_ops.specs.declared.change_op.ChangeOp.{ChangeOp}
use Rattle.cp_ops.specs.declared.change_op.ChangeOp.TheVariants as change
use Rattle.cp_ops.specs.declared.entry.Entry.{Entry}
use Rattle.cp_ops.specs.declared.entry.Entry.TheVariants as entry
use Rattle.cp_ops.specs.declared.op.Op.{Op}
use Rattle.cp_ops.specs.declared.op.Op.TheVariants as op
use Rattle.cp_ops.specs.Entries.{entry_grammar}
use Rattle.cp_ops.specs.Ops.{op_grammar}
use Rattle.cp_log_rules.specs.Persistent.{PersistentState}
use Rattle.cp_rules.specs.declared.change.Change.{Change}
use Rattle.cp_rules.specs.Limits.{most_index}
use Rattle.cp_rules.specs.Local as raft
use Rattle.cp_rules.specs.Local.{Body, is_leader}
use Rattle.cp_rules.specs.Volatile.{VolatileState}
use Rattle.cp_group_rules.specs.Machines.{Machine}
use Rattle.cp_group_rules.specs.Views.{view_at}
use Rattle.cp_group_rules.specs.Expiries.{expiry}
use Rattle.cp_group_rules.specs.Groups.{VolatileGroup}

-- A tick, with the clock after it; what a member sends; an attempt that passed the member's own tests; and what the member itself asks for,
-- an entry or a change of members.
pub data Event : Type 0 where
  Ticks : (clock : ℕ) (may_write : Bool) → Event
  Gets : (from : ℕ) (body : Body) → Event
  Asks : (from : ℕ) (call : Invocation) (attempt : ℕ) (op : Op) → Event
  Proposes : (entry : List ℕ) → Event
  Changes : (change : Change) (plan : ℕ) (call : Option Invocation) → Event

-- what a group takes of the header: behind how many entries a snapshot is written, and whether reads go by rounds
pub record Settings : Type 0 where
  pub distance : ℕ
  pub rounds : Bool

-- ---- requests

abbrev pub change_of : ChangeOp → Change
change_of (change.Add member expected) = record { add = true; member = member; expected = expected }
change_of (change.Remove member expected) = record { add = false; member = member; expected = expected }

abbrev pub entry_bytes : Entry → List ℕ
entry_bytes e = entry_grammar.spelling e

-- the operations that change nothing, and may so be answered without an entry
abbrev pub is_read : Op → Bool
is_read (op.Long name long.Get) = true
is_read (op.Ref name ref.Get) = true
is_read (op.Ref name (ref.Contains value)) = true
is_read (op.Lock name lock.Owner) = true
is_read (op.Sem name sem.Available) = true
is_read (op.Jsem name sem.Available) = true
is_read (op.Latch name latch.Count) = true
is_read (op.Map name (maps.Get key)) = true
is_read other = false

-- reads go by rounds here, and the leadership has one left
abbrev pub goes_by_round : Settings → VolatileState → Op → Bool
goes_by_round settings v o = settings.rounds && (nat_lt v.reads.round most_index && is_read o)

-- a change becomes a members entry, all else the entry of the call
abbrev pub by_entry : Invocation → Op → raft.Event
by_entry call (op.Change o) = raft.ChangeMembers (change_of o) 0 (Some call)
by_entry call o = raft.Propose (entry_bytes (entry.Call call o))

abbrev pub asked : Bool → Invocation → ℕ → Op → raft.Event
asked reads call attempt o = if reads then raft.Read call attempt (op_grammar.spelling o) else by_entry call o

-- ---- ticks

-- so many committed entries stand behind the base that a snapshot is due
abbrev pub is_far : Settings → PersistentState → ℕ → Bool
is_far settings p commit = nat_le settings.distance (commit - p.base)

module _ {V : Type 0} (m : Machine V) where
  -- what a leader finds due
  abbrev pub due_expiry : PersistentState → VolatileGroup → ℕ → Option (List ℕ)
  due_expiry p g clock = if is_leader g.raft.role then option_map entry_bytes (expiry p g.raft.commit clock g.running (m.timers (view_at m p g.raft.commit))) else None

  -- the machine's bytes, where a snapshot is due
  abbrev pub due_snapshot : Settings → PersistentState → VolatileGroup → Option (List ℕ)
  due_snapshot settings p g = if is_far settings p g.raft.commit then Some (m.written (view_at m p g.raft.commit)) else None

  -- Where nothing may be written, nothing is made that would be.
  abbrev pub raft_event : Settings → PersistentState → VolatileGroup → Event → raft.Event
  raft_event settings p g (Ticks clock may_write) = if may_write
      then raft.Tick clock true (due_expiry p g clock) (due_snapshot settings p g)
      else raft.Tick clock false None None
  raft_event settings p g (Gets from body) = raft.Got from body
  raft_event settings p g (Asks from call attempt o) = asked (goes_by_round settings g.raft o) call attempt o
  raft_event settings p g (Proposes e) = raft.Propose e
  raft_event settings p g (Changes change plan call) = raft.ChangeMembers change plan call
