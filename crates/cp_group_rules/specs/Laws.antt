-- What the code of a group, and those that stand on these rules, need of them.
use Rattle.std.specs.Prelude.{◌≡◌, ◌≢◌, ◌≤◌, ℕ, suc, ◌+◌, ◌-◌, false, List, ◌++◌, length, take, None, Ok}
use Rattle.cp_parts.specs.declared.log_entry.LogEntry.{LogEntry}
use Rattle.cp_parts.specs.declared.snapshot_head.SnapshotHead.{SnapshotHead}
use Rattle.cp_parts.specs.Heads.{head_grammar}
use Rattle.cp_log_rules.specs.Persistent.{PersistentState}
use Rattle.cp_rules.specs.Spelling.{snapshot_bytes}
use Rattle.cp_group_rules.specs.Machines.{Machine}
use Rattle.cp_group_rules.specs.Views.{machine_in, entries_between, view_after, restored_at, view_at}
use Rattle.cp_group_rules.specs.Groups.{VolatileGroup}
use Rattle.cp_group_rules.specs.Events.{Settings, Ticks}
use Rattle.cp_group_rules.specs.Steps.{GroupStep, group_step}

-- ---- a tick that may not write

pub record IsQuiet (g : VolatileGroup) (s : GroupStep) : Type 0 where
  pub part : s.part ≡ None
  pub commit : s.group.raft.commit ≡ g.raft.commit

module _ {V : Type 0} (m : Machine V) where
  -- It writes no part and commits nothing. So of several groups in one tick one writes.
  abbrev pub TicksMayBeQuiet : Type 0
  TicksMayBeQuiet = (settings : Settings) (me : ℕ) (p : PersistentState) (g : VolatileGroup) (clock : ℕ) → IsQuiet g (group_step m settings me p g (Ticks clock false))

  -- ---- views

  -- Entries one after another are applied in two parts.
  abbrev pub ViewsGoOn : Type 0
  ViewsGoOn = (index : ℕ) (before after : List LogEntry) (view : V)
      → view_after m index (before ++ after) view ≡ view_after m (index + length before) after (view_after m index before view)

  -- Where a step keeps the snapshot and what was committed, the view after it is the one before, moved by what is newly committed. So a machine
  -- to which committed entries are applied one by one stands for the view at the commit.
  abbrev pub CommitsMoveViews : Type 0
  CommitsMoveViews = (p q : PersistentState) (before commit : ℕ) → q.base ≡ p.base → q.snapshot ≡ p.snapshot → p.base ≤ before → before ≤ commit → before - p.base ≤ length p.log
      → take (before - p.base) q.log ≡ take (before - p.base) p.log → view_at m q commit ≡ view_after m (suc before) (entries_between q before commit) (view_at m p before)

  -- ---- snapshots

  -- A snapshot restores the machine that wrote it.
  abbrev pub SnapshotsRestore : Type 0
  SnapshotsRestore = (base : ℕ) (head : SnapshotHead) (view : V) → base ≢ 0 → head_grammar.Fits head → m.restored (m.written view) ≡ Ok view
      → restored_at m base (snapshot_bytes head (m.written view)) ≡ Ok view

-- The machine's bytes of a snapshot are read from it.
abbrev pub MachinesReadBack : Type 0
MachinesReadBack = (head : SnapshotHead) (bytes : List ℕ) → head_grammar.Fits head → machine_in (snapshot_bytes head bytes) ≡ bytes
