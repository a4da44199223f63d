-- What a call of `Raft::step` does, and what it leaves.
use Rattle.std.specs.Prelude.{◌≡◌, ◌≤◌, ◌⊎◌, List, [], true, false, Option, Some, None, IsErrOf}
use Rattle.std.specs.Option.{option_map}
use Rattle.std.specs.declared.result.Result.{Result}
use Rattle.cp_base.specs.Faults.{Rose}
use Rattle.cp_disk.specs.declared.disk.Disk.{Ghosts}
use Rattle.cp_disk.specs.Images.{Only}
use Rattle.cp_journal.specs.Moments.{LeavesOnly}
use Rattle.cp_parts.specs.declared.down.Down.{Down}
use Rattle.cp_parts.specs.declared.down.Down.TheVariants as down
use Rattle.cp_parts.specs.declared.part.Part as journal
use Rattle.cp_log_rules.specs.Persistent.{PersistentState}
use Rattle.cp_log_rules.specs.Durable.{group_in, with_part}
use Rattle.cp_log.specs.declared.store.Store.{Store}
use Rattle.cp_log.specs.Files.{StandsForEither}
use Rattle.cp_log.specs.Stores.{bytes_of, disk_of, first_of, held_by, is_spent}
use Rattle.cp_rules.specs.declared.outcome.Outcome.{Outcome}
use Rattle.cp_rules.specs.Local.{Event, LocalStep}
use Rattle.cp_rules.specs.Parts.{part_of}
use Rattle.cp_rules.specs.Persistent.{Part}
use Rattle.cp_rules.specs.Steps.{step}
use Rattle.cp_raft_state.specs.Room.{spare}
use Rattle.cp_raft.specs.declared.out.RaftOut.{RaftOut}
use Rattle.cp_raft.specs.declared.raft.Raft.{Raft}
use Rattle.cp_raft.specs.Downs.{StepCause, is_disk_fault}
use Rattle.cp_raft.specs.Frugal.{NoneReady, is_voting}
use Rattle.cp_raft.specs.Offices.{takes_office}
use Rattle.cp_raft.specs.Outs.{IsTold}
use Rattle.cp_raft.specs.Rafts.{MayGoOn, seat_of, state_of}
use Rattle.cp_raft.specs.Writing.{PassesBound, after_step}

-- ---- the step that the rules define

-- what a store has of the member's group
abbrev pub stored_in : {D : Type 0} {disks : Ghosts D} → Raft → Store D disks → PersistentState
stored_in raft store = group_in (held_by store) (seat_of raft).group.0

-- the step of a member at an event
abbrev pub step_of : {D : Type 0} {disks : Ghosts D} → Raft → Store D disks → Event → LocalStep
step_of raft store event = step (seat_of raft).me (stored_in raft store) (state_of raft) event

-- the part of that step, as the journal has it
abbrev pub part_at : {D : Type 0} {disks : Ghosts D} → Raft → Store D disks → Event → Option journal.Part
part_at raft store event = option_map (part_of (seat_of raft).group) (step_of raft store event).part

-- ---- what is done

-- The step of an event was done.
pub record Steps {D : Type 0} {disks : Ghosts D} (raft : Raft) (store : Store D disks) (event : Event) (after : Raft) (left : Store D disks) (outcome : Outcome) (out : RaftOut) : Type 0 where
  -- It answers what the step answers.
  pub did : outcome ≡ (step_of raft store event).outcome
  -- Its state in memory is that of the step.
  pub state : state_of after ≡ (step_of raft store event).state
  -- The store has what it had, with the part of the step.
  pub held : held_by left ≡ after_step (seat_of raft) (step_of raft store event).part (held_by store)
  -- It hands over what the step sends, and tells what the step did.
  pub told : IsTold (seat_of raft) (state_of raft) event (step_of raft store event) out
  -- Where it wrote a part, every crash leaves it.
  pub durable : (x : Part) → (step_of raft store event).part ≡ Some x → disks.Told → Only (disks.seen (disk_of left)) (disks.may_leave (disk_of left))
  -- The next step may be taken.
  pub stays : MayGoOn (held_by left) (seat_of after) (state_of after)

-- nothing is handed over
pub record IsSilent (out : RaftOut) : Type 0 where
  pub messages : out.messages.items ≡ []
  pub looks : out.looks.items ≡ []
  pub lost : out.lost.items ≡ []

-- The member is down.
pub record Halts {D : Type 0} {disks : Ghosts D} (store left : Store D disks) (why : Down) (out : RaftOut) : Type 0 where
  -- It hands nothing over.
  pub silent : IsSilent out
  -- The store has what it had.
  pub held : held_by left ≡ held_by store
  -- A disk fault is one that the disk counted in this call.
  pub cause : StepCause (disks.faults (disk_of store)) (disks.faults (disk_of left)) why

-- ---- what is left, whatever is answered

-- the counts of a store's disk in a call that orders nothing
pub record Counts {D : Type 0} {disks : Ghosts D} (store left : Store D disks) : Type 0 where
  -- Its count of faults does not fall.
  pub faults : disks.faults (disk_of store) ≤ disks.faults (disk_of left)
  -- Its count of times that it wanted memory does not fall.
  pub starved : disks.starved (disk_of store) ≤ disks.starved (disk_of left)
  -- It is not ordered to stop or to crash.
  pub orders : disks.orders (disk_of left) ≡ disks.orders (disk_of store)

pub record Leaves {D : Type 0} {disks : Ghosts D} (raft after : Raft) (store left : Store D disks) (result : Result Outcome Down) : Type 0 where
  -- The member stays whose it is.
  pub seat : seat_of after ≡ seat_of raft
  -- The store keeps what it began with.
  pub first : first_of left ≡ first_of store
  -- A disk fault spends the store, and nothing else does.
  pub spent : is_spent left ≡ is_disk_fault result
  pub counts : Counts store left

-- What a call may want for the step of an event. `before` is what it was handed to be filled.
pub record Wants {D : Type 0} {disks : Ghosts D} (raft : Raft) (store : Store D disks) (event : Event) (before : RaftOut) (left : Store D disks) (result : Result Outcome Down) : Type 0 where
  -- It is full only where the file would pass its bound.
  pub full : IsErrOf result down.JournalFull → PassesBound (bytes_of store) (part_at raft store event)
  -- Where the file would pass its bound it is full, unless memory runs out before.
  pub only_full : PassesBound (bytes_of store) (part_at raft store event) → IsErrOf result down.JournalFull ⊎ IsErrOf result down.NoMemory
  -- A step on a vote, a pre-vote or the reply to one that brings no leadership takes no memory but the disk's, where there is room
  -- for eight messages and no read waits that can be answered.
  pub frugal : is_voting event ≡ true → takes_office (state_of raft) (step_of raft store event) ≡ false
      → NoneReady (seat_of raft).me (stored_in raft store) (state_of raft) → 8 ≤ spare before.messages
      → IsErrOf result down.NoMemory → Rose (disks.starved (disk_of store)) (disks.starved (disk_of left))

-- What a crash at any moment of a call leaves, with the step of an event.
pub record Crashes {D : Type 0} {disks : Ghosts D} (raft : Raft) (store : Store D disks) (event : Event) (left : Store D disks) : Type 0 where
  -- A crash leaves the parts from before the call, with the one of the step or without.
  pub any_moment : (x : Part) → (step_of raft store event).part ≡ Some x → disks.Told
      → LeavesOnly disks.moment disks.left_since (disk_of store) (disk_of left)
      (StandsForEither (first_of store) (held_by store) (with_part (part_of (seat_of raft).group x) (held_by store)))
  -- A step that writes no part leaves the store as it is.
  pub untouched : (step_of raft store event).part ≡ None → left ≡ store
