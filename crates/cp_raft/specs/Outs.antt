-- What a step hands to its caller.
use Rattle.std.specs.Prelude.{◌≡◌, Bool, not, ◌&&◌, is_some, Option, Some, None, false, true}
use Rattle.cp_rules.specs.Persistent.{Part, StatePart, AppendPart, SnapshotPart}
use Rattle.cp_rules.specs.Local.{Event, Tick, Got, Propose, ChangeMembers, Read, LocalStep, is_leader}
use Rattle.cp_rules.specs.Volatile.{VolatileState}
use Rattle.cp_raft_state.specs.declared.seat.Seat.{Seat}
use Rattle.cp_raft_state.specs.Messages.{messages_of}
use Rattle.cp_raft.specs.declared.out.RaftOut.{RaftOut}

-- but for the room for messages
pub record IsUntouched (before after : RaftOut) : Type 0 where
  pub messages : after.messages.items ≡ before.messages.items
  pub commit : after.commit ≡ before.commit
  pub stepped_down : after.stepped_down ≡ before.stepped_down
  pub took_office : after.took_office ≡ before.took_office
  pub installed : after.installed ≡ before.installed
  pub wrote : after.wrote ≡ before.wrote
  pub looks : after.looks.items ≡ before.looks.items
  pub lost : after.lost.items ≡ before.lost.items

-- a snapshot part that another's chunk completed
abbrev pub is_installed : Event → Option Part → Bool
is_installed (Tick clock may_write expiry machine) part = false
is_installed (Got from body) None = false
is_installed (Got from body) (Some (StatePart b)) = false
is_installed (Got from body) (Some (AppendPart b after entries)) = false
is_installed (Got from body) (Some (SnapshotPart b index bytes)) = true
is_installed (Propose entry) part = false
is_installed (ChangeMembers change plan call) part = false
is_installed (Read call attempt op) part = false

-- What a step that was done hands over: its messages, the commit, and what the step did.
pub record IsTold (seat : Seat) (v : VolatileState) (event : Event) (s : LocalStep) (after : RaftOut) : Type 0 where
  pub messages : after.messages.items ≡ messages_of seat s.sends
  pub commit : after.commit ≡ s.state.commit
  pub stepped_down : after.stepped_down ≡ is_leader v.role && not (is_leader s.state.role)
  pub took_office : after.took_office ≡ not (is_leader v.role) && is_leader s.state.role
  pub installed : after.installed ≡ is_installed event s.part
  pub wrote : after.wrote ≡ is_some s.part
  pub looks : after.looks.items ≡ s.answered
  pub lost : after.lost.items ≡ s.lost
