-- What comes to a member, as its rules take it.
use Rattle.std.specs.Prelude.{Option, Some}
use Rattle.std.specs.Option.{option_map}
use Rattle.cp_rules.specs.Local.{Event, Tick, Got, Propose, ChangeMembers, Read}
use Rattle.cp_raft_state.specs.Said.{body_in}
use Rattle.cp_raft.specs.declared.event.RaftEvent.{RaftEvent}
use Rattle.cp_raft.specs.declared.event.RaftEvent.TheVariants as event

-- none for a message of a kind that is not for these rules
abbrev pub event_of : RaftEvent → Option Event
event_of (event.Tick now may_write expiry snapshot) = Some (Tick now may_write expiry snapshot)
event_of (event.Got message) = option_map (Got message.from) (body_in message.body)
event_of (event.Propose entry) = Some (Propose entry)
event_of (event.Change change plan call) = Some (ChangeMembers change plan call)
event_of (event.Look call attempt op) = Some (Read call attempt op)
