-- What comes over the wire, as rules take it.
use Rattle.std.specs.Prelude.{Option, Some, None, map}
use Rattle.cp_parts.specs.declared.log_entry.LogEntry.{LogEntry}
use Rattle.cp_message.specs.declared.entries.LogEntry as wire
use Rattle.cp_message.specs.declared.vote.VoteRequest.{VoteRequest}
use Rattle.cp_message.specs.declared.body.Body as wire_body
use Rattle.cp_message.specs.declared.body.Body.TheVariants as bodies
use Rattle.cp_rules.specs.declared.log_end.LogEnd.{LogEnd}
use Rattle.cp_rules.specs.Local.{Body, PreVote, PreVoteReply, Vote, VoteReply, Append, AppendReply, Snapshot, SnapshotReply, Confirm, Confirmed}

abbrev pub entry_in : wire.LogEntry → LogEntry
entry_in e = record { term = e.term; bytes = e.bytes }

-- the end of a candidate's log
abbrev pub end_in : VoteRequest → LogEnd
end_in request = record { term = request.last_term; index = request.last_index }

-- what a member of the group says; messages of other kinds are not for these rules
abbrev pub body_in : wire_body.Body → Option Body
body_in bodies.Hello = None
body_in (bodies.Welcome restart) = None
body_in (bodies.PreVote m) = Some (PreVote m.term (end_in m))
body_in (bodies.PreVoteReply m) = Some (PreVoteReply m.term m.granted)
body_in (bodies.Vote m) = Some (Vote m.term (end_in m))
body_in (bodies.VoteReply m) = Some (VoteReply m.term m.granted)
body_in (bodies.Append m) = Some (Append m.term m.previous_index m.previous_term m.commit (map entry_in m.entries))
body_in (bodies.AppendReply m) = Some (AppendReply m.term m.accepted m.index)
body_in (bodies.Request m) = None
body_in (bodies.Reply m) = None
body_in (bodies.Refuse m) = None
body_in (bodies.StartGroup group members) = None
body_in (bodies.Task group task) = None
body_in (bodies.TaskReply group reply) = None
body_in (bodies.Snapshot m) = Some (Snapshot m.term m.index m.offset m.last m.bytes)
body_in (bodies.SnapshotReply m) = Some (SnapshotReply m.term m.index m.done m.received)
body_in (bodies.Confirm m) = Some (Confirm m.term m.round)
body_in (bodies.Confirmed m) = Some (Confirmed m.term m.accepted m.round)
