-- What the members of a group send each other, as messages on the wire.
use Rattle.std.specs.Prelude.{ℕ, map}
use Rattle.cp_base.specs.declared.identifier.GroupId.{GroupId}
use Rattle.cp_parts.specs.declared.log_entry.LogEntry.{LogEntry}
use Rattle.cp_message.specs.declared.entries.LogEntry as wire
use Rattle.cp_message.specs.declared.body.Body as wire_body
use Rattle.cp_message.specs.declared.body.Body.TheVariants as bodies
use Rattle.cp_message.specs.declared.message.Message.{Message}
use Rattle.cp_rules.specs.Local.{Body, PreVote, PreVoteReply, Vote, VoteReply, Append, AppendReply, Snapshot, SnapshotReply, Confirm, Confirmed}

abbrev pub entry_of : LogEntry → wire.LogEntry
entry_of e = record { term = e.term; bytes = e.bytes }

abbrev pub body_of : GroupId → Body → wire_body.Body
body_of group (PreVote term candidate) = bodies.PreVote (record { group = group; term = term; last_index = candidate.index; last_term = candidate.term })
body_of group (PreVoteReply term granted) = bodies.PreVoteReply (record { group = group; term = term; granted = granted })
body_of group (Vote term candidate) = bodies.Vote (record { group = group; term = term; last_index = candidate.index; last_term = candidate.term })
body_of group (VoteReply term granted) = bodies.VoteReply (record { group = group; term = term; granted = granted })
body_of group (Append term previous previous_term commit entries) = bodies.Append (record {
  group = group;
  term = term;
  previous_index = previous;
  previous_term = previous_term;
  commit = commit;
  entries = map entry_of entries;
})
body_of group (AppendReply term taken index) = bodies.AppendReply (record { group = group; term = term; accepted = taken; index = index })
body_of group (Snapshot term index offset is_last bytes) = bodies.Snapshot (record { group = group; term = term; index = index; offset = offset; last = is_last; bytes = bytes })
body_of group (SnapshotReply term index done received) = bodies.SnapshotReply (record { group = group; term = term; index = index; done = done; received = received })
body_of group (Confirm term round) = bodies.Confirm (record { group = group; term = term; round = round })
body_of group (Confirmed term taken round) = bodies.Confirmed (record { group = group; term = term; accepted = taken; round = round })

-- the message of a group that a member sends to another
abbrev pub message_of : GroupId → ℕ → ℕ → Body → Message
message_of group from to body = record { from = from; to = to; body = body_of group body }
