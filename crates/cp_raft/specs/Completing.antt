-- What a message completes.
use Rattle.std.specs.Prelude.{ℕ, List, Option, None}
use Rattle.cp_message.specs.declared.body.Body as wire
use Rattle.cp_log_rules.specs.Persistent.{PersistentState}
use Rattle.cp_rules.specs.Local.{Body, PreVote, PreVoteReply, Vote, VoteReply, Append, AppendReply, Snapshot, SnapshotReply, Confirm, Confirmed}
use Rattle.cp_rules.specs.Snapshots.{completes}
use Rattle.cp_rules.specs.Volatile.{VolatileState}
use Rattle.std.specs.Option.{option_and_then}
use Rattle.cp_raft_state.specs.Said.{body_in}

abbrev pub completed_by : PersistentState → VolatileState → Body → Option (List ℕ)
completed_by p v (PreVote term candidate) = None
completed_by p v (PreVoteReply term granted) = None
completed_by p v (Vote term candidate) = None
completed_by p v (VoteReply term granted) = None
completed_by p v (Append term previous previous_term commit entries) = None
completed_by p v (AppendReply term taken index) = None
completed_by p v (Snapshot term index offset is_last bytes) = completes p v term index offset is_last bytes
completed_by p v (SnapshotReply term index done received) = None
completed_by p v (Confirm term round) = None
completed_by p v (Confirmed term taken round) = None

-- the whole bytes of the snapshot that a message would install, if it does
abbrev pub completed : PersistentState → VolatileState → wire.Body → Option (List ℕ)
completed p v body = option_and_then (completed_by p v) (body_in body)
