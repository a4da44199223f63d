-- The legal local step of member `me` in one group. `p` is what the member has stored and `v` what it keeps in memory, both before the
-- step; so it is in each rule.
use Rattle.std.specs.Prelude.{ℕ}
use Rattle.cp_log_rules.specs.Persistent.{PersistentState}
use Rattle.cp_rules.specs.Volatile.{VolatileState}
use Rattle.cp_rules.specs.Local.{Body, PreVote, PreVoteReply, Vote, VoteReply, Append, AppendReply, Snapshot, SnapshotReply, Confirm, Confirmed, Event, Tick, Got, Propose, ChangeMembers, Read, LocalStep}
use Rattle.cp_rules.specs.PreVotes.{on_prevote, on_prevote_reply}
use Rattle.cp_rules.specs.Votes.{on_vote, on_vote_reply}
use Rattle.cp_rules.specs.Appends.{on_append}
use Rattle.cp_rules.specs.AppendReplies.{on_append_reply}
use Rattle.cp_rules.specs.Snapshots.{on_snapshot, on_snapshot_reply}
use Rattle.cp_rules.specs.Requests.{on_propose}
use Rattle.cp_rules.specs.Changes.{on_change}
use Rattle.cp_rules.specs.Confirming.{on_confirm, on_confirmed, on_read, settles}
use Rattle.cp_rules.specs.Ticks.{on_tick}

abbrev pub on_message : ℕ → PersistentState → VolatileState → ℕ → Body → LocalStep
on_message me p v from (PreVote term candidate) = on_prevote p v from term candidate
on_message me p v from (PreVoteReply term granted) = on_prevote_reply me p v from term granted
on_message me p v from (Vote term candidate) = on_vote p v from term candidate
on_message me p v from (VoteReply term granted) = on_vote_reply me p v from term granted
on_message me p v from (Append term previous previous_term commit entries) = on_append p v from term previous previous_term commit entries
on_message me p v from (AppendReply term taken index) = on_append_reply me p v from term taken index
on_message me p v from (Snapshot term index offset is_last bytes) = on_snapshot p v from term index offset is_last bytes
on_message me p v from (SnapshotReply term index done received) = on_snapshot_reply me p v from term index done received
on_message me p v from (Confirm term round) = on_confirm p v from term round
on_message me p v from (Confirmed term taken round) = on_confirmed p v from term taken round

-- what the rule of the event does
abbrev pub rule : ℕ → PersistentState → VolatileState → Event → LocalStep
rule me p v (Tick clock may_write expiry machine) = on_tick me p v clock may_write expiry machine
rule me p v (Got from body) = on_message me p v from body
rule me p v (Propose entry) = on_propose me p v entry
rule me p v (ChangeMembers change plan call) = on_change me p v change plan call
rule me p v (Read call attempt op) = on_read me p v call attempt op

abbrev pub step : ℕ → PersistentState → VolatileState → Event → LocalStep
step me p v event = settles me p v (rule me p v event)
