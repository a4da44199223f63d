-- Steps on votes, which take no memory where they bring no leadership and no read can be answered.
use Rattle.std.specs.Prelude.{◌≡◌, ℕ, Bool, true, false, List, [], filter, Option, Some, None}
use Rattle.cp_parts.specs.declared.part.Part as journal
use Rattle.cp_parts.specs.declared.part.Part.TheVariants as part
use Rattle.cp_log_rules.specs.Persistent.{PersistentState}
use Rattle.cp_rules.specs.Confirming.{is_ready}
use Rattle.cp_rules.specs.Local.{Body, PreVote, PreVoteReply, Vote, VoteReply, Append, AppendReply, Snapshot, SnapshotReply, Confirm, Confirmed, Event, Tick, Got, Propose, ChangeMembers, Read}
use Rattle.cp_rules.specs.Persistent.{members}
use Rattle.cp_rules.specs.Volatile.{VolatileState}

-- a vote, a pre-vote, or the reply to one
abbrev pub is_on_vote : Body → Bool
is_on_vote (PreVote term candidate) = true
is_on_vote (PreVoteReply term granted) = true
is_on_vote (Vote term candidate) = true
is_on_vote (VoteReply term granted) = true
is_on_vote (Append term previous previous_term commit entries) = false
is_on_vote (AppendReply term taken index) = false
is_on_vote (Snapshot term index offset is_last bytes) = false
is_on_vote (SnapshotReply term index done received) = false
is_on_vote (Confirm term round) = false
is_on_vote (Confirmed term taken round) = false

abbrev pub is_voting : Event → Bool
is_voting (Tick clock may_write expiry machine) = false
is_voting (Got from body) = is_on_vote body
is_voting (Propose entry) = false
is_voting (ChangeMembers change plan call) = false
is_voting (Read call attempt op) = false

-- no read that waits can be answered, with these members
abbrev pub NoneReadyWith : ℕ → List ℕ → VolatileState → Type 0
NoneReadyWith me members v = filter (is_ready me members v.reads v.commit) v.reads.looks ≡ []

-- no read that waits can be answered
abbrev pub NoneReady : ℕ → PersistentState → VolatileState → Type 0
NoneReady me p v = NoneReadyWith me (members p) v

-- the part puts entries into the log
abbrev pub has_entries : Option journal.Part → Bool
has_entries None = false
has_entries (Some (part.Start restart)) = false
has_entries (Some (part.State group term vote)) = false
has_entries (Some (part.Append group term vote after entries)) = true
has_entries (Some (part.Begin group first)) = false
has_entries (Some (part.End group)) = false
has_entries (Some (part.Snapshot group term vote base bytes)) = false
has_entries (Some (part.Start2 restart)) = false
