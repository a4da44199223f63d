-- How agreement sees a member that takes local steps: the member with what it counts and receives, and what goes over the wire.
use Rattle.std.specs.Prelude.{ℕ, Bool, true, false, List, [], map, Option, Some, None, option_map}
use Rattle.cp_agreement_facts.specs.Clusters as cluster
use Rattle.cp_safety.specs.Tracking as tracking
use Rattle.cp_safety.specs.Tracking.{TrackedMember}
use Rattle.cp_safety.specs.Chunks as chunks
use Rattle.cp_safety.specs.Chunks.{SnapshotReader, ChunkedMember, ChunkedStep, Wire, AsItIs, Chunk}
use Rattle.cp_rules.specs.declared.role.Role.{Role}
use Rattle.cp_rules.specs.declared.role.Role.TheVariants.{Follower, PreCandidate, Candidate, Leader}
use Rattle.cp_parts.specs.declared.snapshot_head.SnapshotHead.{SnapshotHead}
use Rattle.cp_parts.specs.Heads.{head_of}
use Rattle.cp_log_rules.specs.Persistent.{PersistentState}
use Rattle.cp_rules.specs.Persistent.{after_part}
use Rattle.cp_rules.specs.Volatile.{Received, VolatileState, has_voted, peer}
use Rattle.cp_rules.specs.Local.{Body, PreVote, PreVoteReply, Vote, VoteReply, Append, AppendReply, Snapshot, SnapshotReply, Confirm, Confirmed, Sent, Event, Tick, Got, Propose, ChangeMembers, Read, LocalStep, does}
use Rattle.cp_rules.specs.Steps.{step}

-- ---- a member

abbrev pub seen_role : Role → tracking.Role
seen_role Follower = tracking.Follower
seen_role PreCandidate = tracking.PreCandidate
seen_role Candidate = tracking.Candidate
seen_role Leader = tracking.Leader

abbrev pub tracked_member : PersistentState → VolatileState → TrackedMember
tracked_member p v = record {
  term = p.term;
  vote = p.vote;
  base = p.base;
  base_term = p.base_term;
  base_members = p.base_config.members;
  log = p.log;
  commit = v.commit;
  role = seen_role v.role;
  counted = has_voted v.votes;
  matched = λ f. (peer v.peers f).matched;
}

abbrev pub seen_received : Received → chunks.Received
seen_received x = record { term = x.term; index = x.index; bytes = x.bytes }

abbrev pub chunked_member : PersistentState → VolatileState → ChunkedMember
chunked_member p v = record { tracked = tracked_member p v; snapshot = p.snapshot; received = option_map seen_received v.received }

-- ---- the wire

abbrev pub wire : ℕ → ℕ → Body → Wire
wire from to (PreVote term candidate) = AsItIs cluster.Other
wire from to (PreVoteReply term granted) = AsItIs cluster.Other
wire from to (Vote term candidate) = AsItIs (cluster.Vote from term candidate.term candidate.index)
wire from to (VoteReply term true) = AsItIs (cluster.Voted from to term)
wire from to (VoteReply term false) = AsItIs cluster.Other
wire from to (Append term previous previous_term commit entries) = AsItIs (cluster.Append from term previous previous_term entries commit)
wire from to (AppendReply term true index) = AsItIs (cluster.Appended from to term index)
wire from to (AppendReply term false index) = AsItIs cluster.Other
wire from to (Snapshot term index offset is_last bytes) = Chunk from term index offset is_last bytes
wire from to (SnapshotReply term index true received) = AsItIs (cluster.Done from to term index)
wire from to (SnapshotReply term index false received) = AsItIs cluster.Other
wire from to (Confirm term round) = AsItIs cluster.Other
wire from to (Confirmed term taken round) = AsItIs cluster.Other

abbrev pub sent_wire : ℕ → Sent → Wire
sent_wire me x = wire me x.to x.body

-- what comes with an event
abbrev pub came_with : ℕ → Event → Option Wire
came_with me (Tick clock may_write expiry machine) = None
came_with me (Got from body) = Some (wire from me body)
came_with me (Propose entry) = None
came_with me (ChangeMembers change plan call) = None
came_with me (Read call attempt op) = None

-- ---- a step, or nothing where a crash comes between two

abbrev pub step_of : ℕ → PersistentState → VolatileState → Option Event → LocalStep
step_of me p v None = does None v []
step_of me p v (Some event) = step me p v event

abbrev pub came_by : ℕ → Option Event → Option Wire
came_by me None = None
came_by me (Some event) = came_with me event

-- The member takes a local step, which a crash cuts off or not.
abbrev pub chunked_step : ℕ → Bool → PersistentState → VolatileState → Option Event → ChunkedStep
chunked_step me cut p v event =
    let s = step_of me p v event in
    record {
      actor = me;
      got = came_by me event;
      leads = s.leads;
      after = chunked_member (after_part s.part p) s.state;
      sends = map (sent_wire me) s.sends;
      cut = cut;
    }

-- ---- snapshots

abbrev pub head_term : Option SnapshotHead → ℕ
head_term None = 0
head_term (Some head) = head.term

abbrev pub head_members : Option SnapshotHead → List ℕ
head_members None = []
head_members (Some head) = head.config.members

abbrev pub reader : SnapshotReader
reader = record { term_of = λ bytes. head_term (head_of bytes); members_of = λ bytes. head_members (head_of bytes) }
