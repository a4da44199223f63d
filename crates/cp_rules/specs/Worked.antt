-- Steps worked out by hand: small groups that start with nothing, what happens to them, and each message that is then sent.
use Rattle.std.specs.Prelude.{◌≡◌, ◌≤◌, ℕ, ◌-◌, true, false, List, [], ◌∷◌, ◌++◌, length, map, Option, Some, None, slice_get}
use Rattle.cp_base.specs.declared.identifier.Invocation.{Invocation}
use Rattle.cp_answers.specs.declared.refusal.Refusal.{Refusal}
use Rattle.cp_parts.specs.declared.log_entry.LogEntry.{LogEntry}
use Rattle.cp_agreement_facts.specs.Clusters.{put}
use Rattle.cp_rules.specs.declared.change.Change.{Change}
use Rattle.cp_rules.specs.declared.log_end.LogEnd.{LogEnd}
use Rattle.cp_rules.specs.declared.outcome.Outcome.{Outcome}
use Rattle.cp_parts.specs.declared.config.Config.{Config}
use Rattle.cp_parts.specs.declared.snapshot_head.SnapshotHead.{SnapshotHead}
use Rattle.cp_parts.specs.Heads.{head_of}
use Rattle.cp_rules.specs.Spelling.{snapshot_bytes, empty_entry, members_entry}
use Rattle.cp_log_rules.specs.Persistent as persistent
use Rattle.cp_log_rules.specs.Persistent.{PersistentState}
use Rattle.cp_rules.specs.Persistent.{after_part, SnapshotPart}
use Rattle.cp_rules.specs.Volatile.{Look, VolatileState, started}
use Rattle.cp_rules.specs.Local.{Body, PreVote, PreVoteReply, Vote, VoteReply, Append, AppendReply, Snapshot, SnapshotReply, Confirm, Confirmed, Event, Tick, Got, Propose, ChangeMembers, Read, LocalStep, does, reply}
use Rattle.cp_rules.specs.Changes.{may_change}
use Rattle.cp_rules.specs.Steps.{step}

-- ---- a small group

-- a member, and the last step that it took
pub record Seat : Type 0 where
  pub stored : PersistentState
  pub state : VolatileState
  pub last : LocalStep

pub record Mail : Type 0 where
  pub from : ℕ
  pub to : ℕ
  pub body : Body

-- the members, and each message that was sent, in order
pub record Group : Type 0 where
  pub seats : ℕ → Seat
  pub sent : List Mail

-- an event at a member; the delivery of the n-th message, counted from 1; a crash of a member with a start
pub data Act : Type 0 where
  At : (member : ℕ) (event : Event) → Act
  Deliver : (number : ℕ) → Act
  Restart : (member : ℕ) → Act

abbrev pub seated : PersistentState → VolatileState → Seat
seated stored state = record { stored = stored; state = state; last = does None state [] }

abbrev pub after_event : ℕ → Seat → Event → Seat
after_event me seat event =
    let s = step me seat.stored seat.state event in
    record { stored = after_part s.part seat.stored; state = s.state; last = s }

abbrev pub mail : ℕ → ℕ → Body → Mail
mail from to body = record { from = from; to = to; body = body }

abbrev pub with_event : Group → ℕ → Event → Group
with_event g me event =
    let seat = after_event me (g.seats me) event in
    record { seats = put g.seats me seat; sent = g.sent ++ map (λ s. mail me s.to s.body) seat.last.sends }

abbrev pub with_delivery : Group → Option Mail → Group
with_delivery g None = g
with_delivery g (Some m) = with_event g m.to (Got m.from m.body)

abbrev pub with_act : Group → Act → Group
with_act g (At member event) = with_event g member event
with_act g (Deliver number) = with_delivery g (slice_get g.sent (number - 1))
with_act g (Restart member) = record g { seats = put g.seats member (seated (g.seats member).stored (started (g.seats member).stored.base 0)) }

abbrev pub group_after : Group → List Act → Group
group_after g [] = g
group_after g (act ∷ acts) = group_after (with_act g act) acts

abbrev pub configured : ℕ → List ℕ → Config
configured index members = record { index = index; plan = 0; members = members }

-- what a member of a group of these has stored at first
abbrev pub nothing_stored : List ℕ → PersistentState
nothing_stored members = persistent.new_group members

abbrev pub new_group : List ℕ → Group
new_group members = record { seats = λ m. seated (nothing_stored members) (started 0 0); sent = [] }

abbrev pub three : List ℕ
three = 1 ∷ 2 ∷ 3 ∷ []

abbrev pub end_at : ℕ → ℕ → LogEnd
end_at index term = record { term = term; index = index }

abbrev pub empty : ℕ → LogEntry
empty term = record { term = term; bytes = empty_entry }

abbrev pub entry : ℕ → List ℕ → LogEntry
entry term bytes = record { term = term; bytes = bytes }

-- bytes that stand for a call
abbrev pub call : List ℕ
call = 1 ∷ 7 ∷ []

abbrev pub tick : ℕ → Event
tick clock = Tick clock true None None

-- ---- an election, and a commit

-- Member 1 of three times out and is elected; its empty entry is committed.
abbrev pub elects : List Act
elects = At 1 (tick 2000) ∷ Deliver 1 ∷ Deliver 2 ∷ Deliver 3 ∷ Deliver 4 ∷ Deliver 5 ∷ Deliver 6 ∷ Deliver 7 ∷ Deliver 8 ∷ Deliver 9 ∷ Deliver 10 ∷ Deliver 11 ∷ Deliver 12 ∷ []

abbrev pub election : List Mail
election =
    mail 1 2 (PreVote 1 (end_at 0 0)) ∷ mail 1 3 (PreVote 1 (end_at 0 0)) ∷ mail 2 1 (PreVoteReply 1 true) ∷ mail 3 1 (PreVoteReply 1 true)
    ∷ mail 1 2 (Vote 1 (end_at 0 0)) ∷ mail 1 3 (Vote 1 (end_at 0 0)) ∷ mail 2 1 (VoteReply 1 true) ∷ mail 3 1 (VoteReply 1 true)
    ∷ mail 1 2 (Append 1 0 0 0 (empty 1 ∷ [])) ∷ mail 1 3 (Append 1 0 0 0 (empty 1 ∷ [])) ∷ mail 2 1 (AppendReply 1 true 1) ∷ mail 3 1 (AppendReply 1 true 1) ∷ []

abbrev pub elected : Group
elected = group_after (new_group three) elects

-- Then it is asked for an entry.
abbrev pub proposes : List Act
proposes = At 1 (Propose call) ∷ Deliver 13 ∷ Deliver 14 ∷ Deliver 15 ∷ Deliver 16 ∷ []

abbrev pub proposal : List Mail
proposal = mail 1 2 (Append 1 1 1 1 (entry 1 call ∷ [])) ∷ mail 1 3 (Append 1 1 1 1 (entry 1 call ∷ [])) ∷ mail 2 1 (AppendReply 1 true 2) ∷ mail 3 1 (AppendReply 1 true 2) ∷ []

abbrev pub committed : Group
committed = group_after elected proposes

-- ---- another leader

-- Member 1 is asked for an entry and crashes; member 2 is elected; then member 1 is back, and its entry gives way.
abbrev pub elects_another : List Act
elects_another = At 1 (Propose call) ∷ At 3 (tick 2000) ∷ At 2 (tick 2100) ∷ Deliver 16 ∷ Deliver 17 ∷ Deliver 19 ∷ Deliver 20 ∷ Deliver 22 ∷ Deliver 23 ∷ Restart 1 ∷ Deliver 21 ∷ Deliver 13 ∷ []

abbrev pub other_election : List Mail
other_election =
    mail 1 2 (Append 1 1 1 1 (entry 1 call ∷ [])) ∷ mail 1 3 (Append 1 1 1 1 (entry 1 call ∷ []))
    ∷ mail 2 1 (PreVote 2 (end_at 1 1)) ∷ mail 2 3 (PreVote 2 (end_at 1 1)) ∷ mail 3 2 (PreVoteReply 2 true)
    ∷ mail 2 1 (Vote 2 (end_at 1 1)) ∷ mail 2 3 (Vote 2 (end_at 1 1)) ∷ mail 3 2 (VoteReply 2 true)
    ∷ mail 2 1 (Append 2 1 1 0 (empty 2 ∷ [])) ∷ mail 2 3 (Append 2 1 1 0 (empty 2 ∷ [])) ∷ mail 3 2 (AppendReply 2 true 2)
    ∷ mail 1 2 (AppendReply 2 true 2) ∷ mail 2 1 (AppendReply 2 false 0) ∷ []

abbrev pub another_elected : Group
another_elected = group_after elected elects_another

-- ---- a beat

-- A member misses an entry and starts again; the leader commits it with the third, and sends at its beat what each of them lacks.
abbrev pub beats : List Act
beats = At 1 (Propose call) ∷ Restart 2 ∷ Deliver 14 ∷ Deliver 15 ∷ At 1 (tick 3000) ∷ Deliver 16 ∷ []

abbrev pub beat : List Mail
beat =
    mail 1 2 (Append 1 1 1 1 (entry 1 call ∷ [])) ∷ mail 1 3 (Append 1 1 1 1 (entry 1 call ∷ [])) ∷ mail 3 1 (AppendReply 1 true 2)
    ∷ mail 1 2 (Append 1 1 1 2 (entry 1 call ∷ [])) ∷ mail 1 3 (Append 1 2 1 2 []) ∷ mail 2 1 (AppendReply 1 true 2) ∷ []

abbrev pub beaten : Group
beaten = group_after elected beats

-- ---- one step of a follower

-- a member 2 of three in term 1, whose log is one empty entry of that term
abbrev pub second : PersistentState
second = record (nothing_stored three) { term = 1; vote = 1; log = empty 1 ∷ [] }

-- a Follower of member 1
abbrev pub follows_one : VolatileState
follows_one = record (started 0 0) { leader = 1 }

-- a chunk's worth of bytes of a snapshot of this index
abbrev pub receiving : ℕ → List ℕ → VolatileState
receiving index bytes = record follows_one { received = Some (record { term = 1; index = index; bytes = bytes }) }

abbrev pub second_gets : VolatileState → Body → LocalStep
second_gets v body = step 2 (record second { log = [] }) v (Got 1 body)

-- Chunks of two snapshots are not joined: the first bytes of one of index 5, then a chunk of one of index 9, then the rest of the first.
pub record ChunksStayApart : Type 0 where
  pub first : (bytes : List ℕ) → length bytes ≡ 32768 → second_gets (started 0 0) (Snapshot 1 5 0 false bytes) ≡ does None (receiving 5 bytes) (reply 1 (SnapshotReply 1 5 false 32768))
  pub other : (bytes rest : List ℕ) → second_gets (receiving 5 bytes) (Snapshot 1 9 32768 true rest) ≡ does None (receiving 5 bytes) (reply 1 (SnapshotReply 1 9 false 0))
  pub last : (bytes rest : List ℕ) (head : SnapshotHead) → length bytes ≡ 32768 → length rest ≤ 1000 → head_of (bytes ++ rest) ≡ Some head
      → second_gets (receiving 5 bytes) (Snapshot 1 5 32768 true rest)
      ≡ does (Some (SnapshotPart (record { term = 1; vote = 1 }) 5 (bytes ++ rest))) (record follows_one { commit = 5 }) (reply 1 (SnapshotReply 1 5 true 0))

-- ---- changes of members

abbrev pub add : ℕ → ℕ → Change
add member expected = record { add = true; member = record { 0 = member }; expected = expected }

abbrev pub remove : ℕ → ℕ → Change
remove member expected = record { add = false; member = record { 0 = member }; expected = expected }

-- for the configuration of index 4, with these members, this commit and the term of the commit, in term 2
abbrev pub refusal : List ℕ → Change → ℕ → ℕ → Option Refusal
refusal members change commit committed_term = may_change 4 members change commit committed_term 2

-- The elected leader removes member 3, which is not told; then it is asked to do so again.
abbrev pub removes : List Act
removes = At 1 (ChangeMembers (remove 3 0) 0 None) ∷ Deliver 13 ∷ Deliver 14 ∷ []

abbrev pub removal : List Mail
removal = mail 1 2 (Append 1 1 1 1 (entry 1 (members_entry None 0 (1 ∷ 2 ∷ [])) ∷ [])) ∷ mail 2 1 (AppendReply 1 true 2) ∷ []

abbrev pub removed : Group
removed = group_after elected removes

-- elected, and nothing is committed yet
abbrev pub just_elected : Group
just_elected = group_after (new_group three) (At 1 (tick 2000) ∷ Deliver 1 ∷ Deliver 2 ∷ Deliver 3 ∷ Deliver 4 ∷ Deliver 5 ∷ Deliver 6 ∷ Deliver 7 ∷ [])

abbrev pub outcome_of : ℕ → Group → Event → Outcome
outcome_of me g event = (after_event me (g.seats me) event).last.outcome

-- One that is alone has a snapshot of index 5 and adds a second, which has nothing; it gets the snapshot, and then what follows.
abbrev pub adds : List Act
adds = At 1 (tick 2000) ∷ At 1 (Propose call) ∷ At 1 (Propose call) ∷ At 1 (Propose call) ∷ At 1 (Propose call)
    ∷ At 1 (Tick 3000 true None (Some (8 ∷ 8 ∷ []))) ∷ At 1 (ChangeMembers (add 2 0) 0 None) ∷ Deliver 1 ∷ Deliver 2 ∷ Deliver 3 ∷ Deliver 4 ∷ Deliver 5 ∷ Deliver 6 ∷ []

abbrev pub addition : List Mail
addition =
    mail 1 2 (Append 1 5 1 5 (entry 1 (members_entry None 0 (1 ∷ 2 ∷ [])) ∷ [])) ∷ mail 2 1 (AppendReply 1 false 0)
    ∷ mail 1 2 (Snapshot 1 5 0 true (snapshot_bytes (record { term = 1; config = configured 0 (1 ∷ []) }) (8 ∷ 8 ∷ []))) ∷ mail 2 1 (SnapshotReply 1 5 true 0)
    ∷ mail 1 2 (Append 1 5 1 5 (entry 1 (members_entry None 0 (1 ∷ 2 ∷ [])) ∷ [])) ∷ mail 2 1 (AppendReply 1 true 6) ∷ []

abbrev pub added : Group
added = group_after (new_group (1 ∷ [])) adds

-- One that is alone takes a snapshot, crashes, and leads again from it.
abbrev pub restarts : List Act
restarts = At 1 (tick 2000) ∷ At 1 (Propose call) ∷ At 1 (Tick 3000 true None (Some (8 ∷ 8 ∷ []))) ∷ Restart 1 ∷ At 1 (tick 2000) ∷ []

abbrev pub restarted : Group
restarted = group_after (new_group (1 ∷ [])) restarts

-- ---- reads without entries

abbrev pub caller : Invocation
caller = record { client = record { 0 = [] }; thread = record { 0 = 1 }; number = 1 }

abbrev pub look : Look
look = record { call = caller; attempt = 1; index = 1; round = 1; op = call }

-- The elected leader asks for a round, and answers once a quorum has confirmed it.
abbrev pub reads : List Act
reads = At 1 (Read caller 1 call) ∷ Deliver 13 ∷ Deliver 15 ∷ []

abbrev pub round : List Mail
round = mail 1 2 (Confirm 1 1) ∷ mail 1 3 (Confirm 1 1) ∷ mail 2 1 (Confirmed 1 true 1) ∷ []

abbrev pub has_read : Group
has_read = group_after elected reads

-- Before its round is confirmed another leader is elected: the read is lost.
abbrev pub loses : List Act
loses = At 1 (Read caller 1 call) ∷ At 3 (tick 2000) ∷ At 2 (tick 2100) ∷ Deliver 16 ∷ Deliver 17 ∷ Deliver 19 ∷ Deliver 20 ∷ Deliver 14 ∷ Deliver 23 ∷ []

abbrev pub has_lost : Group
has_lost = group_after elected loses
