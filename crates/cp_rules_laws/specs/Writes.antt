-- What a step writes, and how far it commits. This law has all the cases of a step; the laws on logs, bases and snapshots are read off it.
use Rattle.std.specs.Prelude.{◌≡◌, ℕ, suc, ◌+◌, ◌-◌, ◌<◌, ◌≤◌, ◌⊎◌, Bool, true, List, [], ◌∷◌, ◌++◌, take, Option, Some, slice_get}
use Rattle.cp_parts.specs.declared.log_entry.LogEntry.{LogEntry}
use Rattle.cp_parts.specs.declared.snapshot_head.SnapshotHead.{SnapshotHead}
use Rattle.cp_parts.specs.Heads.{head_of}
use Rattle.cp_log_rules.specs.Persistent.{PersistentState, last, with_head}
use Rattle.cp_rules.specs.declared.outcome.Outcome.{Outcome}
use Rattle.cp_rules.specs.declared.outcome.Outcome.TheVariants.{Done, Proposed}
use Rattle.cp_rules.specs.Spelling.{empty_entry, members_entry, snapshot_bytes}
use Rattle.cp_rules.specs.Persistent.{members, after_part}
use Rattle.cp_rules.specs.Volatile.{VolatileState}
use Rattle.cp_rules.specs.Local.{Body, PreVote, PreVoteReply, Vote, VoteReply, Append, AppendReply, Snapshot, SnapshotReply, Confirm, Confirmed, Event, Tick, Got, Propose, ChangeMembers, Read, LocalStep}
use Rattle.cp_rules.specs.Snapshots.{own_head, joined, received_of}
use Rattle.cp_rules.specs.Changes.{changed}
use Rattle.cp_rules.specs.Steps.{step}
use Rattle.cp_rules_facts.specs.Soundness.{IsSound, IsFair}

-- ---- what a step leaves

-- As far as these laws read it: what is stored then, the commit, whether the member led in the step, and the answer to the caller.
pub record After : Type 0 where
  pub stored : PersistentState
  pub commit : ℕ
  pub leads : Bool
  pub outcome : Outcome

abbrev pub after : PersistentState → LocalStep → After
after p s = record { stored = after_part s.part p; commit = s.state.commit; leads = s.leads; outcome = s.outcome }

-- ---- where an entry comes from

-- the bytes that the event asks a leader to append
abbrev pub IsAsked : PersistentState → Event → List ℕ → Type 0
IsAsked p (Tick clock may_write expiry machine) bytes = expiry ≡ Some bytes
IsAsked p (Got from body) bytes = ⊥
IsAsked p (Propose entry) bytes = bytes ≡ entry
IsAsked p (ChangeMembers change plan call) bytes = bytes ≡ members_entry call plan (changed change (members p))
IsAsked p (Read call attempt op) bytes = ⊥

-- the message is an Append that has the entry at this index
abbrev pub HasAt : Body → ℕ → LogEntry → Type 0
HasAt (Append term previous previous_term commit entries) i e = (k : ℕ) × (i ≡ suc (previous + k)) × (slice_get entries k ≡ Some e)
HasAt (PreVote term candidate) i e = ⊥
HasAt (PreVoteReply term granted) i e = ⊥
HasAt (Vote term candidate) i e = ⊥
HasAt (VoteReply term granted) i e = ⊥
HasAt (AppendReply term taken index) i e = ⊥
HasAt (Snapshot term index offset is_last bytes) i e = ⊥
HasAt (SnapshotReply term index done received) i e = ⊥
HasAt (Confirm term round) i e = ⊥
HasAt (Confirmed term taken round) i e = ⊥

abbrev pub CameAt : Event → ℕ → LogEntry → Type 0
CameAt event i e = (from : ℕ) × (body : Body) × (event ≡ Got from body) × HasAt body i e

-- An empty entry is answered to nobody; one that was asked is answered with its index.
abbrev pub IsMade : PersistentState → Event → Outcome → List ℕ → Type 0
IsMade p event outcome bytes = ((bytes ≡ empty_entry) × (outcome ≡ Done)) ⊎ (IsAsked p event bytes × (outcome ≡ Proposed (suc (last p))))

-- ---- what becomes of the log

pub record SameBase (p q : PersistentState) : Type 0 where
  pub base : q.base ≡ p.base
  pub base_term : q.base_term ≡ p.base_term
  pub base_config : q.base_config ≡ p.base_config
  pub snapshot : q.snapshot ≡ p.snapshot

pub record KeepsLog (p : PersistentState) (x : After) : Type 0 where
  pub base : SameBase p x.stored
  pub log : x.stored.log ≡ p.log

-- Entries of an Append that came take the place of what followed an index that is committed, or a higher one.
pub record FollowsEntries (p : PersistentState) (v : VolatileState) (event : Event) (x : After) : Type 0 where
  pub base : SameBase p x.stored
  pub at : ℕ
  pub entries : List LogEntry
  pub above : v.commit ≤ at
  pub within : at ≤ last p
  pub log : x.stored.log ≡ take (at - p.base) p.log ++ entries
  pub came : (k : ℕ) (e : LogEntry) → slice_get entries k ≡ Some e → CameAt event (suc (at + k)) e

-- A leader makes one entry, of its term, at the end of its log: an empty one, with which it begins to lead, or one that it is asked for.
pub record MakesEntry (p : PersistentState) (event : Event) (x : After) : Type 0 where
  pub base : SameBase p x.stored
  pub entry : LogEntry
  pub log : x.stored.log ≡ p.log ++ entry ∷ []
  pub term : entry.term ≡ x.stored.term
  pub leads : x.leads ≡ true
  pub made : IsMade p event x.outcome entry.bytes

-- the member's own snapshot, of what was committed
pub record TakesOwn (p : PersistentState) (v : VolatileState) (event : Event) (x : After) : Type 0 where
  pub clock : ℕ
  pub may_write : Bool
  pub expiry : Option (List ℕ)
  pub machine : List ℕ
  pub event_is : event ≡ Tick clock may_write expiry (Some machine)
  pub above : p.base < v.commit
  pub commit : x.commit ≡ v.commit
  pub stored : x.stored ≡ with_head p.term p.vote v.commit (snapshot_bytes (own_head p v.commit) machine) (Some (own_head p v.commit)) p

-- another's snapshot, whose last chunk came
pub record Installs (p : PersistentState) (v : VolatileState) (event : Event) (x : After) : Type 0 where
  pub from : ℕ
  pub term : ℕ
  pub index : ℕ
  pub offset : ℕ
  pub chunk : List ℕ
  pub all : List ℕ
  pub head : SnapshotHead
  pub new_term : ℕ
  pub new_vote : ℕ
  pub event_is : event ≡ Got from (Snapshot term index offset true chunk)
  pub joins : joined (received_of term index v.received) offset chunk ≡ Some all
  pub head_is : head_of all ≡ Some head
  pub above : v.commit < index
  pub commit : x.commit ≡ index
  pub stored : x.stored ≡ with_head new_term new_vote index all (Some head) p

-- An index is answered only by a step that makes an entry.
pub record Writes (p : PersistentState) (v : VolatileState) (event : Event) (x : After) : Type 0 where
  pub rises : v.commit ≤ x.commit
  pub log : KeepsLog p x ⊎ (FollowsEntries p v event x ⊎ (MakesEntry p event x ⊎ (TakesOwn p v event x ⊎ Installs p v event x)))
  pub answers : (index : ℕ) → x.outcome ≡ Proposed index → MakesEntry p event x

abbrev pub StepsWrite : Type 0
StepsWrite = (me : ℕ) (p : PersistentState) (v : VolatileState) (event : Event) → IsSound me p v → IsFair p v event → Writes p v event (after p (step me p v event))
