-- The laws of agreement. They speak of any two states v and w that an execution had, in either order, and of any two members in them.
use Rattle.std.specs.Prelude.{◌≡◌, [], ◌∷◌, ◌+◌, ◌-◌, ◌<◌, ◌≤◌, ◌⊎◌, true, ℕ, suc, Bool, List, length, take, drop, Some, None, slice_get}
use Rattle.cp_parts.specs.declared.log_entry.LogEntry.{LogEntry}
use Rattle.cp_agreement_facts.specs.Entries.{members_in}
use Rattle.cp_agreement_facts.specs.Configurations.{configuration_at, HasQuorum, IsQuorum, AreAdjacent}
use Rattle.cp_agreement_facts.specs.Logs.{HasTerm}
use Rattle.cp_agreement_facts.specs.Clusters.{Member, Cluster, Step, IsMoment, cluster_after}
use Rattle.cp_agreement_facts.specs.Facts.{KnowsTerm, MeetsFacts}
use Rattle.cp_agreement.specs.WholeLogs as whole
use Rattle.cp_safety.specs.Standing.{StandsThrough}
use Rattle.cp_safety.specs.Chunks.{SnapshotReader, ChunkedStep, MeetsChunkedFacts, chunked_after, Joins, HadSnapshot, MembersThrough}
use Rattle.cp_safety.specs.Tracking.{TrackedStep, MeetsTrackedFacts, untracked_steps, untracked_cluster, tracked_after}

-- P holds of any two members at any two moments of any execution that meets the facts.
abbrev pub AtAnyTwoMoments : (Member → ℕ → Member → ℕ → Type 0) → Type 0
AtAnyTwoMoments P = (first : List ℕ) (steps : List Step) → MeetsFacts first steps
    → (v w : Cluster) → IsMoment first steps v → IsMoment first steps w → (m n : ℕ) → P (v.member m) m (w.member n) n

-- No two members lead in one term.
abbrev pub OneOffice : Type 0
OneOffice = AtAnyTwoMoments (λ a m b n. a.is_leader ≡ true → b.is_leader ≡ true → a.term ≡ b.term → m ≡ n)

-- In some step the member led, and was left as this: as one that leads no more, where it stepped down or a crash cut the step off.
abbrev pub Led : List Step → ℕ → Member → Type 0
Led [] m x = ⊥
Led (s ∷ before) m x = ((s.actor ≡ m) × (s.leads ≡ true) × (s.after ≡ x)) ⊎ Led before m x

-- the member has this entry at an index above its base
abbrev pub HasEntry : Member → ℕ → LogEntry → Type 0
HasEntry m i e = (k : ℕ) × (i ≡ suc (m.base + k)) × (slice_get m.log k ≡ Some e)

-- Two members agree up to an index: at each index up to it they have one entry, where both have one, and know one term, where both know one.
abbrev pub AgreeUpTo : ℕ → Member → Member → Type 0
AgreeUpTo index a b = (i : ℕ) → i ≤ index → ((e f : LogEntry) → HasEntry a i e → HasEntry b i f → e ≡ f) × ((t u : ℕ) → KnowsTerm a i t → KnowsTerm b i u → t ≡ u)

-- Two members that know the same term at an index agree up to it.
abbrev pub EqualPrefixes : Type 0
EqualPrefixes = AtAnyTwoMoments (λ a m b n. (i t : ℕ) → KnowsTerm a i t → KnowsTerm b i t → AgreeUpTo i a b)

-- What a member has committed each leader of a later term has.
abbrev pub LaterOffices : Type 0
LaterOffices = AtAnyTwoMoments (λ a m b n. b.is_leader ≡ true → a.term < b.term → AgreeUpTo a.commit a b × (a.commit ≤ b.base + length b.log))

-- What the member has committed is a front of the history: above the base by its entries, below by what stands with the base.
pub record CommitsFrontOf (first : List ℕ) (history : List LogEntry) (m : Member) : Type 0 where
  pub within : m.commit ≤ length history
  pub base : m.base ≤ m.commit
  pub entries : take (m.commit - m.base) m.log ≡ drop m.base (take m.commit history)
  pub base_term : HasTerm history m.base m.base_term
  pub members : m.base_members ≡ configuration_at first history m.base

-- The history of an execution: at each moment each member has committed a front of it.
abbrev pub IsHistory : List ℕ → List Step → List LogEntry → Type 0
IsHistory first steps history = (v : Cluster) → IsMoment first steps v → (m : ℕ) → CommitsFrontOf first history (v.member m)

-- Committed lists are prefixes of one list.
abbrev pub CommittedPrefixes : Type 0
CommittedPrefixes = (first : List ℕ) (steps : List Step) → MeetsFacts first steps → (history : List LogEntry) × IsHistory first steps history

-- The member holds an entry of the history, counted from 0: it has that entry, or its snapshot covers it.
abbrev pub IsHeldBy : List LogEntry → ℕ → Member → Type 0
IsHeldBy history place m = (place < m.base) ⊎ ((e : LogEntry) × (slice_get history place ≡ Some e) × HasEntry m (suc place) e)

-- Each committed entry of the history is held at the end by a quorum of the configuration in force for it, or of an adjacent one.
abbrev pub HeldAtEnd : Type 0
HeldAtEnd = (first : List ℕ) (steps : List Step) → MeetsFacts first steps → (history : List LogEntry) × IsHistory first steps history
    × ((v : Cluster) → IsMoment first steps v → (m place : ℕ) → place < (v.member m).commit
    → (members : List ℕ) × AreAdjacent (configuration_at first history (suc place)) members
    × HasQuorum members (λ n. IsHeldBy history place ((cluster_after first steps).member n)))

-- No members entry stands in any log.
abbrev pub KeepsMembers : List ℕ → List Step → Type 0
KeepsMembers first steps = (v : Cluster) → IsMoment first steps v → (m k : ℕ) (e : LogEntry) → slice_get (v.member m).log k ≡ Some e → members_in e.bytes ≡ None

-- While members are fixed, each committed entry of the history is held at the end by a quorum of the first members.
abbrev pub HeldByFirstMembers : Type 0
HeldByFirstMembers = (first : List ℕ) (steps : List Step) → MeetsFacts first steps → KeepsMembers first steps → (history : List LogEntry) × IsHistory first steps history
    × ((v : Cluster) → IsMoment first steps v → (m place : ℕ) → place < (v.member m).commit → HasQuorum first (λ n. IsHeldBy history place ((cluster_after first steps).member n)))

-- An execution of members with snapshots stands at each moment for one on whole logs that meets the facts.
abbrev pub WholeLogs : Type 0
WholeLogs = (first : List ℕ) (steps : List Step) → MeetsFacts first steps → (plain : List whole.Step) × whole.MeetsFacts first plain × StandsThrough first steps plain

-- A quorum of a configuration and a quorum of it or of an adjacent one have a common member.
abbrev pub NeighboursMeet : Type 0
NeighboursMeet = (a b : List ℕ) (p q : ℕ → Bool) → AreAdjacent a b → IsQuorum a p → IsQuorum b q → (m : ℕ) × (p m ≡ true) × (q m ≡ true)

-- Members that count votes and matched indexes as the rules of one member say meet the facts.
abbrev pub TrackedExecutions : Type 0
TrackedExecutions = (first : List ℕ) (steps : List TrackedStep) → MeetsTrackedFacts first steps
    → MeetsFacts first (untracked_steps steps) × (untracked_cluster (tracked_after first steps) ≡ cluster_after first (untracked_steps steps))

-- Members that send snapshots in chunks are at each moment the members of an execution that meets the facts.
abbrev pub ChunkedExecutions : Type 0
ChunkedExecutions = (reader : SnapshotReader) (first : List ℕ) (steps : List ChunkedStep) → MeetsChunkedFacts reader first steps
    → (whole_snapshots : List Step) × MeetsFacts first whole_snapshots × MembersThrough first steps whole_snapshots

-- What a step joins from a last chunk is a snapshot of that index that the chunk's sender had.
abbrev pub ChunksJoin : Type 0
ChunksJoin = (reader : SnapshotReader) (first : List ℕ) (s : ChunkedStep) (steps : List ChunkedStep) → MeetsChunkedFacts reader first (s ∷ steps)
    → (t i : ℕ) (joined : List ℕ) (j : Joins (chunked_after first steps) s t i true joined) → HadSnapshot first steps j.sender i joined
