-- The laws of agreement on whole logs. They speak of two states that an execution had, in either order, and of two of its members.
use Rattle.std.specs.Prelude.{◌≡◌, ◌≢◌, ◌<◌, ◌≤◌, ◌⊎◌, true, ℕ, suc, Bool, List, length, take}
use Rattle.cp_parts.specs.declared.log_entry.LogEntry.{LogEntry}
use Rattle.cp_agreement_facts.specs.Configurations.{configuration_at, HasQuorum, IsQuorum, AreAdjacent}
use Rattle.cp_agreement_facts.specs.Logs.{HasTerm, IsPrefixOf}
use Rattle.cp_agreement.specs.WholeLogs.{Cluster, Step, MeetsFacts, IsMoment, cluster_after, committed, Facts, crash, cut_off}

-- No two members lead in one term.
abbrev pub OneLeader : Type 0
OneLeader = (first : List ℕ) (steps : List Step) → MeetsFacts first steps → (v w : Cluster) → IsMoment steps v → IsMoment steps w → (m n : ℕ)
    → (v.member m).is_leader ≡ true → (w.member n).is_leader ≡ true → (v.member m).term ≡ (w.member n).term → m ≡ n

-- Two logs that have the same term at an index are equal up to it.
abbrev pub EqualPrefixes : Type 0
EqualPrefixes = (first : List ℕ) (steps : List Step) → MeetsFacts first steps → (v w : Cluster) → IsMoment steps v → IsMoment steps w → (m n : ℕ)
    → (i t : ℕ) → HasTerm (v.member m).log i t → HasTerm (w.member n).log i t → take i (v.member m).log ≡ take i (w.member n).log

-- What a member has committed stands in the log of each leader of a later term.
abbrev pub LaterLeaders : Type 0
LaterLeaders = (first : List ℕ) (steps : List Step) → MeetsFacts first steps → (v w : Cluster) → IsMoment steps v → IsMoment steps w → (m n : ℕ)
    → (w.member n).is_leader ≡ true → (v.member m).term < (w.member n).term → IsPrefixOf (committed (v.member m)) (w.member n).log

-- Of two committed lists one is a prefix of the other.
abbrev pub CommittedPrefixes : Type 0
CommittedPrefixes = (first : List ℕ) (steps : List Step) → MeetsFacts first steps → (v w : Cluster) → IsMoment steps v → IsMoment steps w → (m n : ℕ)
    → IsPrefixOf (committed (v.member m)) (committed (w.member n)) ⊎ IsPrefixOf (committed (w.member n)) (committed (v.member m))

-- There is one list of which each committed list is a prefix, at any moment and of any member; and no commit lies past its log.
abbrev pub OneHistory : Type 0
OneHistory = (first : List ℕ) (steps : List Step) → MeetsFacts first steps
    → (history : List LogEntry) × ((v : Cluster) → IsMoment steps v → (m : ℕ) → IsPrefixOf (committed (v.member m)) history × ((v.member m).commit ≤ length (v.member m).log))

-- Each committed entry is held at the end by a quorum of the configuration in force for it, or of an adjacent one.
abbrev pub HeldAtEnd : Type 0
HeldAtEnd = (first : List ℕ) (steps : List Step) → MeetsFacts first steps → (v : Cluster) → IsMoment steps v → (m i : ℕ)
    → i < (v.member m).commit
    → (members : List ℕ) × AreAdjacent (configuration_at first (v.member m).log (suc i)) members
    × HasQuorum members (λ n. take (suc i) ((cluster_after steps).member n).log ≡ take (suc i) (v.member m).log)

-- Quorums of adjacent configurations have a common member.
abbrev pub QuorumsMeet : Type 0
QuorumsMeet = (a b : List ℕ) (p q : ℕ → Bool) → AreAdjacent a b → IsQuorum a p → IsQuorum b q → (m : ℕ) × (p m ≡ true) × (q m ≡ true)

-- A crash between two steps meets the facts, and so does what a crash leaves of a step that meets them.
abbrev pub CrashesMeet : Type 0
CrashesMeet = (first : List ℕ) (w : Cluster) → ((m : ℕ) → m ≢ 0 → Facts first w (crash w m)) × ((s : Step) → Facts first w s → Facts first w (cut_off s))
