-- What agreement asks of each step. Each fact relates the state before a step with the step: what came, what was left, what was sent.
--
-- The facts stand here for members with snapshots, as the step of cp_rules meets them, and once more in cp_agreement's
-- WholeLogs for members that keep their whole log. Agreement is proved over those, where an index is a place of a list; cp_safety
-- proves that each execution of these stands for one of those. A step does more to a log that has a base, so most facts differ, and
-- the two share the words of Logs, Configurations and Clusters alone.
use Rattle.std.specs.Prelude.{◌≡◌, ◌≢◌, ℕ, suc, ◌+◌, ◌-◌, ◌<◌, ◌≤◌, ◌⊎◌, true, List, [], ◌∷◌, ◌++◌, length, take, drop, Some, None, slice_get, Contains}
use Rattle.cp_parts.specs.declared.log_entry.LogEntry.{LogEntry}
use Rattle.cp_agreement_facts.specs.Entries.{members_in}
use Rattle.cp_agreement_facts.specs.Configurations.{configuration_after, HasQuorum, AreOneApart}
use Rattle.cp_agreement_facts.specs.Logs.{IsUpToDate, HasEntries, Replaces}
use Rattle.cp_agreement_facts.specs.Clusters.{Member, Message, Vote, Voted, Append, Appended, Snapshot, Done, Cluster, Step, cluster_after}

-- the acting member before the step
abbrev pub before : Cluster → Step → Member
before w s = w.member s.actor

-- The member knows the term of an index: it is the base, or an entry after it.
abbrev pub KnowsTerm : Member → ℕ → ℕ → Type 0
KnowsTerm m i t = ((i ≡ m.base) × (t ≡ m.base_term)) ⊎ ((k : ℕ) × (i ≡ suc (m.base + k)) × ((e : LogEntry) × (slice_get m.log k ≡ Some e) × (e.term ≡ t)))

-- the last index that the member has, and its term
abbrev pub LogEndsAt : Member → ℕ → ℕ → Type 0
LogEndsAt m t i = (i ≡ m.base + length m.log) × KnowsTerm m i t

-- the configuration in force at the end of the member's log
abbrev pub configuration_of : Member → List ℕ
configuration_of m = configuration_after m.base_members m.log

-- Members have numbers from 1 on, and only what was sent comes.
pub record MessagesDelivered (w : Cluster) (s : Step) : Type 0 where
  pub named : s.actor ≢ 0
  pub delivered : (m : Message) → s.got ≡ Some m → Contains w.sent m

-- Terms never fall, and a member votes at most once in a term.
pub record TermsAndVotes (w : Cluster) (s : Step) : Type 0 where
  pub term : (before w s).term ≤ s.after.term
  pub vote : (before w s).term ≡ s.after.term → (before w s).vote ≢ 0 → s.after.vote ≡ (before w s).vote

-- A yes to a candidate: it asked, the vote for it is kept, and its log is at least as up to date as the voter's.
pub record GivesVote (w : Cluster) (s : Step) (voter candidate term : ℕ) : Type 0 where
  pub voter_is : voter ≡ s.actor
  pub term_is : term ≡ s.after.term
  pub vote : s.after.vote ≡ candidate
  pub last_term : ℕ
  pub last_index : ℕ
  pub asked : Contains w.sent (Vote candidate term last_term last_index)
  pub own_term : ℕ
  pub own_index : ℕ
  pub own : LogEndsAt s.after own_term own_index
  pub up_to_date : IsUpToDate last_term last_index own_term own_index

-- Votes are durable and up to date.
abbrev pub VotesGiven : Cluster → Step → Type 0
VotesGiven w s = (voter candidate term : ℕ) → Contains s.sends (Voted voter candidate term) → GivesVote w s voter candidate term

-- A member wins its election: it voted for itself, it knows lower terms alone, its log still ends as its requests for votes of this
-- term said, and a quorum of the configuration at the end of its log said yes, itself counted.
pub record WinsElection (w : Cluster) (s : Step) : Type 0 where
  pub vote : s.after.vote ≡ s.actor
  pub fresh : (t i : ℕ) → KnowsTerm (before w s) i t → t < s.after.term
  pub spelled : (last_term last_index : ℕ) → Contains w.sent (Vote s.actor s.after.term last_term last_index) → LogEndsAt (before w s) last_term last_index
  pub quorum : HasQuorum (configuration_of (before w s)) (λ v. (v ≡ s.actor) ⊎ Contains w.sent (Voted v s.actor s.after.term))

-- Whoever leads a term led it before, or wins its election.
pub record LeadersElected (w : Cluster) (s : Step) : Type 0 where
  pub leads : s.after.is_leader ≡ true → s.leads ≡ true
  pub elected : s.leads ≡ true → (((before w s).is_leader ≡ true) × ((before w s).term ≡ s.after.term)) ⊎ WinsElection w s

-- the base and all that goes with it stay
abbrev pub SameBase : Member → Member → Type 0
SameBase a b = (a.base ≡ b.base) × (a.base_term ≡ b.base_term) × (a.base_members ≡ b.base_members)

abbrev pub KeepsLog : Cluster → Step → Type 0
KeepsLog w s = SameBase s.after (before w s) × (s.after.log ≡ (before w s).log)

-- Changes of the configuration are single: one member more or less, the configuration before is committed, and so is an entry of
-- the leader's own term.
pub record ChangesAreSingle (w : Cluster) (s : Step) (members : List ℕ) : Type 0 where
  pub one_apart : AreOneApart (configuration_of (before w s)) members
  pub settled : (k : ℕ) (e : LogEntry) → (before w s).commit ≤ (before w s).base + k → slice_get (before w s).log k ≡ Some e → members_in e.bytes ≡ None
  pub own : (i : ℕ) × (0 < i) × (i ≤ (before w s).commit) × KnowsTerm (before w s) i s.after.term

-- Only the leader creates an entry: one of its term, at the end of its log.
pub record EntriesCreated (w : Cluster) (s : Step) : Type 0 where
  pub base : SameBase s.after (before w s)
  pub entry : LogEntry
  pub own : entry.term ≡ s.after.term
  pub leading : s.leads ≡ true
  pub result : s.after.log ≡ (before w s).log ++ (entry ∷ [])
  pub change : (members : List ℕ) → members_in entry.bytes ≡ Some members → ChangesAreSingle w s members

-- An Append of the member's term, as it then is, came.
pub record GotAppend (w : Cluster) (s : Step) : Type 0 where
  pub sender : ℕ
  pub previous : ℕ
  pub previous_term : ℕ
  pub entries : List LogEntry
  pub commit : ℕ
  pub got : s.got ≡ Some (Append sender s.after.term previous previous_term entries commit)

-- The log follows an Append whose previous index the member knows, with its term, `skip` entries after the base.
pub record FollowsAbove (w : Cluster) (s : Step) : Type 0 where
  pub came : GotAppend w s
  pub base : SameBase s.after (before w s)
  pub skip : ℕ
  pub previous_is : came.previous ≡ (before w s).base + skip
  pub has : KnowsTerm (before w s) came.previous came.previous_term
  pub change : Replaces (before w s).log skip came.entries s.after.log

-- The log follows an Append that begins below the base: the entries up to the base are left out.
pub record FollowsBelow (w : Cluster) (s : Step) : Type 0 where
  pub came : GotAppend w s
  pub base : SameBase s.after (before w s)
  pub below : came.previous < (before w s).base
  pub change : Replaces (before w s).log 0 (drop ((before w s).base - came.previous) came.entries) s.after.log

-- The member takes a snapshot of its own, of n entries more than the base and no more than its commit.
pub record TakesSnapshot (w : Cluster) (s : Step) : Type 0 where
  pub n : ℕ
  pub base : s.after.base ≡ (before w s).base + n
  pub fits : n ≤ length (before w s).log
  pub committed : s.after.base ≤ (before w s).commit
  pub term : KnowsTerm (before w s) s.after.base s.after.base_term
  pub members : s.after.base_members ≡ configuration_after (before w s).base_members (take n (before w s).log)
  pub log : s.after.log ≡ drop n (before w s).log

-- The member installs a snapshot of its term, of an index above its commit. What follows the index stays where the member knew the
-- index with the snapshot's term; else nothing follows it.
pub record InstallsSnapshot (w : Cluster) (s : Step) : Type 0 where
  pub sender : ℕ
  pub got : s.got ≡ Some (Snapshot sender s.after.term s.after.base s.after.base_term s.after.base_members)
  pub above : (before w s).commit < s.after.base
  pub commit : s.after.commit ≡ s.after.base
  pub log : (KnowsTerm (before w s) s.after.base s.after.base_term × (s.after.log ≡ drop (s.after.base - (before w s).base) (before w s).log))
      ⊎ ((KnowsTerm (before w s) s.after.base s.after.base_term → ⊥) × (s.after.log ≡ []))

-- What an Append says: entries that follow an index of the leader's log, the term of that index, and the leader's commit.
pub record SendsAppend (s : Step) (sender term previous previous_term : ℕ) (entries : List LogEntry) (commit : ℕ) : Type 0 where
  pub sender_is : sender ≡ s.actor
  pub term_is : term ≡ s.after.term
  pub leading : s.leads ≡ true
  pub skip : ℕ
  pub previous_is : previous ≡ s.after.base + skip
  pub has : KnowsTerm s.after previous previous_term
  pub piece : HasEntries s.after.log skip entries
  pub commit_is : commit ≡ s.after.commit

-- What a Snapshot says: the leader's base, and what stands with it.
pub record SendsSnapshot (s : Step) (sender term index index_term : ℕ) (members : List ℕ) : Type 0 where
  pub sender_is : sender ≡ s.actor
  pub term_is : term ≡ s.after.term
  pub leading : s.leads ≡ true
  pub index_is : index ≡ s.after.base
  pub index_term_is : index_term ≡ s.after.base_term
  pub members_is : members ≡ s.after.base_members

-- What a request for votes says: the candidate's term, and where its log ends.
pub record SendsVote (s : Step) (candidate term last_term last_index : ℕ) : Type 0 where
  pub candidate_is : candidate ≡ s.actor
  pub term_is : term ≡ s.after.term
  pub vote : s.after.vote ≡ s.actor
  pub ends : LogEndsAt s.after last_term last_index

-- Logs follow the leader: beside what a leader creates, a log changes by an Append or a Snapshot of the member's term alone, and by
-- the member's own snapshots. A leader sends what its log has.
pub record LogsFollow (w : Cluster) (s : Step) : Type 0 where
  pub log : KeepsLog w s ⊎ (EntriesCreated w s ⊎ (FollowsAbove w s ⊎ (FollowsBelow w s ⊎ (TakesSnapshot w s ⊎ InstallsSnapshot w s))))
  pub append : (sender term previous previous_term : ℕ) (entries : List LogEntry) (commit : ℕ) → Contains s.sends (Append sender term previous previous_term entries commit)
      → SendsAppend s sender term previous previous_term entries commit
  pub snapshot : (sender term index index_term : ℕ) (members : List ℕ) → Contains s.sends (Snapshot sender term index index_term members)
      → SendsSnapshot s sender term index index_term members
  pub ask : (candidate term last_term last_index : ℕ) → Contains s.sends (Vote candidate term last_term last_index) → SendsVote s candidate term last_term last_index

-- After the step the member's log has what the Append that came says, up to this index, as far as it lies above the base.
pub record Acknowledges (w : Cluster) (s : Step) (index : ℕ) : Type 0 where
  pub came : GotAppend w s
  pub index_is : index ≡ came.previous + length came.entries
  pub has : s.after.base ≤ came.previous → KnowsTerm s.after came.previous came.previous_term
  pub all : (k : ℕ) (e : LogEntry) → slice_get came.entries k ≡ Some e → s.after.base ≤ came.previous + k → KnowsTerm s.after (suc (came.previous + k)) e.term

-- The snapshot of this index that came is installed in this step, or its index was committed before.
pub record Finishes (w : Cluster) (s : Step) (index : ℕ) : Type 0 where
  pub sender : ℕ
  pub index_term : ℕ
  pub members : List ℕ
  pub got : s.got ≡ Some (Snapshot sender s.after.term index index_term members)
  pub done : (InstallsSnapshot w s × (index ≡ s.after.base)) ⊎ (index ≤ (before w s).commit)

-- Acknowledgements are true.
pub record AppendsAcknowledged (w : Cluster) (s : Step) : Type 0 where
  pub appended : (member to term index : ℕ) → Contains s.sends (Appended member to term index)
      → (member ≡ s.actor) × (term ≡ s.after.term) × Acknowledges w s index
  pub done : (member to term index : ℕ) → Contains s.sends (Done member to term index) → (member ≡ s.actor) × (term ≡ s.after.term) × Finishes w s index

-- The member has acknowledged an index of the term, or a higher one.
abbrev pub HasAcknowledged : Cluster → ℕ → ℕ → ℕ → Type 0
HasAcknowledged w member term index = (to : ℕ) × (j : ℕ) × (index ≤ j) × (Contains w.sent (Appended member to term j) ⊎ Contains w.sent (Done member to term j))

-- A leader commits up to an entry of its own term that a quorum of its configuration has acknowledged, itself counted.
pub record LeaderCommits (w : Cluster) (s : Step) : Type 0 where
  pub leads : s.leads ≡ true
  pub own : KnowsTerm s.after s.after.commit s.after.term
  pub quorum : HasQuorum (configuration_of s.after) (λ v. (v ≡ s.actor) ⊎ HasAcknowledged w v s.after.term s.after.commit)

-- Another commits no more than the Append that came says is committed, and no more than it acknowledges.
pub record FollowerCommits (w : Cluster) (s : Step) : Type 0 where
  pub index : ℕ
  pub acknowledges : Acknowledges w s index
  pub told : s.after.commit ≤ acknowledges.came.commit
  pub reached : s.after.commit ≤ index

-- Commits advance by a quorum of the own term. A start and a crash take the commit back, never below the base.
pub record CommitsAdvance (w : Cluster) (s : Step) : Type 0 where
  pub above_base : s.after.base ≤ s.after.commit
  pub commit : (s.after.commit ≤ (before w s).commit) ⊎ (LeaderCommits w s ⊎ (FollowerCommits w s ⊎ InstallsSnapshot w s))

-- the facts beside those of elections
pub record OtherFacts (w : Cluster) (s : Step) : Type 0 where
  pub messages_delivered : MessagesDelivered w s
  pub open messages_delivered use *
  pub terms_and_votes : TermsAndVotes w s
  pub open terms_and_votes use *
  pub logs_follow : LogsFollow w s
  pub open logs_follow use *
  pub appends_acknowledged : AppendsAcknowledged w s
  pub open appends_acknowledged use *
  pub commits_advance : CommitsAdvance w s
  pub open commits_advance use *

-- All facts of a step.
pub record Facts (w : Cluster) (s : Step) : Type 0 where
  pub others : OtherFacts w s
  pub open others use *
  pub votes_given : VotesGiven w s
  pub leaders_elected : LeadersElected w s
  pub open leaders_elected use *

-- Each step of the execution meets the facts, for a group with these first members.
abbrev pub MeetsFacts : List ℕ → List Step → Type 0
MeetsFacts first [] = Unit {0}
MeetsFacts first (s ∷ earlier) = Facts (cluster_after first earlier) s × MeetsFacts first earlier
