-- The facts of a step again, for members that keep their whole log and take no snapshot. Agreement is proved here; cp_safety carries
-- it to members with snapshots, each of which stands for such a one. The head of Facts in cp_agreement_facts says why they stand twice.
use Rattle.std.specs.Prelude.{◌≡◌, ◌≢◌, ℕ, ◌+◌, ◌<◌, ◌≤◌, ◌⊎◌, Bool, true, false, List, [], ◌∷◌, ◌++◌, length, take, Option, Some, None, slice_get, Contains}
use Rattle.cp_parts.specs.declared.log_entry.LogEntry.{LogEntry}
use Rattle.cp_agreement_facts.specs.Entries.{members_in}
use Rattle.cp_agreement_facts.specs.Configurations.{configuration_after, HasQuorum, AreOneApart}
use Rattle.cp_agreement_facts.specs.Logs.{HasTerm, EndsAt, IsUpToDate, HasEntries, HasTerms, Replaces}
use Rattle.cp_agreement_facts.specs.Clusters.{Message, Vote, Voted, Append, Appended, put}

-- A member. A crash leaves term, vote and log.
pub record Member : Type 0 where
  pub term : ℕ
  pub vote : ℕ
  pub log : List LogEntry
  pub commit : ℕ
  pub is_leader : Bool

-- The members by their number, and each message that was ever sent.
pub record Cluster : Type 0 where
  pub member : ℕ → Member
  pub sent : List Message

-- A step of one member: what came, whether the member led the term that it then has, what it left, what it sent.
pub record Step : Type 0 where
  pub actor : ℕ
  pub got : Option Message
  pub leads : Bool
  pub after : Member
  pub sends : List Message

abbrev pub after_step : Cluster → Step → Cluster
after_step w s = record { member = put w.member s.actor s.after; sent = w.sent ++ s.sends }

abbrev pub opening : Cluster
opening = record { member = λ m. record { term = 0; vote = 0; log = []; commit = 0; is_leader = false }; sent = [] }

-- An execution is a list of steps, the latest first.
abbrev pub cluster_after : List Step → Cluster
cluster_after [] = opening
cluster_after (s ∷ before) = after_step (cluster_after before) s

-- a state that the execution had, after some step or before the first
abbrev pub IsMoment : List Step → Cluster → Type 0
IsMoment [] w = w ≡ opening
IsMoment (s ∷ before) w = (w ≡ cluster_after (s ∷ before)) ⊎ IsMoment before w

-- In some step the member led, and was left as this: as one that leads no more, where it stepped down or a crash cut the step off.
abbrev pub Led : List Step → ℕ → Member → Type 0
Led [] m x = ⊥
Led (s ∷ before) m x = ((s.actor ≡ m) × (s.leads ≡ true) × (s.after ≡ x)) ⊎ Led before m x

-- the acting member before the step
abbrev pub before : Cluster → Step → Member
before w s = w.member s.actor

-- Members have numbers from 1 on, and only what was sent comes.
pub record MessagesDelivered (w : Cluster) (s : Step) : Type 0 where
  pub named : s.actor ≢ 0
  pub delivered : (m : Message) → s.got ≡ Some m → Contains w.sent m

-- Terms never fall, and a member votes at most once in a term.
pub record TermsAndVotes (w : Cluster) (s : Step) : Type 0 where
  pub term : (before w s).term ≤ s.after.term
  pub vote : (before w s).term ≡ s.after.term → (before w s).vote ≢ 0 → s.after.vote ≡ (before w s).vote

-- A yes to a candidate: it asked, the vote for it is kept, and its log is at least as up to date as the voter's.
pub record GivesVote (w : Cluster) (s : Step) (voter candidate term : ℕ) : Type 0 where
  pub voter_is : voter ≡ s.actor
  pub term_is : term ≡ s.after.term
  pub vote : s.after.vote ≡ candidate
  pub last_term : ℕ
  pub last_index : ℕ
  pub asked : Contains w.sent (Vote candidate term last_term last_index)
  pub own_term : ℕ
  pub own_index : ℕ
  pub own : EndsAt s.after.log own_term own_index
  pub up_to_date : IsUpToDate last_term last_index own_term own_index

-- Votes are durable and up to date.
abbrev pub VotesGiven : Cluster → Step → Type 0
VotesGiven w s = (voter candidate term : ℕ) → Contains s.sends (Voted voter candidate term) → GivesVote w s voter candidate term

-- A member wins its election: it voted for itself, its log has lower terms alone and still ends as its requests for votes of this
-- term said, and a quorum of the configuration at the end of its log said yes, itself counted.
pub record WinsElection (first : List ℕ) (w : Cluster) (s : Step) : Type 0 where
  pub vote : s.after.vote ≡ s.actor
  pub fresh : (k : ℕ) (e : LogEntry) → slice_get (before w s).log k ≡ Some e → e.term < s.after.term
  pub spelled : (last_term last_index : ℕ) → Contains w.sent (Vote s.actor s.after.term last_term last_index) → EndsAt (before w s).log last_term last_index
  pub quorum : HasQuorum (configuration_after first (before w s).log) (λ v. (v ≡ s.actor) ⊎ Contains w.sent (Voted v s.actor s.after.term))

-- Whoever leads a term led it before, or wins its election.
pub record LeadersElected (first : List ℕ) (w : Cluster) (s : Step) : Type 0 where
  pub leads : s.after.is_leader ≡ true → s.leads ≡ true
  pub elected : s.leads ≡ true → (((before w s).is_leader ≡ true) × ((before w s).term ≡ s.after.term)) ⊎ WinsElection first w s

-- Changes of the configuration are single: one member more or less, the configuration before is committed, and so is an entry of
-- the leader's own term.
pub record ChangesAreSingle (first : List ℕ) (w : Cluster) (s : Step) (members : List ℕ) : Type 0 where
  pub one_apart : AreOneApart (configuration_after first (before w s).log) members
  pub settled : (k : ℕ) (e : LogEntry) → (before w s).commit ≤ k → slice_get (before w s).log k ≡ Some e → members_in e.bytes ≡ None
  pub own : (k : ℕ) × (e : LogEntry) × (k < (before w s).commit) × (slice_get (before w s).log k ≡ Some e) × (e.term ≡ s.after.term)

-- Only the leader creates an entry: one of its term, at the end of its log.
pub record EntriesCreated (first : List ℕ) (w : Cluster) (s : Step) : Type 0 where
  pub entry : LogEntry
  pub own : entry.term ≡ s.after.term
  pub leading : s.leads ≡ true
  pub result : s.after.log ≡ (before w s).log ++ (entry ∷ [])
  pub change : (members : List ℕ) → members_in entry.bytes ≡ Some members → ChangesAreSingle first w s members

-- An Append of the member's term, as it then is, came.
pub record GotAppend (w : Cluster) (s : Step) : Type 0 where
  pub sender : ℕ
  pub previous : ℕ
  pub previous_term : ℕ
  pub entries : List LogEntry
  pub commit : ℕ
  pub got : s.got ≡ Some (Append sender s.after.term previous previous_term entries commit)

-- The log follows an Append whose previous index it has, with its term.
pub record FollowsLeader (w : Cluster) (s : Step) : Type 0 where
  pub came : GotAppend w s
  pub has : HasTerm (before w s).log came.previous came.previous_term
  pub change : (s.after.log ≡ (before w s).log) ⊎ Replaces (before w s).log came.previous came.entries s.after.log

-- What an Append says: entries that follow an index of the leader's log, the term of that index, and the leader's commit.
pub record SendsAppend (s : Step) (sender term previous previous_term : ℕ) (entries : List LogEntry) (commit : ℕ) : Type 0 where
  pub sender_is : sender ≡ s.actor
  pub term_is : term ≡ s.after.term
  pub leading : s.leads ≡ true
  pub has : HasTerm s.after.log previous previous_term
  pub piece : HasEntries s.after.log previous entries
  pub commit_is : commit ≡ s.after.commit

-- What a request for votes says: the candidate's term, and where its log ends.
pub record SendsVote (s : Step) (candidate term last_term last_index : ℕ) : Type 0 where
  pub candidate_is : candidate ≡ s.actor
  pub term_is : term ≡ s.after.term
  pub vote : s.after.vote ≡ s.actor
  pub ends : EndsAt s.after.log last_term last_index

-- Logs follow the leader: beside what a leader creates, a log changes by an Append of the member's term alone.
pub record LogsFollow (first : List ℕ) (w : Cluster) (s : Step) : Type 0 where
  pub log : (s.after.log ≡ (before w s).log) ⊎ (EntriesCreated first w s ⊎ FollowsLeader w s)
  pub append : (sender term previous previous_term : ℕ) (entries : List LogEntry) (commit : ℕ) → Contains s.sends (Append sender term previous previous_term entries commit)
      → SendsAppend s sender term previous previous_term entries commit
  pub ask : (candidate term last_term last_index : ℕ) → Contains s.sends (Vote candidate term last_term last_index) → SendsVote s candidate term last_term last_index

-- After the step the member's log has what the Append that came says, up to this index.
pub record Acknowledges (w : Cluster) (s : Step) (index : ℕ) : Type 0 where
  pub came : GotAppend w s
  pub index_is : index ≡ came.previous + length came.entries
  pub has : HasTerm s.after.log came.previous came.previous_term
  pub all : HasTerms s.after.log came.previous came.entries (length came.entries)

-- Acknowledgements are true.
abbrev pub AppendsAcknowledged : Cluster → Step → Type 0
AppendsAcknowledged w s = (member to term index : ℕ) → Contains s.sends (Appended member to term index) → (member ≡ s.actor) × (term ≡ s.after.term) × Acknowledges w s index

-- The member has acknowledged an index of the term, or a higher one.
abbrev pub HasAcknowledged : Cluster → ℕ → ℕ → ℕ → Type 0
HasAcknowledged w member term index = (to : ℕ) × (j : ℕ) × (index ≤ j) × Contains w.sent (Appended member to term j)

-- A leader commits up to an entry of its own term that a quorum of its configuration has acknowledged, itself counted.
pub record LeaderCommits (first : List ℕ) (w : Cluster) (s : Step) : Type 0 where
  pub leads : s.leads ≡ true
  pub own : HasTerm s.after.log s.after.commit s.after.term
  pub quorum : HasQuorum (configuration_after first s.after.log) (λ v. (v ≡ s.actor) ⊎ HasAcknowledged w v s.after.term s.after.commit)

-- Another commits no more than the Append that came says is committed, and no more than it acknowledges.
pub record FollowerCommits (w : Cluster) (s : Step) : Type 0 where
  pub index : ℕ
  pub acknowledges : Acknowledges w s index
  pub told : s.after.commit ≤ acknowledges.came.commit
  pub reached : s.after.commit ≤ index

-- Commits advance by a quorum of the own term.
abbrev pub CommitsAdvance : List ℕ → Cluster → Step → Type 0
CommitsAdvance first w s = (s.after.commit ≤ (before w s).commit) ⊎ (LeaderCommits first w s ⊎ FollowerCommits w s)

-- the facts beside those of elections
pub record OtherFacts (first : List ℕ) (w : Cluster) (s : Step) : Type 0 where
  pub messages_delivered : MessagesDelivered w s
  pub open messages_delivered use *
  pub terms_and_votes : TermsAndVotes w s
  pub open terms_and_votes use *
  pub logs_follow : LogsFollow first w s
  pub open logs_follow use *
  pub acknowledged : AppendsAcknowledged w s
  pub commit : CommitsAdvance first w s

-- All facts of a step, for a group with these first members.
pub record Facts (first : List ℕ) (w : Cluster) (s : Step) : Type 0 where
  pub others : OtherFacts first w s
  pub open others use *
  pub votes_given : VotesGiven w s
  pub leaders_elected : LeadersElected first w s
  pub open leaders_elected use *

-- Each step of the execution meets the facts.
abbrev pub MeetsFacts : List ℕ → List Step → Type 0
MeetsFacts first [] = Unit {0}
MeetsFacts first (s ∷ earlier) = Facts first (cluster_after earlier) s × MeetsFacts first earlier

abbrev pub committed : Member → List LogEntry
committed m = take m.commit m.log

-- The same step, cut off by a crash: what it wrote stands, and nothing was sent.
abbrev pub crashed : Member → Member
crashed m = record m { commit = 0; is_leader = false }

abbrev pub cut_off : Step → Step
cut_off s = record s { after = crashed s.after; sends = [] }

-- a crash between two steps
abbrev pub crash : Cluster → ℕ → Step
crash w m = record { actor = m; got = None; leads = false; after = crashed (w.member m); sends = [] }
