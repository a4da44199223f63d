-- Members with all that they keep in memory for agreement: role, counted votes, matched indexes. The facts here relate one member's
-- state before and after a step, as rules for one member do: none speaks of what was ever sent, but that what comes was sent.
use Rattle.std.specs.Prelude.{All, ◌≡◌, ◌≢◌, ℕ, ◌<◌, ◌≤◌, ◌⊎◌, Bool, true, false, List, [], ◌∷◌, ◌++◌, Option, Some, Contains, if◌then◌else◌}
use Rattle.cp_parts.specs.declared.log_entry.LogEntry.{LogEntry}
use Rattle.cp_agreement_facts.specs.Configurations.{HasQuorum}
use Rattle.cp_agreement_facts.specs.Clusters.{Member, Message, Vote, Voted, Append, Appended, Snapshot, Done, Other, Cluster, Step, put}
use Rattle.cp_agreement_facts.specs.Facts.{KnowsTerm, configuration_of, KeepsLog, EntriesCreated, FollowsAbove, FollowsBelow, TakesSnapshot, InstallsSnapshot, GivesVote, SendsAppend, SendsSnapshot, SendsVote, Acknowledges, Finishes, FollowerCommits}

pub data Role : Type 0 where
  Follower : Role
  PreCandidate : Role
  Candidate : Role
  Leader : Role

abbrev pub leads_by_role : Role → Bool
leads_by_role Follower = false
leads_by_role PreCandidate = false
leads_by_role Candidate = false
leads_by_role Leader = true

-- A member with its volatile state: a candidate counts who said yes, and a leader keeps for each member an index up to which that
-- member has its log.
pub record TrackedMember : Type 0 where
  -- persistent
  pub term : ℕ
  pub vote : ℕ
  pub base : ℕ
  pub base_term : ℕ
  pub base_members : List ℕ
  pub log : List LogEntry
  -- volatile
  pub commit : ℕ
  pub role : Role
  pub counted : ℕ → Bool
  pub matched : ℕ → ℕ

-- the member without what it counts
abbrev pub untracked : TrackedMember → Member
untracked m = record { term = m.term; vote = m.vote; base = m.base; base_term = m.base_term; base_members = m.base_members; log = m.log; commit = m.commit; is_leader = leads_by_role m.role }

pub record TrackedCluster : Type 0 where
  pub member : ℕ → TrackedMember
  pub sent : List Message

abbrev pub untracked_cluster : TrackedCluster → Cluster
untracked_cluster w = record { member = λ m. untracked (w.member m); sent = w.sent }

-- One step of a member, and whether a crash cut it off after it wrote what it leaves.
pub record TrackedStep : Type 0 where
  pub actor : ℕ
  pub got : Option Message
  pub leads : Bool
  pub after : TrackedMember
  pub sends : List Message
  pub cut : Bool

-- What a crash leaves, as the next start finds it: the commit is the base.
abbrev pub restarted : TrackedMember → TrackedMember
restarted m = record m { commit = m.base; role = Follower; counted = λ v. false; matched = λ f. 0 }

abbrev pub uncut_step : TrackedStep → Step
uncut_step s = record { actor = s.actor; got = s.got; leads = s.leads; after = untracked s.after; sends = s.sends }

abbrev pub cut_step : TrackedStep → Step
cut_step s = record { actor = s.actor; got = s.got; leads = s.leads; after = untracked (restarted s.after); sends = [] }

-- The step as agreement sees it.
abbrev pub untracked_step : TrackedStep → Step
untracked_step s = if s.cut then cut_step s else uncut_step s

abbrev pub untracked_steps : List TrackedStep → List Step
untracked_steps [] = []
untracked_steps (s ∷ before) = untracked_step s ∷ untracked_steps before

abbrev pub tracked_after_step : TrackedCluster → TrackedStep → TrackedCluster
tracked_after_step w s = record {
  member = put w.member s.actor (if s.cut then restarted s.after else s.after);
  sent = w.sent ++ (if s.cut then [] else s.sends);
}

abbrev pub tracked_opening : List ℕ → TrackedCluster
tracked_opening first = record {
  member = λ m. record { term = 0; vote = 0; base = 0; base_term = 0; base_members = first; log = []; commit = 0; role = Follower; counted = λ v. false; matched = λ f. 0 };
  sent = [];
}

abbrev pub tracked_after : List ℕ → List TrackedStep → TrackedCluster
tracked_after first [] = tracked_opening first
tracked_after first (s ∷ before) = tracked_after_step (tracked_after first before) s

-- the acting member before the step
abbrev pub tracked_before : TrackedCluster → TrackedStep → TrackedMember
tracked_before w s = w.member s.actor

-- a yes that is counted at the end of the step: it was counted before, or it came
abbrev pub Counts : TrackedCluster → TrackedStep → ℕ → Type 0
Counts w s v = ((tracked_before w s).counted v ≡ true) ⊎ (s.got ≡ Some (Voted v s.actor s.after.term))

-- A candidate wins by the votes that it has counted, its own among them.
pub record WinsByVotes (w : TrackedCluster) (s : TrackedStep) : Type 0 where
  pub role : (tracked_before w s).role ≡ Candidate
  pub term : (tracked_before w s).term ≡ s.after.term
  pub vote : s.after.vote ≡ s.actor
  pub quorum : HasQuorum (configuration_of (untracked (tracked_before w s))) (λ v. (v ≡ s.actor) ⊎ Counts w s v)

-- A member that is a quorum by itself wins in the step that raises its term.
pub record WinsAlone (w : TrackedCluster) (s : TrackedStep) : Type 0 where
  pub term : (tracked_before w s).term < s.after.term
  pub vote : s.after.vote ≡ s.actor
  pub quorum : HasQuorum (configuration_of (untracked (tracked_before w s))) (λ v. v ≡ s.actor)

pub record StaysCandidate (w : TrackedCluster) (s : TrackedStep) : Type 0 where
  pub role : (tracked_before w s).role ≡ Candidate
  pub term : (tracked_before w s).term ≡ s.after.term
  pub counted : (v : ℕ) → s.after.counted v ≡ true → Counts w s v

pub record BecomesCandidate (w : TrackedCluster) (s : TrackedStep) : Type 0 where
  pub term : (tracked_before w s).term < s.after.term
  pub counted : (v : ℕ) → s.after.counted v ≡ false

-- The member f is known to have the log up to index n: in this leadership it was, or it has just said so.
abbrev pub MatchedUpto : TrackedCluster → TrackedStep → ℕ → ℕ → Type 0
MatchedUpto w s f n = (((tracked_before w s).role ≡ Leader) × ((tracked_before w s).term ≡ s.after.term) × (n ≤ (tracked_before w s).matched f))
    ⊎ ((to : ℕ) × (j : ℕ) × (n ≤ j) × ((s.got ≡ Some (Appended f to s.after.term j)) ⊎ (s.got ≡ Some (Done f to s.after.term j))))

-- A leader commits up to an entry of its own term that a quorum is known to have, itself counted.
pub record LeaderCommitsByMatch (w : TrackedCluster) (s : TrackedStep) : Type 0 where
  pub leads : s.leads ≡ true
  pub own : KnowsTerm (untracked s.after) s.after.commit s.after.term
  pub quorum : HasQuorum (configuration_of (untracked s.after)) (λ v. (v ≡ s.actor) ⊎ MatchedUpto w s v s.after.commit)

-- the whole log stays
abbrev pub Rests : TrackedCluster → TrackedStep → Type 0
Rests w s = KeepsLog (untracked_cluster w) (uncut_step s) ⊎ TakesSnapshot (untracked_cluster w) (uncut_step s)

-- the whole log changes
abbrev pub Moves : TrackedCluster → TrackedStep → Type 0
Moves w s = EntriesCreated (untracked_cluster w) (uncut_step s)
    ⊎ (FollowsAbove (untracked_cluster w) (uncut_step s) ⊎ (FollowsBelow (untracked_cluster w) (uncut_step s) ⊎ InstallsSnapshot (untracked_cluster w) (uncut_step s)))

-- what each message that the step sends says, by its kind
abbrev pub SendsTruly : TrackedCluster → TrackedStep → Message → Type 0
SendsTruly w s (Vote c t lt li) = (s.after.role ≡ Candidate) × SendsVote (uncut_step s) c t lt li
SendsTruly w s (Voted v c t) = GivesVote (untracked_cluster w) (uncut_step s) v c t
SendsTruly w s (Append f t p pt es c) = SendsAppend (uncut_step s) f t p pt es c
SendsTruly w s (Appended v to t j) = (v ≡ s.actor) × (t ≡ s.after.term) × Acknowledges (untracked_cluster w) (uncut_step s) j
SendsTruly w s (Snapshot f t i it ms) = SendsSnapshot (uncut_step s) f t i it ms
SendsTruly w s (Done v to t j) = (v ≡ s.actor) × (t ≡ s.after.term) × Finishes (untracked_cluster w) (uncut_step s) j
SendsTruly w s Other = Unit {0}

-- The facts of a step of a member with its volatile state.
pub record TrackedFacts (w : TrackedCluster) (s : TrackedStep) : Type 0 where
  pub named : s.actor ≢ 0
  pub delivered : (m : Message) → s.got ≡ Some m → Contains w.sent m
  -- terms and votes
  pub term : (tracked_before w s).term ≤ s.after.term
  pub vote : (tracked_before w s).term ≡ s.after.term → (tracked_before w s).vote ≢ 0 → s.after.vote ≡ (tracked_before w s).vote
  -- elections
  pub leads : s.after.role ≡ Leader → s.leads ≡ true
  pub elected : s.leads ≡ true → (((tracked_before w s).role ≡ Leader) × ((tracked_before w s).term ≡ s.after.term)) ⊎ (WinsByVotes w s ⊎ WinsAlone w s)
  pub candidate : s.after.role ≡ Candidate → StaysCandidate w s ⊎ BecomesCandidate w s
  pub apart : s.after.role ≡ Candidate → s.leads ≡ false
  -- logs, where a candidate's whole log stays
  pub log : Rests w s ⊎ ((s.after.role ≢ Candidate) × Moves w s)
  pub sends : All (SendsTruly w s) s.sends
  -- commits
  pub matched : s.after.role ≡ Leader → (f : ℕ) → (s.after.matched f ≡ 0) ⊎ MatchedUpto w s f (s.after.matched f)
  pub above_base : s.after.base ≤ s.after.commit
  pub commit : ((s.after.commit ≤ (tracked_before w s).commit))
      ⊎ (LeaderCommitsByMatch w s ⊎ (FollowerCommits (untracked_cluster w) (uncut_step s) ⊎ InstallsSnapshot (untracked_cluster w) (uncut_step s)))

-- Each step of the execution meets these facts.
abbrev pub MeetsTrackedFacts : List ℕ → List TrackedStep → Type 0
MeetsTrackedFacts first [] = Unit {0}
MeetsTrackedFacts first (s ∷ before) = TrackedFacts (tracked_after first before) s × MeetsTrackedFacts first before
