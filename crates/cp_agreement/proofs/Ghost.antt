-- What an execution has shown so far, as functions of a term: the ghost, which is read off the steps and which no member keeps, and
-- the invariant that each step keeps.
use Rattle.cp_parts.specs.declared.log_entry.LogEntry.{LogEntry}
use Rattle.cp_agreement_facts.specs.Entries.{members_in}
use Rattle.cp_agreement_facts.specs.Configurations.{AreOneApart, HasQuorum, configuration_after}
use Rattle.cp_agreement_facts.specs.Logs.{EndsAt, HasTerm, IsUpToDate}
use Rattle.cp_agreement_facts.specs.Clusters.{Append, Appended, Vote, Voted, put}
use Rattle.cp_agreement.specs.WholeLogs.{Cluster, Member, Step, after_step, cluster_after}
use Rattle.std.proofs.Common.{◌≡◌, ◌≢◌, ℕ, suc, ◌+◌, ◌<◌, ◌≤◌, ◌⊎◌, ⊎_elim, true, List, [], ◌∷◌, length, refl, sym, subst, Some, None, slice_get, Contains, if◌then◌else◌, ◌==◌, eq-eqb}
use Rattle.std.proofs.lemmas.Bool.{cases_eq, ne_eqb}
use Rattle.cp_agreement.proofs.Logs.{Share, Differ}

-- vote_of m t: whom member m voted for in term t, 0 for nobody. leader t: who led term t, 0 for nobody.
-- made t: the log of the leader of term t, as far as it has come. won t: the log with which it won its election.
pub record Ghost : Type 0 where
  pub vote_of : ℕ → ℕ → ℕ
  pub leader : ℕ → ℕ
  pub made : ℕ → List LogEntry
  pub won : ℕ → List LogEntry

abbrev pub leader_after : Cluster → Ghost → Step → ℕ
leader_after w g s = if s.leads then s.actor else g.leader s.after.term

abbrev pub made_after : Cluster → Ghost → Step → List LogEntry
made_after w g s = if s.leads then s.after.log else g.made s.after.term

abbrev pub won_after : Cluster → Ghost → Step → List LogEntry
won_after w g s = if s.leads then (if g.leader s.after.term == 0 then (w.member s.actor).log else g.won s.after.term) else g.won s.after.term

-- the ghost after a step
abbrev pub ghost_after : Cluster → Ghost → Step → Ghost
ghost_after w g s = record {
  vote_of = put g.vote_of s.actor (put (g.vote_of s.actor) s.after.term s.after.vote);
  leader = put g.leader s.after.term (leader_after w g s);
  made = put g.made s.after.term (made_after w g s);
  won = put g.won s.after.term (won_after w g s);
}

-- the ghost of an execution
abbrev pub ghost_of : List Step → Ghost
ghost_of [] = record { vote_of = λ m t. 0; leader = λ t. 0; made = λ t. []; won = λ t. [] }
ghost_of (s ∷ before) = ghost_after (cluster_after before) (ghost_of before) s

pub put_same : {A : Type 0} (f : ℕ → A) (k : ℕ) (x : A) (j : ℕ) → j ≡ k → put f k x j ≡ x
put_same f k x j e = rw (eq-eqb j k e) refl

pub put_other : {A : Type 0} (f : ℕ → A) (k : ℕ) (x : A) (j : ℕ) → j ≢ k → put f k x j ≡ f j
put_other f k x j e = rw (ne_eqb j k e) refl

-- A claim on each member holds after a step if it holds of the actor as it was left, and of everybody else as before.
pub at_each : (P : ℕ → Member → Type 0) (w : Cluster) (s : Step) → P s.actor s.after → ((m : ℕ) → m ≢ s.actor → P m (w.member m)) → (m : ℕ) → P m ((after_step w s).member m)
at_each P w s own other m = ⊎_elim
    (λ e. subst (P m) (sym (put_same w.member s.actor s.after m e)) (subst (λ k. P k s.after) (sym e) own))
    (λ n. subst (P m) (sym (put_other w.member s.actor s.after m n)) (other m n))
    (cases_eq m s.actor)

-- A member v stands behind the entry at place k of the leader of term t: the entry is of term t, and v acknowledged it or is that leader.
pub record Backs (w : Cluster) (g : Ghost) (v t k : ℕ) : Type 0 where
  pub entry : LogEntry
  pub there : slice_get (g.made t) k ≡ Some entry
  pub own : entry.term ≡ t
  pub by : (v ≡ g.leader t) ⊎ ((to : ℕ) × (j : ℕ) × (k < j) × Contains w.sent (Appended v to t j))

-- The leader of some term from t on and below u has an entry of another term at a place up to k.
pub record Clash (g : Ghost) (t k : ℕ) (u : ℕ) : Type 0 where
  pub by : ℕ
  pub from : t ≤ by
  pub below : by < u
  pub differ : Differ k (g.made by) (g.made t)

-- the log's end is not below the entry at place k of the leader of term t
pub record EndsPast (log : List LogEntry) (t k : ℕ) : Type 0 where
  pub last_term : ℕ
  pub ends : EndsAt log last_term (length log)
  pub past : IsUpToDate last_term (length log) t (suc k)

-- An entry of the leader's own term is chosen: a quorum stands behind it, of the configuration of `till`, the leader's log when it counted.
pub record Chosen (first : List ℕ) (w : Cluster) (g : Ghost) (t k : ℕ) : Type 0 where
  pub entry : LogEntry
  pub there : slice_get (g.made t) k ≡ Some entry
  pub own : entry.term ≡ t
  pub till : List LogEntry
  pub front : Share (length till) till (g.made t)
  pub covers : k < length till
  pub quorum : HasQuorum (configuration_after first till) (λ v. Backs w g v t k)

-- n entries of the log are committed, by the leader of a term up to u
pub record Committed (first : List ℕ) (w : Cluster) (g : Ghost) (log : List LogEntry) (n u : ℕ) : Type 0 where
  pub term : ℕ
  pub place : ℕ
  pub upto : term ≤ u
  pub covers : n ≤ suc place
  pub chosen : Chosen first w g term place
  pub same : Share n log (g.made term)

-- Each entry's front is that of the leader of its term, and no entry is of a term above u.
pub record Sound (g : Ghost) (log : List LogEntry) (u : ℕ) : Type 0 where
  pub upto : (k : ℕ) (e : LogEntry) → slice_get log k ≡ Some e → e.term ≤ u
  pub rooted : (k : ℕ) (e : LogEntry) → slice_get log k ≡ Some e → Share (suc k) log (g.made e.term)

-- The log x can win term t': it has lower terms alone, and of a quorum of its configuration each member stands behind nothing of a lower
-- term that the log is below, unless the leader of a term below `bound` clashes with it.
pub record Election (first : List ℕ) (w : Cluster) (g : Ghost) (t' bound : ℕ) (x : List LogEntry) : Type 0 where
  pub sound : Sound g x t'
  pub below : (k : ℕ) (e : LogEntry) → slice_get x k ≡ Some e → e.term < t'
  pub quorum : HasQuorum (configuration_after first x) (λ v. (t k : ℕ) → Backs w g v t k → t < t' → Clash g t k bound ⊎ EndsPast x t k)

-- no members entry at the places from n up to m
abbrev pub QuietBetween : List LogEntry → ℕ → ℕ → Type 0
QuietBetween log n m = (k : ℕ) (e : LogEntry) → n ≤ k → k < m → slice_get log k ≡ Some e → (members_in e.bytes) ≡ None

-- The leader of term r created the members entry at place x: an entry of its own term was chosen before, under a configuration that is
-- one apart, and no members entry lies between.
pub record Prepared (first : List ℕ) (w : Cluster) (g : Ghost) (r x : ℕ) (after : List ℕ) : Type 0 where
  pub place : ℕ
  pub chosen : Chosen first w g r place
  pub before : length chosen.till ≤ x
  pub quiet : QuietBetween (g.made r) (suc place) x
  pub one_apart : AreOneApart (configuration_after first chosen.till) after

-- What each state of an execution meets.
pub record Invariant (first : List ℕ) (w : Cluster) (g : Ghost) : Type 0 where
  -- votes
  pub vote : (m : ℕ) → g.vote_of m (w.member m).term ≡ (w.member m).vote
  pub unvoted : (m t : ℕ) → (w.member m).term < t → g.vote_of m t ≡ 0
  pub voted : (v c t : ℕ) → Contains w.sent (Voted v c t) → (c ≢ 0) × (g.vote_of v t ≡ c)
  pub asked : (c t lt li : ℕ) → Contains w.sent (Vote c t lt li) → (c ≢ 0) × (t ≤ (w.member c).term)
  -- leaders
  pub leading : (m : ℕ) → (w.member m).is_leader ≡ true → (m ≢ 0) × (g.leader (w.member m).term ≡ m)
  pub own : (m : ℕ) → m ≢ 0 → g.leader (w.member m).term ≡ m → (w.member m).log ≡ g.made (w.member m).term
  pub held : (t k : ℕ) (e : LogEntry) → slice_get (g.made t) k ≡ Some e → g.leader t ≢ 0
  pub reached : (t : ℕ) → g.leader t ≢ 0 → t ≤ (w.member (g.leader t)).term
  pub won : (t : ℕ) → Share (length (g.won t)) (g.won t) (g.made t)
  pub won_below : (t k : ℕ) (e : LogEntry) → slice_get (g.won t) k ≡ Some e → e.term < t
  -- logs
  pub made : (t : ℕ) → Sound g (g.made t) t
  pub log : (m : ℕ) → Sound g (w.member m).log (w.member m).term
  pub append : (f t p pt : ℕ) (es : List LogEntry) (c : ℕ) → Contains w.sent (Append f t p pt es c) → (g.leader t ≢ 0) × HasTerm (g.made t) p pt × ((k : ℕ) (e : LogEntry) → slice_get es k ≡ Some e → slice_get (g.made t) (p + k) ≡ Some e)
  -- changes of the members
  pub prepared : (r x : ℕ) (e : LogEntry) (after : List ℕ) → slice_get (g.made r) x ≡ Some e → e.term ≡ r → (members_in e.bytes) ≡ Some after → Prepared first w g r x after
  -- acknowledgements
  pub acknowledged : (v to t j : ℕ) → Contains w.sent (Appended v to t j) → (j ≤ length (g.made t)) × (t ≤ (w.member v).term)
  pub kept : (v t k : ℕ) → Backs w g v t k → Share (suc k) (w.member v).log (g.made t) ⊎ Clash g t k (suc (w.member v).term)
  -- elections
  pub given : (v c t t' k : ℕ) → Contains w.sent (Voted v c t') → Backs w g v t k → t < t' → Clash g t k (suc t') ⊎ ((lt : ℕ) × (li : ℕ) × Contains w.sent (Vote c t' lt li) × IsUpToDate lt li t (suc k))
  pub elected : (t' : ℕ) → g.leader t' ≢ 0 → HasQuorum (configuration_after first (g.won t')) (λ v. (g.vote_of v t' ≡ g.leader t') × ((t k : ℕ) → Backs w g v t k → t < t' → Clash g t k t' ⊎ EndsPast (g.won t') t k))
  -- commits
  pub commit : (m : ℕ) → ((w.member m).commit ≡ 0) ⊎ Committed first w g (w.member m).log (w.member m).commit (w.member m).term
  pub told : (f t p pt : ℕ) (es : List LogEntry) (c : ℕ) → Contains w.sent (Append f t p pt es c) → (c ≡ 0) ⊎ Committed first w g (g.made t) c t
