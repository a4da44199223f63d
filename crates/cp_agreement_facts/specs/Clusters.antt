-- The members of one group, what they send each other, and executions as lists of steps.
use Rattle.std.specs.Prelude.{◌≡◌, ℕ, ◌⊎◌, Bool, false, List, [], ◌∷◌, ◌++◌, Option, if◌then◌else◌, ◌==◌}
use Rattle.cp_parts.specs.declared.log_entry.LogEntry.{LogEntry}

-- What agreement reads of a member. A crash leaves all but the last two. The base is the index of the member's snapshot, 0 where it
-- has none; with it stand the term of that index and the configuration in force there. The log is what follows the base.
pub record Member : Type 0 where
  -- persistent
  pub term : ℕ
  -- whom the member voted for in its term, 0 for nobody
  pub vote : ℕ
  pub base : ℕ
  pub base_term : ℕ
  pub base_members : List ℕ
  pub log : List LogEntry
  -- volatile
  pub commit : ℕ
  pub is_leader : Bool

-- Voted and Appended are replies that say yes, Done a reply to a snapshot. A Snapshot is sent whole: its index, the term of that
-- index and the configuration there. Of all other messages agreement reads nothing.
pub data Message : Type 0 where
  Vote : (candidate term last_term last_index : ℕ) → Message
  Voted : (voter candidate term : ℕ) → Message
  Append : (sender term previous previous_term : ℕ) (entries : List LogEntry) (commit : ℕ) → Message
  Appended : (member to term index : ℕ) → Message
  Snapshot : (sender term index index_term : ℕ) (members : List ℕ) → Message
  Done : (member to term index : ℕ) → Message
  Other : Message

-- The members by their number, and each message that was ever sent.
pub record Cluster : Type 0 where
  pub member : ℕ → Member
  pub sent : List Message

-- A step of one member: what came (nothing at a tick, a request, a start and a crash), whether the member led the term that it then
-- has (in the step, also where it steps down or a crash cuts the step off), what it left, what it sent.
pub record Step : Type 0 where
  pub actor : ℕ
  pub got : Option Message
  pub leads : Bool
  pub after : Member
  pub sends : List Message

-- An execution is a list of steps, the latest first.
abbrev pub Execution : Type 0
Execution = List Step

-- f, but x at k
abbrev pub put : {A : Type 0} → (ℕ → A) → ℕ → A → ℕ → A
put f k x j = if j == k then x else f j

abbrev pub after_step : Cluster → Step → Cluster
after_step w s = record { member = put w.member s.actor s.after; sent = w.sent ++ s.sends }

-- At first each member has term 0, no vote, no entry and the first members.
abbrev pub opening : List ℕ → Cluster
opening first = record { member = λ m. record { term = 0; vote = 0; base = 0; base_term = 0; base_members = first; log = []; commit = 0; is_leader = false }; sent = [] }

abbrev pub cluster_after : List ℕ → List Step → Cluster
cluster_after first [] = opening first
cluster_after first (s ∷ before) = after_step (cluster_after first before) s

-- a state that the execution had, after some step or before the first
abbrev pub IsMoment : List ℕ → List Step → Cluster → Type 0
IsMoment first [] w = w ≡ opening first
IsMoment first (s ∷ before) w = (w ≡ cluster_after first (s ∷ before)) ⊎ IsMoment first before w
