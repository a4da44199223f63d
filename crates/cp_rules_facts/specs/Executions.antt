-- Executions of one group whose members take local steps, with each message that they send, and with crashes at any moment.
use Rattle.std.specs.Prelude.{◌≡◌, ◌≢◌, ℕ, Bool, List, [], ◌∷◌, ◌++◌, map, Option, Some, Contains, if◌then◌else◌}
use Rattle.cp_agreement_facts.specs.Clusters.{Step, put, cluster_after}
use Rattle.cp_agreement_facts.specs.Facts.{MeetsFacts}
use Rattle.cp_safety.specs.Tracking.{untracked}
use Rattle.cp_safety.specs.Chunks.{ChunkedStep, MeetsChunkedFacts, chunked_after}
use Rattle.cp_rules.specs.declared.role.Role.TheVariants.{Leader}
use Rattle.cp_parts.specs.declared.config.Config.{Config}
use Rattle.cp_log_rules.specs.Persistent.{PersistentState}
use Rattle.cp_rules.specs.Persistent.{after_part}
use Rattle.cp_rules.specs.Volatile.{VolatileState, started}
use Rattle.cp_rules.specs.Local.{Body, Sent, Event, Got, LocalStep}
use Rattle.cp_rules_facts.specs.Seen.{chunked_member, tracked_member, step_of, chunked_step, reader}
use Rattle.cp_rules_facts.specs.Soundness.{IsSound, IsFair}

pub record Local : Type 0 where
  pub stored : PersistentState
  pub state : VolatileState

pub record Mail : Type 0 where
  pub from : ℕ
  pub to : ℕ
  pub body : Body

-- the members by their number, and each message that was ever sent
pub record LocalCluster : Type 0 where
  pub member : ℕ → Local
  pub sent : List Mail

-- What happens to one member: an event, or none where a crash comes between two; and whether a crash cuts it off once its part is written.
-- After a crash the member starts with this clock. So does one at which the group begins later.
pub record Act : Type 0 where
  pub actor : ℕ
  pub event : Option Event
  pub cut : Bool
  pub clock : ℕ

abbrev pub mail : ℕ → Sent → Mail
mail me x = record { from = me; to = x.to; body = x.body }

abbrev pub did : LocalCluster → Act → LocalStep
did w a = step_of a.actor (w.member a.actor).stored (w.member a.actor).state a.event

abbrev pub stored_after : LocalCluster → Act → PersistentState
stored_after w a = after_part (did w a).part (w.member a.actor).stored

abbrev pub left_by : LocalCluster → Act → Local
left_by w a = record { stored = stored_after w a; state = if a.cut then started (stored_after w a).base a.clock else (did w a).state }

abbrev pub after_act : LocalCluster → Act → LocalCluster
after_act w a = record { member = put w.member a.actor (left_by w a); sent = w.sent ++ (if a.cut then [] else map (mail a.actor) (did w a).sends) }

abbrev pub opening : Config → LocalCluster
opening first = record {
  member = λ m. record { stored = record { term = 0; vote = 0; base = 0; base_term = 0; base_config = first; snapshot = []; log = [] }; state = started 0 0 };
  sent = [];
}

-- An execution is a list of what happened, the latest first.
abbrev pub local_after : Config → List Act → LocalCluster
local_after first [] = opening first
local_after first (a ∷ before) = after_act (local_after first before) a

-- Members have numbers from 1 on, what comes was sent to the member, and what the surroundings hand it is fair.
pub record IsAllowed (w : LocalCluster) (a : Act) : Type 0 where
  pub named : a.actor ≢ 0
  pub delivered : (from : ℕ) (body : Body) → a.event ≡ Some (Got from body) → Contains w.sent (record { from = from; to = a.actor; body = body })
  pub fair : (e : Event) → a.event ≡ Some e → IsFair (w.member a.actor).stored (w.member a.actor).state e

abbrev pub IsExecution : Config → List Act → Type 0
IsExecution first [] = Unit {0}
IsExecution first (a ∷ before) = IsAllowed (local_after first before) a × IsExecution first before

-- the execution as agreement sees it
abbrev pub seen_act : LocalCluster → Act → ChunkedStep
seen_act w a = chunked_step a.actor a.cut (w.member a.actor).stored (w.member a.actor).state a.event

abbrev pub seen_acts : Config → List Act → List ChunkedStep
seen_acts first [] = []
seen_acts first (a ∷ before) = seen_act (local_after first before) a ∷ seen_acts first before

-- Each execution of local steps meets the facts; its members are those that agreement sees, and they are sound.
pub record LocalExecution (first : Config) (acts : List Act) : Type 0 where
  pub meets : MeetsChunkedFacts reader first.members (seen_acts first acts)
  pub same : (m : ℕ) → (chunked_after first.members (seen_acts first acts)).member m ≡ chunked_member ((local_after first acts).member m).stored ((local_after first acts).member m).state
  pub sound : (m : ℕ) → m ≢ 0 → IsSound m ((local_after first acts).member m).stored ((local_after first acts).member m).state

abbrev pub LocalExecutions : Type 0
LocalExecutions = (first : Config) (acts : List Act) → IsExecution first acts → LocalExecution first acts

-- So there are steps that meet the facts without chunks, and leave the same members: each law of agreement holds of these.
abbrev pub Agrees : Type 0
Agrees = (first : Config) (acts : List Act) → IsExecution first acts → (steps : List Step) × MeetsFacts first.members steps
    × ((m : ℕ) → (cluster_after first.members steps).member m ≡ untracked (tracked_member ((local_after first acts).member m).stored ((local_after first acts).member m).state))

-- No two members lead in one term.
abbrev pub OneLeader : Type 0
OneLeader = (first : Config) (acts : List Act) → IsExecution first acts → (m n : ℕ) → ((local_after first acts).member m).state.role ≡ Leader → ((local_after first acts).member n).state.role ≡ Leader
    → ((local_after first acts).member m).stored.term ≡ ((local_after first acts).member n).stored.term → m ≡ n
