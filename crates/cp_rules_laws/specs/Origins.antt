-- Where entries come from: each was made by one that led, at its index and with its term.
use Rattle.std.specs.Prelude.{◌≡◌, ℕ, suc, ◌+◌, ◌⊎◌, true, List, [], ◌∷◌, Some, slice_get, Contains}
use Rattle.cp_parts.specs.declared.config.Config.{Config}
use Rattle.cp_parts.specs.declared.log_entry.LogEntry.{LogEntry}
use Rattle.cp_log_rules.specs.Persistent.{PersistentState, last, entry_at}
use Rattle.cp_rules.specs.Persistent.{after_part}
use Rattle.cp_rules.specs.Volatile.{VolatileState}
use Rattle.cp_rules.specs.Local.{Append, send, Event, LocalStep}
use Rattle.cp_rules.specs.Steps.{step}
use Rattle.cp_rules_facts.specs.Soundness.{IsSound, IsFair}
use Rattle.cp_rules_facts.specs.Executions.{Mail, LocalCluster, Act, did, local_after, IsExecution}
use Rattle.cp_rules_laws.specs.Writes.{IsMade, HasAt, CameAt}

-- ---- in one step

-- the step makes this entry at this index
pub record MakesAt (p : PersistentState) (event : Event) (s : LocalStep) (i : ℕ) (e : LogEntry) : Type 0 where
  pub index_is : i ≡ suc (last p)
  pub term_is : e.term ≡ (after_part s.part p).term
  pub leads : s.leads ≡ true
  pub made : IsMade p event s.outcome e.bytes

-- Each entry of the log stood there before, at its index, or came there in an Append, or is made. Each that an Append brings to another
-- stands in the log.
pub record ComesFrom (p : PersistentState) (event : Event) (s : LocalStep) : Type 0 where
  pub log : (i : ℕ) (e : LogEntry) → entry_at (after_part s.part p) i ≡ Some e → (entry_at p i ≡ Some e) ⊎ (CameAt event i e ⊎ MakesAt p event s i e)
  pub sends : (to term previous previous_term commit : ℕ) (entries : List LogEntry) → Contains s.sends (send to (Append term previous previous_term commit entries))
      → (k : ℕ) (e : LogEntry) → slice_get entries k ≡ Some e → entry_at (after_part s.part p) (suc (previous + k)) ≡ Some e

abbrev pub EntriesComeFrom : Type 0
EntriesComeFrom = (me : ℕ) (p : PersistentState) (v : VolatileState) (event : Event) → IsSound me p v → IsFair p v event → ComesFrom p event (step me p v event)

-- ---- in an execution

-- the actor makes this entry in this act
pub record Makes (w : LocalCluster) (a : Act) (i : ℕ) (e : LogEntry) : Type 0 where
  pub event : Event
  pub event_is : a.event ≡ Some event
  pub makes : MakesAt (w.member a.actor).stored event (did w a) i e

abbrev pub WasMade : Config → List Act → ℕ → LogEntry → Type 0
WasMade first [] i e = ⊥
WasMade first (a ∷ before) i e = Makes (local_after first before) a i e ⊎ WasMade first before i e

-- Each entry of each log, and each of every Append that was ever sent, was made in one of the acts.
pub record HasOrigins (first : Config) (acts : List Act) : Type 0 where
  pub log : (m i : ℕ) (e : LogEntry) → entry_at ((local_after first acts).member m).stored i ≡ Some e → WasMade first acts i e
  pub sent : (x : Mail) → Contains (local_after first acts).sent x → (i : ℕ) (e : LogEntry) → HasAt x.body i e → WasMade first acts i e

abbrev pub EntriesWereMade : Type 0
EntriesWereMade = (first : Config) (acts : List Act) → IsExecution first acts → HasOrigins first acts
