-- How a step moves the commit and the base, and what it leaves below them.
use Rattle.std.specs.Prelude.{◌≡◌, ℕ, ◌<◌, ◌≤◌, ◌⊎◌, Some}
use Rattle.cp_parts.specs.declared.log_entry.LogEntry.{LogEntry}
use Rattle.cp_log_rules.specs.Persistent.{PersistentState, last, entry_at}
use Rattle.cp_rules.specs.Volatile.{VolatileState}
use Rattle.cp_rules.specs.Local.{Event}
use Rattle.cp_rules.specs.Steps.{step}
use Rattle.cp_rules_facts.specs.Soundness.{IsSound, IsFair}
use Rattle.cp_rules_laws.specs.Writes.{After, after, SameBase, TakesOwn, Installs}

pub record Moves (p : PersistentState) (v : VolatileState) (event : Event) (x : After) : Type 0 where
  -- commits rise
  pub rises : v.commit ≤ x.commit
  pub within : x.commit ≤ last x.stored
  -- and so do bases: to what was committed, by an own snapshot, or to the new commit, by one that is installed
  pub base : SameBase p x.stored ⊎ (((x.stored.base ≡ v.commit) × TakesOwn p v event x) ⊎ ((x.stored.base ≡ x.commit) × Installs p v event x))
  pub base_rises : p.base ≤ x.stored.base
  pub covers : x.stored.base ≤ x.commit
  -- what was committed stays, above the base
  pub keeps : (i : ℕ) → x.stored.base < i → i ≤ v.commit → entry_at x.stored i ≡ entry_at p i
  -- and what is committed is there
  pub there : (i : ℕ) → x.stored.base < i → i ≤ x.commit → (e : LogEntry) × (entry_at x.stored i ≡ Some e)

abbrev pub CommitsRise : Type 0
CommitsRise = (me : ℕ) (p : PersistentState) (v : VolatileState) (event : Event) → IsSound me p v → IsFair p v event → Moves p v event (after p (step me p v event))
