-- Local steps meet the facts of agreement.
use Rattle.std.specs.Prelude.{◌≡◌, ℕ, Bool, Option, Some, Contains}
use Rattle.cp_safety.specs.Chunks.{ChunkedCluster, ChunkedFacts, Wire}
use Rattle.cp_log_rules.specs.Persistent.{PersistentState}
use Rattle.cp_rules.specs.Persistent.{after_part}
use Rattle.cp_rules.specs.Volatile.{VolatileState, started}
use Rattle.cp_rules.specs.Local.{Event}
use Rattle.cp_rules.specs.Steps.{step}
use Rattle.cp_rules_facts.specs.Seen.{chunked_member, came_by, chunked_step, reader}
use Rattle.cp_rules_facts.specs.Soundness.{IsSound, IsFair}

-- Each local step of a sound member, cut off by a crash or not, meets the facts; so does a crash between two steps. Of the others nothing
-- is asked but that what comes was sent.
abbrev pub StepsMeetFacts : Type 0
StepsMeetFacts = (w : ChunkedCluster) (me : ℕ) (p : PersistentState) (v : VolatileState) (event : Option Event) (cut : Bool) → w.member me ≡ chunked_member p v → IsSound me p v
    → ((e : Event) → event ≡ Some e → IsFair p v e) → ((x : Wire) → came_by me event ≡ Some x → Contains w.sent x)
    → ChunkedFacts reader w (chunked_step me cut p v event)

-- A step leaves a sound member sound, and so does a crash.
pub record StaysSound : Type 0 where
  pub step : (me : ℕ) (p : PersistentState) (v : VolatileState) (event : Event) → IsSound me p v → IsFair p v event → IsSound me (after_part (step me p v event).part p) (step me p v event).state
  pub start : (me clock : ℕ) (p : PersistentState) (v : VolatileState) → IsSound me p v → IsSound me p (started p.base clock)
