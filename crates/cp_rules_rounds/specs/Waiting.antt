-- Where a read goes in a step: none is forgotten, and none that is answered or lost waits on.
use Rattle.std.specs.Prelude.{◌≡◌, ◌≢◌, ℕ, suc, ◌⊎◌, List, [], Contains}
use Rattle.cp_base.specs.declared.identifier.Invocation.{Invocation}
use Rattle.cp_answers.specs.declared.refusal.Refusal.{Refusal}
use Rattle.cp_log_rules.specs.Persistent.{PersistentState, last}
use Rattle.cp_rules.specs.declared.outcome.Outcome.TheVariants.{Refused}
use Rattle.cp_rules.specs.declared.role.Role.TheVariants.{Leader}
use Rattle.cp_rules.specs.Volatile.{Look, VolatileState, no_reads}
use Rattle.cp_rules.specs.Local.{Event, Read, LocalStep}
use Rattle.cp_rules.specs.Steps.{step}

-- Who does not lead keeps no read.
abbrev pub KeepsNone : VolatileState → Type 0
KeepsNone v = v.role ≢ Leader → v.reads ≡ no_reads

-- it waits on, is answered or is lost
abbrev pub IsKept : LocalStep → Look → Type 0
IsKept s look = Contains s.state.reads.looks look ⊎ (Contains s.answered look ⊎ Contains s.lost look)

abbrev pub IsRefused : LocalStep → Type 0
IsRefused s = (refusal : Refusal) × (s.outcome ≡ Refused refusal)

-- the look of a read that comes
abbrev pub look_of : PersistentState → VolatileState → Invocation → ℕ → List ℕ → Look
look_of p v call attempt op = record { call = call; attempt = attempt; index = last p; round = suc v.reads.round; op = op }

pub record KeepsReads (p : PersistentState) (v : VolatileState) (event : Event) (s : LocalStep) : Type 0 where
  pub none : KeepsNone s.state
  pub old : (look : Look) → Contains v.reads.looks look → IsKept s look
  pub new : (call : Invocation) (attempt : ℕ) (op : List ℕ) → event ≡ Read call attempt op → IsRefused s ⊎ IsKept s (look_of p v call attempt op)
  -- what is answered does not wait on; where one is lost, none waits and none is answered
  pub answered : (look : Look) → Contains s.answered look → Contains s.state.reads.looks look → ⊥
  pub lost : (look : Look) → Contains s.lost look → (s.state.reads.looks ≡ []) × (s.answered ≡ [])

abbrev pub StepsKeepReads : Type 0
StepsKeepReads = (me : ℕ) (p : PersistentState) (v : VolatileState) (event : Event) → KeepsNone v → KeepsReads p v event (step me p v event)
