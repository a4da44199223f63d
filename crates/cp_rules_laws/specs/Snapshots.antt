-- What snapshots hold: each is one that a member took, whoever has it now. So what is true of each snapshot that a member takes is true of
-- each that a member has.
use Rattle.std.specs.Prelude.{◌≡◌, ℕ, ◌<◌, ◌⊎◌, Bool, List, [], ◌∷◌, Option, Some}
use Rattle.cp_parts.specs.declared.config.Config.{Config}
use Rattle.cp_rules.specs.Spelling.{snapshot_bytes}
use Rattle.cp_rules.specs.Local.{Event, Tick}
use Rattle.cp_rules.specs.Snapshots.{own_head}
use Rattle.cp_rules_facts.specs.Executions.{Local, LocalCluster, Act, local_after, IsExecution}
use Rattle.cp_rules_laws.specs.Moments.{IsLocalMoment}

-- ---- as a law

-- In this event the member may take this snapshot: the machine's bytes are handed to it, and so far it has committed.
pub record Takes (l : Local) (event : Option Event) (index : ℕ) (text : List ℕ) : Type 0 where
  pub clock : ℕ
  pub may_write : Bool
  pub expiry : Option (List ℕ)
  pub machine : List ℕ
  pub event_is : event ≡ Some (Tick clock may_write expiry (Some machine))
  pub index_is : index ≡ l.state.commit
  pub text_is : text ≡ snapshot_bytes (own_head l.stored l.state.commit) machine

-- some member took it in one of the acts
abbrev pub WasTaken : Config → List Act → ℕ → List ℕ → Type 0
WasTaken first [] index text = ⊥
WasTaken first (a ∷ before) index text = Takes ((local_after first before).member a.actor) a.event index text ⊎ WasTaken first before index text

abbrev pub SnapshotsWereTaken : Type 0
SnapshotsWereTaken = (first : Config) (acts : List Act) → IsExecution first acts → (m : ℕ) → 0 < ((local_after first acts).member m).stored.base
    → WasTaken first acts ((local_after first acts).member m).stored.base ((local_after first acts).member m).stored.snapshot

-- ---- as an induction for any property of a snapshot's index and its bytes, which no contract can speak of

abbrev pub Property : Type 1
Property = ℕ → List ℕ → Type 0

-- Where the member is handed the machine's bytes, they make a snapshot that has the property.
abbrev pub IsHanded : Property → Local → Option Event → Type 0
IsHanded P l event = (index : ℕ) (text : List ℕ) → Takes l event index text → P index text

-- so it is in each act
abbrev pub AreHanded : Property → Config → List Act → Type 0
AreHanded P first [] = Unit {0}
AreHanded P first (a ∷ before) = IsHanded P ((local_after first before).member a.actor) a.event × AreHanded P first before

-- Then each snapshot has it that any member has at any moment.
abbrev pub SnapshotsHave : Type 1
SnapshotsHave = (P : Property) (first : Config) (acts : List Act) → IsExecution first acts → AreHanded P first acts
    → (v : LocalCluster) → IsLocalMoment first acts v → (m : ℕ) → 0 < (v.member m).stored.base → P (v.member m).stored.base (v.member m).stored.snapshot

-- ---- so as a law again, for whatever snapshots are read as

-- Where each snapshot that is handed is read as the view at its index, so is each that a member has.
abbrev pub SnapshotsRead : {V : Type 0} → (List ℕ → V) → (ℕ → V) → Type 0
SnapshotsRead reads view = (first : Config) (acts : List Act) → IsExecution first acts → AreHanded (λ index text. reads text ≡ view index) first acts
    → (v : LocalCluster) → IsLocalMoment first acts v → (m : ℕ) → 0 < (v.member m).stored.base → reads (v.member m).stored.snapshot ≡ view (v.member m).stored.base
