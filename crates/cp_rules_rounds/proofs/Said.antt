-- What is known at each moment of what was ever said of rounds, of what is counted, and of where looks were taken.
use Rattle.std.proofs.Common.{◌≡◌, ◌≢◌, ℕ, suc, ◌≤◌, ◌⊎◌, true, List, [], ◌∷◌, Some, Contains}
use Rattle.cp_parts.specs.declared.config.Config.{Config}
use Rattle.cp_log_rules.specs.Persistent.{last}
use Rattle.cp_rules.specs.declared.role.Role.{Role}
use Rattle.cp_rules.specs.declared.role.Role.TheVariants.{Candidate, Leader}
use Rattle.cp_rules.specs.Volatile.{Look}
use Rattle.cp_rules.specs.Local.{Confirm, Confirmed, Read}
use Rattle.cp_rules.specs.Confirming.{round_of}
use Rattle.cp_rules_facts.specs.Executions.{Local, Mail, LocalCluster, Act, local_after}
use Rattle.cp_rules_rounds.specs.Moments.{IsLocalMoment, Leads}

-- ---- what is known

abbrev pub confirm : ℕ → ℕ → ℕ → ℕ → Mail
confirm from to term round = record { from = from; to = to; body = Confirm term round }

abbrev pub confirmed : ℕ → ℕ → ℕ → ℕ → Mail
confirmed from to term round = record { from = from; to = to; body = Confirmed term true round }

-- neither leads nor stands
abbrev pub Rests : Role → Type 0
Rests r = (r ≢ Leader) × (r ≢ Candidate)

-- This member sent a Confirm: it led the term then; in that term it still leads, with no lower round, or will never lead again.
pub record Said (first : Config) (acts : List Act) (from term round : ℕ) (x : Local) : Type 0 where
  pub reached : term ≤ x.stored.term
  pub led : (w : LocalCluster) × IsLocalMoment first acts w × Leads w from term
  pub stands : term ≡ x.stored.term → ((x.state.role ≡ Leader) × (round ≤ x.state.reads.round)) ⊎ Rests x.state.role

-- the act took the look, at this leader of this term
pub record TakenIn (w : LocalCluster) (a : Act) (l term : ℕ) (look : Look) : Type 0 where
  pub actor : a.actor ≡ l
  pub event_is : a.event ≡ Some (Read look.call look.attempt look.op)
  pub leads : Leads w l term
  pub index : look.index ≡ last (w.member l).stored
  pub round : look.round ≡ suc (w.member l).state.reads.round

abbrev pub WasTaken : Config → List Act → ℕ → ℕ → Look → Type 0
WasTaken first [] l term look = ⊥
WasTaken first (a ∷ before) l term look = TakenIn (local_after first before) a l term look ⊎ WasTaken first before l term look

abbrev pub Counted : LocalCluster → ℕ → ℕ → Local → Type 0
Counted w l f x = x.state.role ≡ Leader → (round_of x.state.reads f ≡ 0) ⊎ ((r : ℕ) × (round_of x.state.reads f ≤ r) × Contains w.sent (confirmed f l x.stored.term r))

abbrev pub Looking : Config → List Act → ℕ → Look → Local → Type 0
Looking first acts l look x = x.state.role ≡ Leader → Contains x.state.reads.looks look → WasTaken first acts l x.stored.term look

pub record Known (first : Config) (acts : List Act) : Type 0 where
  pub asked : (from to term round : ℕ) → Contains (local_after first acts).sent (confirm from to term round) → Said first acts from term round ((local_after first acts).member from)
  pub said : (from to term round : ℕ) → Contains (local_after first acts).sent (confirmed from to term round) → (l : ℕ) × Contains (local_after first acts).sent (confirm l from term round)
  pub counted : (l f : ℕ) → Counted (local_after first acts) l f ((local_after first acts).member l)
  pub looks : (l : ℕ) (look : Look) → Looking first acts l look ((local_after first acts).member l)
