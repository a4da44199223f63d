-- Reads without entries: a read that a quorum confirmed sees everything that was committed before it began.
use Rattle.std.specs.Prelude.{◌≡◌, ◌≢◌, ℕ, ◌<◌, ◌≤◌, ◌⊎◌, true, false, List, ◌∷◌, ◌++◌, Some, Contains}
use Rattle.cp_agreement_facts.specs.Configurations.{HasQuorum}
use Rattle.cp_parts.specs.declared.config.Config.{Config}
use Rattle.cp_log_rules.specs.Persistent.{last}
use Rattle.cp_rules.specs.Persistent.{members}
use Rattle.cp_rules.specs.Volatile.{Look}
use Rattle.cp_rules.specs.Local.{Confirmed, Read}
use Rattle.cp_rules_facts.specs.Executions.{LocalCluster, Act, did, stored_after, local_after, IsExecution}
use Rattle.cp_rules_rounds.specs.Moments.{IsLocalMoment, Leads}
use Rattle.cp_rules_rounds.specs.Leading.{IsLastLeader}

-- The member is the leader itself, or has sent it a yes to this round or a later one of the term.
abbrev pub HasConfirmed : LocalCluster → ℕ → ℕ → ℕ → ℕ → Type 0
HasConfirmed w leader term round f = (f ≡ leader) ⊎ ((r : ℕ) × (round ≤ r) × Contains w.sent (record { from = f; to = leader; body = Confirmed term true r }))

-- A leader whose round was lower at an earlier moment, and whose round a quorum has confirmed at a later one, was the last leader at the earlier
-- moment, and its log had all that was committed.
abbrev pub RoundReads : Type 0
RoundReads = (first : Config) (later early : List Act) → IsExecution first (later ++ early) → (me term round : ℕ) → me ≢ 0
    → Leads (local_after first early) me term → ((local_after first early).member me).state.reads.round < round
    → Leads (local_after first (later ++ early)) me term
    → HasQuorum (members ((local_after first (later ++ early)).member me).stored) (HasConfirmed (local_after first (later ++ early)) me term round)
    → IsLastLeader first early me term

-- A look that an act answers was taken by an earlier one, or by the same: `early` are the acts before the read came.
pub record IsFresh (first : Config) (a : Act) (before : List Act) (look : Look) : Type 0 where
  pub later : List Act
  pub read : Act
  pub early : List Act
  pub acts_are : a ∷ before ≡ later ++ (read ∷ early)
  pub actor : read.actor ≡ a.actor
  pub event_is : read.event ≡ Some (Read look.call look.attempt look.op)
  -- the member led then, in the term in which it answers, and was the last leader; the look's index was where its log ended
  pub led : Leads (local_after first early) a.actor (stored_after (local_after first before) a).term
  pub last_leader : IsLastLeader first early a.actor (stored_after (local_after first before) a).term
  pub index : look.index ≡ last ((local_after first early).member a.actor).stored
  -- what any member had committed by then lies within the look's index, and the answering member has committed that
  pub covers : (w : LocalCluster) → IsLocalMoment first early w → (m : ℕ) → (w.member m).state.commit ≤ look.index
  pub reached : look.index ≤ (did (local_after first before) a).state.commit

abbrev pub AnswersAreFresh : Type 0
AnswersAreFresh = (first : Config) (a : Act) (before : List Act) → IsExecution first (a ∷ before) → a.cut ≡ false
    → (look : Look) → Contains (did (local_after first before) a).answered look → IsFresh first a before look
