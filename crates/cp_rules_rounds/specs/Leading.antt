-- A leader that a quorum had not left at an earlier moment was the last leader then, and its log had all that was committed.
use Rattle.std.specs.Prelude.{◌≢◌, ◌≡◌, ℕ, ◌≤◌, List, ◌++◌}
use Rattle.cp_agreement_facts.specs.Configurations.{HasQuorum}
use Rattle.cp_parts.specs.declared.config.Config.{Config}
use Rattle.cp_log_rules.specs.Persistent.{last}
use Rattle.cp_rules.specs.declared.role.Role.TheVariants.{Leader}
use Rattle.cp_rules.specs.Persistent.{members}
use Rattle.cp_rules_facts.specs.Executions.{LocalCluster, Act, local_after, IsExecution}
use Rattle.cp_rules_rounds.specs.Moments.{IsLocalMoment, Leads}

-- By the end of these acts no member led a later term than this one, and what any member had committed, at any moment, lies within the log that
-- this member has.
pub record IsLastLeader (first : Config) (acts : List Act) (member term : ℕ) : Type 0 where
  pub leaders : (w : LocalCluster) → IsLocalMoment first acts w → (m : ℕ) → (w.member m).state.role ≡ Leader → (w.member m).stored.term ≤ term
  pub committed : (w : LocalCluster) → IsLocalMoment first acts w → (m : ℕ) → (w.member m).state.commit ≤ last ((local_after first acts).member member).stored

-- The member leads one term at an earlier moment and at a later one. The quorum is one of the configuration in force at the later moment, of
-- members that had no later term at the earlier one. Members may change between.
abbrev pub LeadersAreLast : Type 0
LeadersAreLast = (first : Config) (later early : List Act) → IsExecution first (later ++ early) → (me term : ℕ) → me ≢ 0
    → Leads (local_after first early) me term → Leads (local_after first (later ++ early)) me term
    → HasQuorum (members ((local_after first (later ++ early)).member me).stored) (λ f. ((local_after first early).member f).stored.term ≤ term)
    → IsLastLeader first early me term
