-- The history of an execution of local steps: all that was committed in it, and no more.
use Rattle.std.specs.Prelude.{◌≡◌, ℕ, suc, ◌-◌, ◌<◌, ◌≤◌, ◌⊎◌, List, length, slice_get}
use Rattle.cp_parts.specs.declared.config.Config.{Config}
use Rattle.cp_parts.specs.declared.log_entry.LogEntry.{LogEntry}
use Rattle.cp_agreement_facts.specs.Configurations.{configuration_at, HasQuorum, AreAdjacent}
use Rattle.cp_safety.specs.Laws.{CommitsFrontOf, IsHeldBy}
use Rattle.cp_log_rules.specs.Persistent.{entry_at}
use Rattle.cp_rules_facts.specs.Executions.{LocalCluster, Act, local_after, IsExecution}
use Rattle.cp_rules_laws.specs.Moments.{IsLocalMoment, agreed}

pub record HasHistory (first : Config) (acts : List Act) : Type 0 where
  pub history : List LogEntry
  -- what a member has committed is a front of the history
  pub committed : (v : LocalCluster) → IsLocalMoment first acts v → (m : ℕ) → CommitsFrontOf first.members history (agreed (v.member m))
  -- so each committed entry that it has is the one of the history
  pub entries : (v : LocalCluster) → IsLocalMoment first acts v → (m i : ℕ) → (v.member m).stored.base < i → i ≤ (v.member m).state.commit
      → entry_at (v.member m).stored i ≡ slice_get history (i - 1)
  -- and all of the history was committed by one member at one moment
  pub reached : (length history ≡ 0) ⊎ ((v : LocalCluster) × IsLocalMoment first acts v × ((m : ℕ) × ((v.member m).state.commit ≡ length history)))
  -- each entry of it is held at the end by a quorum of the configuration in force for it, or of an adjacent one
  pub held : (place : ℕ) → place < length history
      → (members : List ℕ) × AreAdjacent (configuration_at first.members history (suc place)) members
      × HasQuorum members (λ n. IsHeldBy history place (agreed ((local_after first acts).member n)))

abbrev pub ThereIsOneHistory : Type 0
ThereIsOneHistory = (first : Config) (acts : List Act) → IsExecution first acts → HasHistory first acts
