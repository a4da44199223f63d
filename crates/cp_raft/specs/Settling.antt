-- How reads are settled after a rule.
use Rattle.std.specs.Prelude.{◌≡◌, ℕ, ◌+◌, List, [], ◌∷◌, Option, Some, None, filter, if◌then◌else◌}
use Rattle.cp_parts.specs.declared.config.Config.{Config}
use Rattle.cp_parts.specs.declared.log_entry.LogEntry.{LogEntry}
use Rattle.cp_parts.specs.declared.part.Part as journal
use Rattle.cp_parts.specs.declared.part.Part.TheVariants as part
use Rattle.cp_parts.specs.Configs.{config_in}
use Rattle.cp_log_rules.specs.Persistent.{PersistentState, last}
use Rattle.cp_log_rules.specs.Configurations.{config_or}
use Rattle.cp_rules.specs.Confirming.{is_ready}
use Rattle.cp_rules.specs.Local.{is_leader}
use Rattle.cp_rules.specs.Persistent.{configuration}
use Rattle.cp_rules.specs.Volatile.{VolatileState, no_reads}
use Rattle.cp_raft_state.specs.Looking.{without_ready}
use Rattle.cp_raft.specs.declared.out.RaftOut.{RaftOut}

-- ---- the configuration after the part of a leader's step

abbrev pub brought_with : ℕ → List LogEntry → Option Config
brought_with index [] = None
brought_with index (e ∷ []) = config_in index e.bytes
brought_with index (e ∷ d ∷ entries) = None

-- an entry of its own, at this index, may bring a configuration
abbrev pub brought_by : ℕ → Option journal.Part → Option Config
brought_by index None = None
brought_by index (Some (part.Start restart)) = None
brought_by index (Some (part.State group term vote)) = None
brought_by index (Some (part.Append group term vote after entries)) = brought_with index entries
brought_by index (Some (part.Begin group first)) = None
brought_by index (Some (part.End group)) = None
brought_by index (Some (part.Snapshot group term vote base bytes)) = None
brought_by index (Some (part.Start2 restart)) = None

abbrev pub members_after : PersistentState → Option journal.Part → List ℕ
members_after p part = (config_or (brought_by (last p + 1) part) (configuration p)).members

-- ---- after a rule that left this state

-- One that leads, with these members, answers the reads that are ready; who does not lead keeps none.
pub record Settles (me : ℕ) (members : List ℕ) (before after : VolatileState) (out : RaftOut) : Type 0 where
  pub answered : out.looks.items ≡ (if is_leader before.role then filter (is_ready me members before.reads before.commit) before.reads.looks else [])
  pub lost : out.lost.items ≡ (if is_leader before.role then [] else before.reads.looks)
  pub state : after ≡ (if is_leader before.role then without_ready me members before else record before { reads = no_reads })
