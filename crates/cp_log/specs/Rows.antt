-- What a row of the store stands for.
use Rattle.std.specs.Prelude.{◌≡◌, ◌≤◌, ◌+◌, ◌^◌, ℕ, List, length, map}
use Rattle.std.specs.declared.alloc.Global.{Global}
use Rattle.std.specs.declared.collections.VecDeque.{VecDeque}
use Rattle.cp_base.specs.declared.limits.TheConstants.{LAST_NUMBER}
use Rattle.cp_parts.specs.declared.config.Config.{Config}
use Rattle.cp_parts.specs.declared.log_entry.LogEntry.{LogEntry}
use Rattle.cp_log_rules.specs.Configurations.{configs_in}
use Rattle.cp_log.specs.Room.{HasRoom}
use Rattle.cp_log_rules.specs.Persistent.{PersistentState}
use Rattle.cp_log.specs.declared.row.Row.{Row}

-- the state of the row's group
abbrev pub state_of : Row → PersistentState
state_of row = record {
  term = row.term;
  vote = row.vote;
  base = row.base;
  base_term = row.base_term;
  base_config = row.base_config;
  snapshot = row.snapshot;
  log = row.log.items;
}

abbrev pub rows_of : List (ℕ × Row) → List (ℕ × PersistentState)
rows_of rows = map (λ row. (row.0, state_of row.1)) rows

-- entries that may stand behind an index of the row, with the configurations that they bring, and room for them
pub record FitsBehind (after : ℕ) (entries : VecDeque LogEntry Global) (configs : VecDeque Config Global) (row : Row) : Type 0 where
  pub from : row.base ≤ after
  pub to : after ≤ row.base + length row.log.items
  pub most : after + length entries.items ≤ LAST_NUMBER
  pub brought : configs.items ≡ configs_in after entries.items
  pub room : HasRoom (length entries.items) row.log
  pub config_room : HasRoom (length configs.items) row.configs
