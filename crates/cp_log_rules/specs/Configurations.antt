-- The configuration in force at an index.
use Rattle.std.specs.Prelude.{ℕ, ◌+◌, ◌-◌, List, [], ◌∷◌, take, Option, Some, None, nat_le, if◌then◌else◌}
use Rattle.cp_parts.specs.declared.config.Config.{Config}
use Rattle.cp_parts.specs.declared.log_entry.LogEntry.{LogEntry}
use Rattle.cp_parts.specs.Configs.{config_in}
use Rattle.cp_log_rules.specs.Persistent.{PersistentState}

abbrev pub config_or : Option Config → Config → Config
config_or None before = before
config_or (Some config) before = config

-- The configuration after some entries: that of their last members entry, else the one before them. They stand behind an index.
unfoldable pub config_after : Config → ℕ → List LogEntry → Config
config_after before at [] = before
config_after before at (e ∷ log) = config_after (config_or (config_in (at + 1) e.bytes) before) (at + 1) log

-- The configuration in force at an index from the base to the last: that of the last members entry at or before it, else that of
-- the base.
abbrev pub config_at : PersistentState → ℕ → Config
config_at s index = config_after s.base_config s.base (take (index - s.base) s.log)

-- ---- the same by a list of the configurations that entries bring

abbrev pub with_config : Option Config → List Config → List Config
with_config None configs = configs
with_config (Some config) configs = config ∷ configs

-- the configurations that the entries behind an index bring, in their order
unfoldable pub configs_in : ℕ → List LogEntry → List Config
configs_in at [] = []
configs_in at (e ∷ log) = with_config (config_in (at + 1) e.bytes) (configs_in (at + 1) log)

-- the last of rising configurations whose index is at most this, else the one before them
abbrev pub last_within : ℕ → Config → List Config → Config
last_within index before [] = before
last_within index before (c ∷ configs) = if nat_le c.index index then last_within index c configs else before
