-- The configuration that an entry's bytes spell where it is a members entry.
use Rattle.std.specs.Prelude.{ℕ, List, Option}
use Rattle.std.specs.Option.{option_map}
use Rattle.cp_parts.specs.Configs.{config_in}

-- the members that an entry's bytes set, wherever it stands: those of a members entry, and none of other bytes
unfoldable pub members_in : List ℕ → Option (List ℕ)
members_in bytes = option_map (λ c. c.members) (config_in 0 bytes)
