-- What agreement sees of a group's entries.
use Rattle.std.specs.Prelude.{◌≡◌, ◌≤◌, ℕ, Bool, true, false, List, Option, Some, None, length, Ok}
use Rattle.std.specs.Option.{option_map}
use Rattle.cp_base.specs.declared.identifier.Invocation.{Invocation}
use Rattle.cp_base.specs.declared.limits.TheConstants.{MOST_ENTRY}
use Rattle.cp_grammar.specs.Grammar.{whole}
use Rattle.cp_parts.specs.declared.config.Config.{Config}
use Rattle.cp_parts.specs.Configs.{config_in}
use Rattle.cp_ops.specs.declared.entry.Entry.{Entry}
use Rattle.cp_ops.specs.declared.entry.Entry.TheVariants as entry
use Rattle.cp_ops.specs.Entries.{entry_grammar}
use Rattle.cp_agreement_facts.specs.Entries.{members_in}

-- the configuration of a members entry at an index
abbrev pub config_of : ℕ → Entry → Option Config
config_of at (entry.Members call plan members) = Some (record { index = at; plan = plan; members = members })
config_of at entry.Empty = None
config_of at (entry.Call call op) = None
config_of at (entry.SessionsExpired pairs) = None
config_of at (entry.WaitsExpired calls) = None
config_of at (entry.Destroy group) = None
config_of at (entry.Destroyed group) = None
config_of at (entry.Moved group index members) = None
config_of at (entry.Left member) = None

-- Each entry that has a spelling brings this configuration, and sets its members.
pub record EntriesBringConfigs : Type 0 where
  pub config : (at : ℕ) (e : Entry) → entry_grammar.Fits e → config_in at (entry_grammar.spelling e) ≡ config_of at e
  pub members : (e : Entry) → entry_grammar.Fits e → members_in (entry_grammar.spelling e) ≡ option_map (λ c. c.members) (config_of 0 e)

-- Any bytes that bring a configuration spell a members entry that names it.
abbrev pub ConfigsAreMembersEntries : Type 0
ConfigsAreMembersEntries = (at : ℕ) (bytes : List ℕ) (c : Config) → config_in at bytes ≡ Some c
    → (c.index ≡ at) × ((call : Option Invocation) × (whole entry_grammar bytes ≡ Ok (entry.Members call c.plan c.members)))

-- what says that sessions or calls have expired
abbrev pub is_expiry : Entry → Bool
is_expiry (entry.SessionsExpired pairs) = true
is_expiry (entry.WaitsExpired calls) = true
is_expiry entry.Empty = false
is_expiry (entry.Call call op) = false
is_expiry (entry.Members call plan members) = false
is_expiry (entry.Destroy group) = false
is_expiry (entry.Destroyed group) = false
is_expiry (entry.Moved group index members) = false
is_expiry (entry.Left member) = false

abbrev pub ExpiriesAreShort : Type 0
ExpiriesAreShort = (e : Entry) → is_expiry e ≡ true → entry_grammar.Fits e → length (entry_grammar.spelling e) ≤ MOST_ENTRY
