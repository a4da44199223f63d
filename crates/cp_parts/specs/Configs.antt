-- Configurations as bytes, and the configuration that an entry's bytes spell.
use Rattle.std.specs.Prelude.{ℕ, ◌-◌, ◌^◌, List, Option, Some, None, Result, Ok, Err}
use Rattle.std.specs.Int.{w64}
use Rattle.cp_base.specs.declared.identifier.Invocation.{Invocation}
use Rattle.cp_grammar.specs.Grammar.{Grammar, ◌then◌, mapped, whole}
use Rattle.cp_grammar.specs.Fields.{marked, number, optional}
use Rattle.cp_grammar.specs.Common.{index, invocation, members}
use Rattle.cp_parts.specs.declared.config.Config.{Config}

-- the number of a plan
abbrev pub plan_number : Grammar ℕ ℕ
plan_number = number w64 (2 ^ 64 - 1)

-- index, plan, members
unfoldable pub config_grammar : Grammar ℕ Config
config_grammar = mapped (λ p. record { index = p.0; plan = p.1.0; members = p.1.1 }) (λ c. (c.index, (c.plan, c.members))) (index then plan_number then members)

-- The entry that brings a configuration: the byte 4, the invocation that asked for it or none, the plan, the members.
unfoldable pub members_entry : Grammar ℕ (Option Invocation × (ℕ × List ℕ))
members_entry = marked 4 (optional invocation then plan_number then members)

abbrev pub brought : ℕ → Option Invocation × (ℕ × List ℕ) → Config
brought at entry = record { index = at; plan = entry.1.0; members = entry.1.1 }

abbrev pub brought_at : ℕ → Result (Option Invocation × (ℕ × List ℕ)) ℕ → Option Config
brought_at at (Ok entry) = Some (brought at entry)
brought_at at (Err place) = None

-- the configuration that an entry at this index brings: that of a members entry, and none of other bytes
unfoldable pub config_in : ℕ → List ℕ → Option Config
config_in at bytes = brought_at at (whole members_entry bytes)
