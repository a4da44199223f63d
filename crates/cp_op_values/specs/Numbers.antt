-- Numbers with a bound.
use Rattle.std.specs.Prelude.{ℕ, ◌-◌, ◌^◌}
use Rattle.std.specs.Int.{w32, w64}
use Rattle.cp_base.specs.declared.limits.TheConstants.{MOST_COUNT, MOST_MEMBER, MOST_PERMITS}
use Rattle.cp_grammar.specs.Grammar.{Grammar}
use Rattle.cp_grammar.specs.Fields.{byte, number, at_least}

abbrev pub any_u32 : Grammar ℕ ℕ
any_u32 = number w32 (2 ^ 32 - 1)

abbrev pub any_u64 : Grammar ℕ ℕ
any_u64 = number w64 (2 ^ 64 - 1)

-- permits of a semaphore
abbrev pub permits : Grammar ℕ ℕ
permits = number w32 MOST_PERMITS

-- what a latch counts from
abbrev pub latch_count : Grammar ℕ ℕ
latch_count = at_least 1 (number w32 MOST_COUNT)

-- how many members a new group has
unfoldable pub group_size : Grammar ℕ ℕ
group_size = at_least 1 (byte MOST_MEMBER)
