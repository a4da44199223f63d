-- The rows of METADATA's lists as bytes. Each key is above that of the row before it, and fails at its first byte where it isn't.
use Rattle.std.specs.Prelude.{ℕ, ◌-◌, Bool, true, List, length, Option, Some, None, nat_lt, slice_get}
use Rattle.std.specs.Map.{keys_of}
use Rattle.cp_base.specs.declared.limits.TheConstants.{MOST_MEMBER}
use Rattle.cp_grammar.specs.Grammar.{Grammar, always, checked, keyed, case, no_case, mapped, ◌then◌}
use Rattle.cp_grammar.specs.Fields.{byte, at_least, flag}
use Rattle.cp_grammar.specs.Common.{index, name, member_after, members}
use Rattle.cp_op_values.specs.Numbers.{any_u64}
use Rattle.cp_meta_state.specs.declared.rows.Standing.TheVariants as standing
use Rattle.cp_meta_state.specs.declared.rows.Standing.{Standing}
use Rattle.cp_meta_state.specs.declared.rows.GroupRow.{GroupRow}
use Rattle.cp_meta_state.specs.declared.rows.MoveRow.{MoveRow}
use Rattle.cp_meta_state.specs.MetaState.{Standings, Groups, Moves}

abbrev pub standing_tag : Standing → ℕ
standing_tag standing.Active = 0
standing_tag standing.Leaving = 1
standing_tag standing.Out = 2

unfoldable pub standing_grammar : Grammar ℕ Standing
standing_grammar = keyed standing_tag (byte 2)
    (case 0 (always standing.Active)
    (case 1 (always standing.Leaving)
    (case 2 (always standing.Out)
    no_case)))

-- ---- keys

abbrev pub last_of : {A : Type 0} → List A → Option A
last_of xs = slice_get xs (length xs - 1)

abbrev pub follows : {X : Type 0} → Option (ℕ × X) → ℕ → Bool
follows None n = true
follows (Some e) n = nat_lt e.0 n

-- the number is above that of the last row
abbrev pub is_behind : {X : Type 0} → List (ℕ × X) → ℕ → Bool
is_behind before n = follows (last_of before) n

unfoldable pub number_behind : {X : Type 0} → List (ℕ × X) → Grammar ℕ ℕ
number_behind before = checked index (is_behind before)

-- ---- rows

unfoldable pub member_row : Standings → Grammar ℕ (ℕ × Standing)
member_row before = member_after (keys_of before) then standing_grammar

unfoldable pub group_row : Groups → Grammar ℕ (ℕ × GroupRow)
group_row before = mapped (λ p. (p.0, record { name = p.1.0; destroying = p.1.1.0; first = p.1.1.1.0; index = p.1.1.1.1.0; members = p.1.1.1.1.1 }))
    (λ e. (e.0, (e.1.name, (e.1.destroying, (e.1.first, (e.1.index, e.1.members))))))
    (number_behind before then name then flag then members then index then members)

unfoldable pub destroyed_row : List (ℕ × Unit {0}) → Grammar ℕ (ℕ × Unit {0})
destroyed_row before = number_behind before then always tt

-- who is added may be 0, for nobody
unfoldable pub move_row : Moves → Grammar ℕ (ℕ × MoveRow)
move_row before = mapped (λ p. (p.0, record { plan = p.1.0; add = p.1.1.0; remove = p.1.1.1 })) (λ e. (e.0, (e.1.plan, (e.1.add, e.1.remove))))
    (number_behind before then any_u64 then byte MOST_MEMBER then at_least 1 (byte MOST_MEMBER))
