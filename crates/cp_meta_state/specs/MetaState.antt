-- METADATA's state. Each list is in rising order of its keys.
use Rattle.std.specs.Prelude.{ℕ, ◌+◌, zero, suc, Bool, true, false, ◌==◌, List, [], ◌∷◌, map, Option, codes}
use Rattle.std.specs.List.{filter, list_any}
use Rattle.std.specs.Map.{keys_of}
use Rattle.std.specs.Ordering.{nat_cmp}
use Rattle.cp_group_state.specs.Rows.{find, put}
pub use Rattle.cp_meta_state.specs.declared.rows.Standing.{Standing}
use Rattle.cp_meta_state.specs.declared.rows.Standing.TheVariants as standing
pub use Rattle.cp_meta_state.specs.declared.rows.GroupRow.{GroupRow}
pub use Rattle.cp_meta_state.specs.declared.rows.MoveRow.{MoveRow}

-- members under their numbers
abbrev pub Standings : Type 0
Standings = List (ℕ × Standing)

-- groups under their numbers
abbrev pub Groups : Type 0
Groups = List (ℕ × GroupRow)

-- moves under the numbers of their groups
abbrev pub Moves : Type 0
Moves = List (ℕ × MoveRow)

pub record MetaState : Type 0 where
  pub members : Standings
  pub groups : Groups
  -- the numbers of the groups that have ended
  pub destroyed : List (ℕ × Unit {0})
  pub moves : Moves

-- so many numbers, from this one on
abbrev pub numbers : ℕ → ℕ → List ℕ
numbers zero from = []
numbers (suc n) from = from ∷ numbers n (from + 1)

abbrev pub metadata_name : List ℕ
metadata_name = codes "METADATA"

abbrev pub default_name : List ℕ
default_name = codes "default"

-- a group as it is made
abbrev pub new_group : List ℕ → List ℕ → GroupRow
new_group name members = record { name = name; destroying = false; first = members; index = 0; members = members }

-- At first each member is active, and METADATA and `default` stand on those up to the size.
abbrev pub first_state : ℕ → ℕ → MetaState
first_state members size = record {
  members = map (λ m. (m, standing.Active)) (numbers members 1);
  groups = (0, new_group metadata_name (numbers size 1)) ∷ (1, new_group default_name (numbers size 1)) ∷ [];
  destroyed = [];
  moves = [];
}

abbrev pub group_at : MetaState → ℕ → Option GroupRow
group_at s group = find nat_cmp s.groups group

abbrev pub move_of : Moves → ℕ → Option MoveRow
move_of moves group = find nat_cmp moves group

abbrev pub is_in : List ℕ → ℕ → Bool
is_in members m = list_any (λ a. a == m) members

abbrev pub is_active : Standing → Bool
is_active standing.Active = true
is_active standing.Leaving = false
is_active standing.Out = false

abbrev pub is_leaving : Standing → Bool
is_leaving standing.Active = false
is_leaving standing.Leaving = true
is_leaving standing.Out = false

abbrev pub is_out : Standing → Bool
is_out standing.Active = false
is_out standing.Leaving = false
is_out standing.Out = true

-- the members that stand so, by number
abbrev pub those : (Standing → Bool) → Standings → List ℕ
those test members = keys_of (filter (λ e. test e.1) members)

abbrev pub active : MetaState → List ℕ
active s = those is_active s.members

abbrev pub with_standing : ℕ → Standing → MetaState → MetaState
with_standing m how s = record s { members = put nat_cmp s.members m how }

abbrev pub with_moves : MetaState → Moves → MetaState
with_moves s moves = record s { moves = moves }
