-- The machines of a member's groups, and what the member reads of them.
use Rattle.std.specs.Prelude.{ℕ, Bool, ◌==◌, Option, slice_get}
use Rattle.cp_meta_state.specs.MetaState.{MetaState, those, is_leaving}
use Rattle.cp_group_rules.specs.Events.{Settings}
use Rattle.cp_group_rules.specs.Machines.{Machine}

-- METADATA's machine, and that of each other group.
pub record Machines (V : Type 0) : Type 0 where
  pub lists : Machine MetaState
  pub objects : Machine V
  -- an entry has destroyed the group
  pub is_destroyed : V → Bool

-- What a member takes of the header: how many members there are, and whether there is METADATA.
pub record Setup : Type 0 where
  pub members : ℕ
  pub managed : Bool
  pub settings : Settings

-- the number of METADATA
abbrev pub metadata : ℕ
metadata = 0

abbrev pub is_metadata : ℕ → Bool
is_metadata group = group == metadata

-- the member that leaves, if one does
abbrev pub leaving : MetaState → Option ℕ
leaving s = slice_get (those is_leaving s.members) 0
