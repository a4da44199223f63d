-- What a list of journal parts stands for.
use Rattle.std.specs.Prelude.{ℕ, zero, suc, Bool, true, false, List, [], ◌∷◌, Option, Some, None, reverse, is_some}
use Rattle.std.specs.Ordering.{nat_cmp}
use Rattle.std.specs.BTreeMap.{is_at, insert_entry}
use Rattle.std.specs.BTreeSet.{insert_key}
use Rattle.std.specs.List.{list_any}
use Rattle.std.specs.Map.{lookup, set_value, remove_entry}
use Rattle.cp_parts.specs.declared.part.Part.{Part}
use Rattle.cp_parts.specs.declared.part.Part.TheVariants as part
use Rattle.cp_log_rules.specs.Persistent.{PersistentState, new_group, with_ballot, with_entries, with_snapshot}

-- The groups that stand and those that have ended are told by rising number.
pub record DurableState : Type 0 where
  -- how often the member has started
  pub restart : ℕ
  -- 1 before the first part of the second format, and 2 from it on
  pub format : ℕ
  pub groups : List (ℕ × PersistentState)
  pub ended : List ℕ

-- ---- words

-- the state of a group, if it stands
abbrev pub group_at : DurableState → ℕ → Option PersistentState
group_at s group = lookup (is_at (nat_cmp group)) s.groups

abbrev pub has_group : DurableState → ℕ → Bool
has_group s group = is_some (group_at s group)

abbrev pub has_ended : DurableState → ℕ → Bool
has_ended s group = list_any (is_at (nat_cmp group)) s.ended

-- a group that has no members, in the place of one that doesn't stand
abbrev pub or_nobody : Option PersistentState → PersistentState
or_nobody None = new_group []
or_nobody (Some state) = state

-- the state of a group that stands
abbrev pub group_in : DurableState → ℕ → PersistentState
group_in s group = or_nobody (group_at s group)

-- ---- before the first part

-- the members 1 to n
abbrev pub first_down : ℕ → List ℕ
first_down zero = []
first_down (suc n) = suc n ∷ first_down n

abbrev pub first_members : ℕ → List ℕ
first_members size = reverse (first_down size)

abbrev pub first_groups : Bool → ℕ → List (ℕ × PersistentState)
first_groups false size = (1, new_group (first_members size)) ∷ []
first_groups true size = (0, new_group (first_members size)) ∷ (1, new_group (first_members size)) ∷ []

-- Group 1 stands from the first start on, and so does group 0 where there is one.
abbrev pub first_state : Bool → ℕ → DurableState
first_state managed size = record { restart = 0; format = 1; groups = first_groups managed size; ended = [] }

-- ---- after a part

-- one of some groups changed
abbrev pub changed_at : ℕ → (PersistentState → PersistentState) → List (ℕ × PersistentState) → List (ℕ × PersistentState)
changed_at group change groups = set_value (is_at (nat_cmp group)) groups (change (or_nobody (lookup (is_at (nat_cmp group)) groups)))

abbrev pub with_group : ℕ → (PersistentState → PersistentState) → DurableState → DurableState
with_group group change s = record s { groups = changed_at group change s.groups }

abbrev pub with_part : Part → DurableState → DurableState
with_part (part.Start restart) s = record s { restart = restart }
with_part (part.State group term vote) s = with_group group.0 (with_ballot term vote) s
with_part (part.Append group term vote after entries) s = with_group group.0 (with_entries term vote after entries) s
with_part (part.Begin group first) s = record s { groups = insert_entry nat_cmp s.groups group.0 (new_group first) }
with_part (part.End group) s = record s { groups = remove_entry (is_at (nat_cmp group.0)) s.groups; ended = insert_key nat_cmp s.ended group.0 }
with_part (part.Snapshot group term vote index bytes) s = with_group group.0 (with_snapshot term vote index bytes) s
with_part (part.Start2 restart) s = record s { restart = restart; format = 2 }
