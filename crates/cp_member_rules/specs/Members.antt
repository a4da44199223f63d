-- What a member is while it is up.
use Rattle.std.specs.Prelude.{ℕ, ◌+◌, Bool, false, not, List, [], map, Option, Some, None, ◌==◌, ◌&&◌, if◌then◌else◌, bytes_eq, unwrap_or}
use Rattle.std.specs.List.{list_any, find as first_that}
use Rattle.std.specs.Option.{option_map}
use Rattle.std.specs.Ordering.{nat_cmp, ordering_then}
use Rattle.std.specs.declared.cmp.Ordering.{Ordering}
use Rattle.cp_group_state.specs.Rows.{find}
use Rattle.cp_meta_state.specs.MetaState.{MetaState}
use Rattle.cp_parts.specs.declared.part.Part.{Part}
use Rattle.cp_parts.specs.declared.part.Part.TheVariants as part
use Rattle.cp_log_rules.specs.Persistent.{PersistentState}
use Rattle.cp_log_rules.specs.Durable.{DurableState, group_in, with_part}
use Rattle.cp_rules.specs.Local.{is_leader}
use Rattle.cp_group_rules.specs.Groups.{VolatileGroup, begun, may_begin}
use Rattle.cp_group_rules.specs.Views.{view_at}
use Rattle.cp_member_rules.specs.Machines.{Machines, is_metadata, metadata}

-- ---- METADATA's leader

-- What it remembers of its leadership: which member of which group has confirmed that it began and that it ended the group, the entries that
-- it proposed, and for each member the index of its last entry that this member has left.
pub record Leadership : Type 0 where
  pub started : List (ℕ × ℕ)
  pub ended : List (ℕ × ℕ)
  pub proposed : List (List ℕ)
  pub left : List (ℕ × ℕ)

abbrev pub nothing_done : Leadership
nothing_done = record { started = []; ended = []; proposed = []; left = [] }

abbrev pub has_pair : ℕ → ℕ → List (ℕ × ℕ) → Bool
has_pair a b pairs = list_any (λ p. (p.0 == a) && (p.1 == b)) pairs

abbrev pub was_proposed : List ℕ → Leadership → Bool
was_proposed entry leadership = list_any (bytes_eq entry) leadership.proposed

-- ---- a member

-- A crash leaves what is stored alone. The groups are those that stand, by rising number. An endpoint is an address with a thread; each has
-- the number of its last attempt since the start.
pub record MemberState : Type 0 where
  pub stored : DurableState
  pub clock : ℕ
  pub groups : List (ℕ × VolatileGroup)
  pub attempts : List ((ℕ × ℕ) × ℕ)
  pub leadership : Leadership

abbrev pub group_at : MemberState → ℕ → Option VolatileGroup
group_at x group = find nat_cmp x.groups group

abbrev pub stored_at : MemberState → ℕ → PersistentState
stored_at x group = group_in x.stored group

abbrev pub endpoint_cmp : ℕ × ℕ → ℕ × ℕ → Ordering
endpoint_cmp a b = ordering_then (nat_cmp a.0 b.0) (nat_cmp a.1 b.1)

-- the last attempt of an address and a thread, 0 where there was none
abbrev pub last_attempt : MemberState → ℕ → ℕ → ℕ
last_attempt x from thread = unwrap_or (find endpoint_cmp x.attempts (from, thread)) 0

-- the group is there and leads
abbrev pub leads : Option VolatileGroup → Bool
leads None = false
leads (Some g) = is_leader g.raft.role

module _ {V : Type 0} (ms : Machines V) where
  -- what METADATA's machine stands for here
  abbrev pub lists_at : MemberState → VolatileGroup → MetaState
  lists_at x g = view_at ms.lists (stored_at x metadata) g.raft.commit

  -- ---- a start

  -- a group that begins to be here
  abbrev pub begins : ℕ → PersistentState → ℕ → VolatileGroup
  begins group p clock = if is_metadata group then begun ms.lists p clock else begun ms.objects p clock

  -- the group's snapshot, if it has one, restores a machine
  abbrev pub is_good : ℕ → PersistentState → Bool
  is_good group p = if is_metadata group then may_begin ms.lists p else may_begin ms.objects p

  -- the lowest group that can't begin, if one can't
  abbrev pub bad_snapshot : DurableState → Option ℕ
  bad_snapshot s = option_map (λ g. g.0) (first_that (λ g. not (is_good g.0 g.1)) s.groups)

  -- what a start writes
  abbrev pub start_part : DurableState → Part
  start_part s = part.Start2 (s.restart + 1)

  -- the member once this is stored
  abbrev pub opened : DurableState → MemberState
  opened s = record { stored = s; clock = 0; groups = map (λ g. (g.0, begins g.0 g.1 0)) s.groups; attempts = []; leadership = nothing_done }

  -- the member after a start
  abbrev pub started : DurableState → MemberState
  started s = opened (with_part (start_part s) s)
