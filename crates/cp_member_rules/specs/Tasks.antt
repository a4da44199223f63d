-- What the leader of METADATA tells members, in its order.
use Rattle.std.specs.Prelude.{ℕ, not, ◌||◌, List, [], ◌++◌, map, filter, flat_map, Option, Some, None, nat_lt, ◌==◌, if◌then◌else◌}
use Rattle.cp_message.specs.declared.task.Task.TheVariants as task
use Rattle.cp_meta_state.specs.MetaState.{MetaState, group_at, move_of}
use Rattle.cp_meta_state.specs.declared.rows.GroupRow.{GroupRow}
use Rattle.cp_meta_state.specs.declared.rows.MoveRow.{MoveRow}
use Rattle.cp_rules.specs.Changes.{with_member}
use Rattle.cp_rules.specs.Persistent.{is_member}
use Rattle.cp_log_rules.specs.Durable.{first_members}
use Rattle.cp_member_rules.specs.Letters.{Letter, letter, Talk, StartGroup, Told}
use Rattle.cp_member_rules.specs.Machines.{Setup}
use Rattle.cp_member_rules.specs.Members.{Leadership, has_pair}

-- by rising number; who is in stays once, and 0 is nobody
abbrev pub with_one : ℕ → List ℕ → List ℕ
with_one m members = if (m == 0) || is_member m members then members else with_member m members

abbrev pub with_added : Option MoveRow → List ℕ → List ℕ
with_added None members = members
with_added (Some x) members = with_one x.add members

abbrev pub members_of : Option GroupRow → List ℕ
members_of None = []
members_of (Some row) = row.members

-- the members of a group, and the one to be added
abbrev pub concerned : MetaState → ℕ → List ℕ
concerned s group = with_added (move_of s.moves group) (members_of (group_at s group))

-- `me` is METADATA's leader.
abbrev pub to_each : ℕ → Talk → List ℕ → List Letter
to_each me talk members = map (λ m. letter me m talk) members

-- the members that have not confirmed it for this group
abbrev pub unconfirmed : List (ℕ × ℕ) → ℕ → List ℕ → List ℕ
unconfirmed pairs group members = filter (λ m. not (has_pair group m pairs)) members

-- groups that members are to have: all but the first two, which each has from its first start on
abbrev pub starts : ℕ → Leadership → MetaState → List Letter
starts me leadership s = flat_map (λ g. to_each me (StartGroup g.0 g.1.first) (unconfirmed leadership.started g.0 (concerned s g.0))) (filter (λ g. nat_lt 1 g.0) s.groups)

-- `n` is the number of members.
abbrev pub destroys : ℕ → ℕ → MetaState → List Letter
destroys me n s = flat_map (λ g. to_each me (Told g.0 task.Destroy) (first_members n)) (filter (λ g. g.1.destroying) s.groups)

abbrev pub moves : ℕ → MetaState → List Letter
moves me s = flat_map (λ x. to_each me (Told x.0 (task.Move x.1.plan x.1.add (record { 0 = x.1.remove }))) (concerned s x.0)) s.moves

abbrev pub ends : ℕ → ℕ → Leadership → MetaState → List Letter
ends me n leadership s = flat_map (λ g. to_each me (Told g.0 task.End) (unconfirmed leadership.ended g.0 (first_members n))) s.destroyed

abbrev pub tasks : Setup → ℕ → Leadership → MetaState → List Letter
tasks setup me leadership s = starts me leadership s ++ (destroys me setup.members s ++ (moves me s ++ ends me setup.members leadership s))
