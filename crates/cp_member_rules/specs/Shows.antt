-- What an event shows of a member's groups: how far their commits and bases rose.
use Rattle.std.specs.Prelude.{ℕ, List, filter_map, Option, Some, None, nat_lt, if◌then◌else◌}
use Rattle.cp_group_rules.specs.Groups.{VolatileGroup}
use Rattle.cp_member_rules.specs.Members.{MemberState, group_at, stored_at}

abbrev pub rose : ℕ → ℕ → ℕ → Option (ℕ × ℕ)
rose group before after = if nat_lt before after then Some (group, after) else None

-- A group that begins shows nothing.
abbrev pub commit_of : ℕ → Option VolatileGroup → VolatileGroup → Option (ℕ × ℕ)
commit_of group None after = None
commit_of group (Some before) after = rose group before.raft.commit after.raft.commit

-- the groups whose commits rose, by number, each with its commit
abbrev pub commits : MemberState → MemberState → List (ℕ × ℕ)
commits before after = filter_map (λ g. commit_of g.0 (group_at before g.0) g.1) after.groups

-- the groups whose bases rose, by number, each with its base
abbrev pub snapshots : MemberState → MemberState → List (ℕ × ℕ)
snapshots before after = filter_map (λ g. rose g.0 (stored_at before g.0).base (stored_at after g.0).base) after.groups
