use Rattle.std.proofs.Common.{rules, ◌≡◌, true, false}
use Rattle.std.specs.Prelude.{nat_lt}
use Rattle.std.specs.Ordering.{nat_cmp}
use Rattle.cp_group_state.specs.Rows.{without}
use Rattle.cp_meta_state.specs.declared.rows.TheConstants.{MOST_DESTROYED}
use Rattle.cp_meta_state.specs.MetaState.{MetaState}
use Rattle.cp_meta_state.specs.Destroying.{given_up, is_fixed}
use Rattle.cp_meta.proofs.There.{destroyed_state}
use Rattle.cp_meta.proofs.tables.MetaTables.destroy.Goals as goal

pub returns-clause-state : goal.returns-clause-state
returns-clause-state c =
    let s : MetaState = record { members = c.self.inside.members.entries; groups = c.self.inside.groups.entries; destroyed = c.self.inside.destroyed.entries; moves = c.self.inside.moves.entries } in
    let standing : c.in-Some.row.now.destroying ≡ false = cc in
    let other : is_fixed c.in-Some.row.now.name ≡ false = cc in
    let room : nat_lt (given_up s) MOST_DESTROYED ≡ true = first_of (cc, search rules) in
    let gone : c.remove.new.self.entries ≡ without nat_cmp c.self.inside.moves.entries c.in-Some.group = search rules in
    destroyed_state s c.args.self.now c.args.name.now c.in-Some.group c.in-Some.row.now c.begin_destroying.new.groups.entries c.remove.new.self.entries c.self.view_is c.len-len.ensures.ordered c.in-Some.ensures
    standing other room c.begin_destroying.ensures gone
