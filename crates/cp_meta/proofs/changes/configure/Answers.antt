use Rattle.std.proofs.Common.{sym, ◌∙◌}
use Rattle.cp_meta.proofs.There.{configured_there}
use Rattle.cp_meta.proofs.changes.configure.Goals as goal

pub returns-in-Some : goal.returns-in-Some
returns-in-Some c = (c.get_mut.follows.holds (record c.in-Some.row.now { index = c.args.index; members = c.args.members })).0
    ∙ configured_there c.args.groups.now.entries c.args.group c.args.index c.args.members c.in-Some.row.now c.get_mut.ensures.ordered (sym c.in-Some.ensures.value)
