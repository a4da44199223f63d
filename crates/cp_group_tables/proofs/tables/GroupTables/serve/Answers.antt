use Rattle.std.proofs.Common.{◌∙◌, rules}
use Rattle.cp_group_tables.proofs.RuleCases.{are_served}
use Rattle.cp_group_tables.proofs.tables.GroupTables.serve.Goals as goal

pub take_each-requires : goal.take_each-requires
take_each-requires c =
    let i = c.in-Some.is in
    are_served (c.args.name.now, c.args.kind) c.self.inside.semaphores _ c.self.inside.waits c.as_slice.result.now (search (rules, i)) (c.as_slice.ensures ∙ c.in_ok-served.ensures)
