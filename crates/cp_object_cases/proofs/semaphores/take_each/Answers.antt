use Rattle.std.proofs.Common.{◌∙◌, rules}
use Rattle.cp_object_cases.proofs.Served.{are_served}
use Rattle.cp_object_cases.proofs.semaphores.take_each.Goals as goal

pub take_each-requires : goal.take_each-requires
take_each-requires c =
    let i = c.in-Some.is in
    are_served (c.args.name.now, c.args.kind) c.args.semaphores.now _ c.args.waits.now c.as_slice.result.now (search (rules, i)) (c.as_slice.ensures ∙ c.in_ok-served.ensures)
