use Rattle.std.proofs.Common.{ap, ◌∙◌, rules}
use Rattle.std.specs.Prelude.{FitsSigned}
use Rattle.std.specs.Int.{w64}
use Rattle.std.proofs.lemmas.Int.{to_z-of_z}
use Rattle.cp_group_state.specs.declared.rows.SemaphoreRow.{SemaphoreRow}
use Rattle.cp_semaphore.proofs.Rooms.{room-met}
use Rattle.cp_semaphore.proofs.tables.give_back.Goals as goal

pub returned-next-requires : goal.returned-next-requires
returned-next-requires c = room-met c.args.tables.now c.args.key.now c.args.row c.args.session c.args.permits c.requires.met c.requires.holds

pub returns-clause-available : goal.returns-clause-available
returns-clause-available c = let fits : FitsSigned w64 c.returned-next.result.available = search rules in
    to_z-of_z w64 c.returned-next.result.available fits ∙ ap (λ (r : SemaphoreRow). r.available) c.returned-next.ensures
