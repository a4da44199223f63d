use Rattle.std.proofs.Common.{sym, ◌∙◌}
use Rattle.cp_group_tables.proofs.RuleCases.{own_call}
use Rattle.cp_group_tables.proofs.tables.GroupTables.perform.Goals as goal

-- a rule lets the call itself wait
pub settle_wait-requires : goal.settle_wait-requires
settle_wait-requires c =
    own_call c.args.index c.args.call.now c.args.op.now c.args.self.now c.in-Waits.waiter (sym c.in-Waits.is ∙ c.in_ok-answer.ensures.reply)
