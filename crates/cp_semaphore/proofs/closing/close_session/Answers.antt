use Rattle.std.proofs.Common.{sym, refl}
use Rattle.cp_semaphore.proofs.Rooms.{can-back}
use Rattle.cp_semaphore.proofs.Closings.{closes-some, closes-none}
use Rattle.cp_semaphore.proofs.closing.close_session.Goals as goal

pub back_each-requires : goal.back_each-requires
back_each-requires c = can-back c.args.tables.now c.args.session c.in-Some.held c.requires (sym c.in-Some.ensures.held)

pub returns-in-Some-clause-back : goal.returns-in-Some-clause-back
returns-in-Some-clause-back c = closes-some c.args.tables.now (record { alloc = c.args.tables.now.alloc; rows = c.back_each.new.rows; holdings = c.close.new.holdings }) c.args.session c.in-Some.held c.requires (sym c.in-Some.ensures.held)
    (c.in-Some.ensures.nested c.requires.nested) c.in-Some.ensures.gone c.back_each.ensures

pub returns-in-None-clause-back : goal.returns-in-None-clause-back
returns-in-None-clause-back c = closes-none c.args.tables.now (record { alloc = c.args.tables.now.alloc; rows = c.args.tables.now.rows; holdings = c.close.new.holdings }) c.args.session c.requires (sym c.in-None.ensures.held)
    (c.in-None.ensures.nested c.requires.nested) c.in-None.ensures.gone refl
