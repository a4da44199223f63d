use Rattle.std.proofs.Common.{sym}
use Rattle.cp_log.proofs.RowMaps.{row_same}
use Rattle.cp_log.proofs.rows.reserve.Goals as goal

pub returns-clause-same : goal.returns-clause-same
returns-clause-same c =
    row_same c.args.group c.args.rows.now.entries _ c.in-Some.row.now c.reserve.new.self (sym c.in-Some.ensures.value)
    (c.get_mut.follows.holds c.reserve.new.self).0 c.reserve.ensures.state
