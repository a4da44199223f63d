use Rattle.std.proofs.Common.{sym, Some}
use Rattle.cp_log_rules.specs.Persistent.{with_head}
use Rattle.cp_log.proofs.RowMaps.{row_changed}
use Rattle.cp_log.proofs.rows.put_snapshot.Goals as goal

pub returns-clause-rows : goal.returns-clause-rows
returns-clause-rows c =
    row_changed c.args.group c.args.rows.now.entries _ c.in-Some.row.now c.put_snapshot.new.self (with_head c.args.term c.args.vote c.args.index c.args.bytes (Some c.args.head)) (sym c.in-Some.ensures.value)
    (c.get_mut.follows.holds c.put_snapshot.new.self).0 c.put_snapshot.ensures
