use Rattle.std.proofs.Common.{sym}
use Rattle.cp_log_rules.specs.Persistent.{with_entries}
use Rattle.cp_log.proofs.RowMaps.{row_changed}
use Rattle.cp_log.proofs.rows.put_entries.Goals as goal

pub returns-clause-rows : goal.returns-clause-rows
returns-clause-rows c =
    row_changed c.args.group c.args.rows.now.entries _ c.in-Some.row.now c.put_entries.new.self (with_entries c.args.term c.args.vote c.args.after c.args.entries.items) (sym c.in-Some.ensures.value)
    (c.get_mut.follows.holds c.put_entries.new.self).0 c.put_entries.ensures
