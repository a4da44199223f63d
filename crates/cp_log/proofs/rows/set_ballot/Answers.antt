use Rattle.std.proofs.Common.{sym}
use Rattle.cp_log_rules.specs.Persistent.{with_ballot}
use Rattle.cp_log.proofs.RowMaps.{row_changed}
use Rattle.cp_log.proofs.rows.set_ballot.Goals as goal

pub returns-clause-rows : goal.returns-clause-rows
returns-clause-rows c =
    row_changed c.args.group c.args.rows.now.entries _ c.in-Some.row.now c.set_ballot.new.self (with_ballot c.args.term c.args.vote) (sym c.in-Some.ensures.value)
    (c.get_mut.follows.holds c.set_ballot.new.self).0 c.set_ballot.ensures
