use Rattle.cp_lock.proofs.Well.{put_well}
use Rattle.cp_lock.proofs.rows.put_row.Goals as goal

pub returns-clause-well : goal.returns-clause-well
returns-clause-well c = rw c.in_ok-insert.ensures.entries (put_well c.args.rows.now.entries c.in_ok-name.name c.args.row c.requires.rows c.requires.row)
