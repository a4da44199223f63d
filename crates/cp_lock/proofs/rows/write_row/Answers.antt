use Rattle.cp_lock.proofs.Well.{put_well}
use Rattle.cp_lock.proofs.rows.write_row.Goals as goal

pub returns-clause-well : goal.returns-clause-well
returns-clause-well c = rw c.write_row.ensures (put_well c.args.rows.now.entries c.args.name.now c.args.row c.requires.rows c.requires.row)
