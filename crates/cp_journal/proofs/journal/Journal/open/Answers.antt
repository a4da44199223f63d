use Rattle.cp_journal.proofs.OwnFiles.{not_bad, own_files}
use Rattle.cp_journal.proofs.journal.Journal.open.Goals as goal

pub returns-in-Err-clause-own : goal.returns-in-Err-clause-own
returns-in-Err-clause-own g c told own =
    let spells = own_files g.D.Disk (g.met.D.Disk.counts_now told) (g.met.D.Disk.reads told) c.args.disk own in
    not_bad (g.D.Disk.faults c.args.disk) (g.D.Disk.faults c.recover.new.disk) g.D.Disk.Told (g.D.Disk.seen c.args.disk) c.in-Err.error told spells.0 c.in-Err.ensures.cause
