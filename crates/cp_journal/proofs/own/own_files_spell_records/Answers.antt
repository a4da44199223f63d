use Rattle.cp_journal.proofs.OwnFiles.{own_files}
use Rattle.cp_journal.proofs.own.own_files_spell_records.Goals as goal

pub returns : goal.returns
returns g c told = own_files g.D.Disk (g.met.D.Disk.counts_now told) (g.met.D.Disk.reads told)
