use Rattle.cp_log_rules.specs.Durable.{first_state}
use Rattle.cp_log.specs.Stores.{disk_of}
use Rattle.cp_log.proofs.Opened.{sound_opening}
use Rattle.cp_log.proofs.store.Store.open.Goals as goal

pub returns-clause-sound : goal.returns-clause-sound
returns-clause-sound g c = λ told all.
    sound_opening g.D.Disk.moment g.D.Disk.left_since c.args.disk (first_state c.args.managed c.args.size) (g.D.Disk.seen c.args.disk) (g.D.Disk.may_leave c.args.disk) (λ store. disk_of store) g.D.Disk.faults g.D.Disk.Told
    (g.D.Disk.faults c.args.disk) c.open_file.result told all (g.met.D.Disk.reads told c.args.disk) (c.open_file.ensures.any_moment told) c.open_file.ensures.cause
