use Rattle.std.proofs.Common.{length}
use Rattle.cp_disk.specs.Images.{Torn}
use Rattle.cp_journal.proofs.Moments.{two_calls}
use Rattle.cp_journal.proofs.Untouched.{untouched}
use Rattle.cp_journal.proofs.steps.write_synced.Goals as goal

pub returns-in-Ok-clause-any_moment : goal.returns-in-Ok-clause-any_moment
returns-in-Ok-clause-any_moment g c told =
    let n = length c.args.bytes.now in
    two_calls g.D.Disk.moment g.D.Disk.left_since g.D.Disk.may_leave c.args.disk.now c.write_at.new.self c.sync.new.self (g.D.Disk.seen c.args.disk.now)
    (Torn c.args.at n) (g.met.D.Disk.only_now told c.args.disk.now) (c.requires.durable told) (untouched c.args.at n (g.D.Disk.seen c.args.disk.now))
    (c.write_at.ensures.crash told) (c.write_at.ensures.time told) (c.sync.ensures.crash told) (c.sync.ensures.time told)

pub returns-in-Err-clause-any_moment : goal.returns-in-Err-clause-any_moment
returns-in-Err-clause-any_moment g c told =
    let n = length c.args.bytes.now in
    two_calls g.D.Disk.moment g.D.Disk.left_since g.D.Disk.may_leave c.args.disk.now c.write_at.new.self c.sync.new.self (g.D.Disk.seen c.args.disk.now)
    (Torn c.args.at n) (g.met.D.Disk.only_now told c.args.disk.now) (c.requires.durable told) (untouched c.args.at n (g.D.Disk.seen c.args.disk.now))
    (c.write_at.ensures.crash told) (c.write_at.ensures.time told) (c.sync.ensures.crash told) (c.sync.ensures.time told)
