use Rattle.std.proofs.Common.{◌≡◌, ◌+◌}
use Rattle.cp_disk.specs.Images.{Shortened}
use Rattle.cp_journal.specs.Records.{records_of}
use Rattle.cp_journal.proofs.Moments.{weaker}
use Rattle.cp_journal.proofs.Openings.{cut_leaves, cut_rest, whole_rest}
use Rattle.cp_journal.proofs.opening.cut_end.Goals as goal

pub returns-in-Ok-clause-rest : goal.returns-in-Ok-clause-rest
returns-in-Ok-clause-rest g c bodies told is =
    cut_rest bodies c.args.gate (g.D.Disk.seen c.args.disk.now) (g.D.Disk.seen c.cut_synced.new.disk) (g.D.Disk.may_leave c.cut_synced.new.disk) is (c.in-Ok.ensures.cut told) (c.in-Ok.ensures.durable told)

pub returns-else-gate-len-clause-rest : goal.returns-else-gate-len-clause-rest
returns-else-gate-len-clause-rest g c bodies told is = whole_rest bodies c.args.gate (g.D.Disk.seen c.args.disk.now) (g.D.Disk.may_leave c.args.disk.now) is (c.requires.durable told)

pub returns-in-Ok-clause-any_moment : goal.returns-in-Ok-clause-any_moment
returns-in-Ok-clause-any_moment g c bodies told is =
    let file = g.D.Disk.seen c.args.disk.now in
    weaker g.D.Disk.moment g.D.Disk.left_since c.args.disk.now c.cut_synced.new.disk (Shortened (c.args.gate + 1) file) (λ image. records_of image ≡ records_of file) (c.cut_synced.ensures.any_moment told)
    (λ image cut. cut_leaves bodies c.args.gate file image is cut)

pub returns-in-Err-clause-any_moment : goal.returns-in-Err-clause-any_moment
returns-in-Err-clause-any_moment g c bodies told is =
    let file = g.D.Disk.seen c.args.disk.now in
    weaker g.D.Disk.moment g.D.Disk.left_since c.args.disk.now c.cut_synced.new.disk (Shortened (c.args.gate + 1) file) (λ image. records_of image ≡ records_of file) (c.cut_synced.ensures.any_moment told)
    (λ image cut. cut_leaves bodies c.args.gate file image is cut)
