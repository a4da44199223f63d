use Rattle.std.proofs.Common.{◌≡◌, subst, sym}
use Rattle.cp_journal.specs.Found.{lists}
use Rattle.cp_journal.specs.Opening.{IsOpened}
use Rattle.cp_disk.specs.Images.{Torn}
use Rattle.cp_journal.specs.Records.{records_of}
use Rattle.cp_journal.proofs.Moments.{weaker}
use Rattle.cp_journal.proofs.Openings.{short_leaves, started_file}
use Rattle.cp_journal.proofs.opening.start.Goals as goal

pub returns-in-Ok-clause-any_moment : goal.returns-in-Ok-clause-any_moment
returns-in-Ok-clause-any_moment g c told =
    let file = g.D.Disk.seen c.args.disk.now in
    weaker g.D.Disk.moment g.D.Disk.left_since c.args.disk.now c.write_synced.new.disk (Torn 0 1 file) (λ image. records_of image ≡ records_of file) (c.write_synced.ensures.any_moment told)
    (λ image torn. short_leaves file image (c.requires.short told) torn)

pub returns-in-Ok-clause-opened : goal.returns-in-Ok-clause-opened
returns-in-Ok-clause-opened g c told =
    let file = g.D.Disk.seen c.args.disk.now in
    let now = g.D.Disk.seen c.write_synced.new.disk in
    let images = g.D.Disk.may_leave c.write_synced.new.disk in
    subst (λ bodies. IsOpened (lists bodies) 1 file now images) (sym c.new.ensures.items) (started_file file now images (c.requires.short told) (c.in-Ok.ensures.written told) (c.in-Ok.ensures.durable told))

pub returns-in-Err-Failed-clause-any_moment : goal.returns-in-Err-Failed-clause-any_moment
returns-in-Err-Failed-clause-any_moment g c told =
    let file = g.D.Disk.seen c.args.disk.now in
    weaker g.D.Disk.moment g.D.Disk.left_since c.args.disk.now c.write_synced.new.disk (Torn 0 1 file) (λ image. records_of image ≡ records_of file) (c.write_synced.ensures.any_moment told)
    (λ image torn. short_leaves file image (c.requires.short told) torn)

pub returns-in-Err-NoMemory-clause-any_moment : goal.returns-in-Err-NoMemory-clause-any_moment
returns-in-Err-NoMemory-clause-any_moment g c told =
    let file = g.D.Disk.seen c.args.disk.now in
    weaker g.D.Disk.moment g.D.Disk.left_since c.args.disk.now c.write_synced.new.disk (Torn 0 1 file) (λ image. records_of image ≡ records_of file) (c.write_synced.ensures.any_moment told)
    (λ image torn. short_leaves file image (c.requires.short told) torn)
