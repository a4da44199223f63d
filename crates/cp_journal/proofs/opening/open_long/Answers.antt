use Rattle.std.proofs.Common.{subst, sym}
use Rattle.cp_journal.specs.Found.{lists}
use Rattle.cp_journal.specs.Frames.{IsClosed}
use Rattle.cp_journal.proofs.Openings.{opened_file, opening_leaves}
use Rattle.cp_journal.proofs.opening.open_long.Goals as goal

pub returns-in-Ok-cut_end-clause-opened : goal.returns-in-Ok-cut_end-clause-opened
returns-in-Ok-cut_end-clause-opened g c told =
    let bodies = lists c.in-Ok.read.0.items in
    let is = c.in-Ok.ensures.records told in
    let same = (c.read_records.ensures.stays told).same in
    let closed = subst (IsClosed bodies c.in-Ok.read.1) (sym same) is in
    opened_file g.D.Disk.seen g.D.Disk.may_leave g.D.Disk.moment g.D.Disk.left_since c.args.disk.now c.read_records.new.disk c.cut_end.new.disk bodies c.in-Ok.read.1 is same (c.in-Ok-cut_end.ensures.rest bodies told closed)

pub returns-in-Ok-cut_end-clause-any_moment : goal.returns-in-Ok-cut_end-clause-any_moment
returns-in-Ok-cut_end-clause-any_moment g c told =
    let bodies = lists c.in-Ok.read.0.items in
    let same = (c.read_records.ensures.stays told).same in
    let closed = subst (IsClosed bodies c.in-Ok.read.1) (sym same) (c.in-Ok.ensures.records told) in
    opening_leaves g.D.Disk.seen g.D.Disk.may_leave g.D.Disk.moment g.D.Disk.left_since c.args.disk.now c.read_records.new.disk c.cut_end.new.disk (c.read_records.ensures.stays told) (c.cut_end.ensures.any_moment bodies told closed)

pub returns-in-Err-Failed-clause-any_moment : goal.returns-in-Err-Failed-clause-any_moment
returns-in-Err-Failed-clause-any_moment g c told =
    let bodies = lists c.in-Ok.read.0.items in
    let same = (c.read_records.ensures.stays told).same in
    let closed = subst (IsClosed bodies c.in-Ok.read.1) (sym same) (c.in-Ok.ensures.records told) in
    opening_leaves g.D.Disk.seen g.D.Disk.may_leave g.D.Disk.moment g.D.Disk.left_since c.args.disk.now c.read_records.new.disk c.cut_end.new.disk (c.read_records.ensures.stays told) (c.cut_end.ensures.any_moment bodies told closed)
