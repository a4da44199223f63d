use Rattle.std.proofs.Common.{◌∙◌, arith}
use Rattle.cp_journal.specs.Found.{lists}
use Rattle.cp_journal.proofs.Gathered.{found_bad, found_body, found_fits}
use Rattle.cp_journal.proofs.Moments.{stays_on}
use Rattle.cp_journal.proofs.reading.read_records.Goals as goal

pub returns-in-Ok-Bad-clause-cause : goal.returns-in-Ok-Bad-clause-cause
returns-in-Ok-Bad-clause-cause g c told =
    let i = c.loop-bodies.invariant in
    let told_length = c.requires.told told in
    found_bad (lists c.loop-bodies.bodies.items) c.loop-bodies.gate (g.D.Disk.seen c.args.disk.now) (g.D.Disk.seen c.loop-bodies.disk) c.in-Ok-Bad.field-0
    (i.stays told).same (c.in-Ok-Bad.ensures.found told) c.in-Ok-Bad.field-0-is (i.frames told) (omega (arith, i.within, told_length)) (omega (arith, c.requires.long, told_length))

pub loop-bodies-preserved : goal.loop-bodies-preserved
loop-bodies-preserved g c =
    let i = c.loop-bodies.invariant in
    let fits = found_fits c.in-Ok-Body.body c.loop-bodies.gate c.args.len c.in-Ok-Body.field-0 c.in-Ok-Body.ensures.fits c.in-Ok-Body.field-0-is in
    record {
      within = omega (arith, fits, c.len.ensures);
      frames = λ told. found_body c.loop-bodies.bodies.items c.push_body.new.bodies.items c.in-Ok-Body.body c.loop-bodies.gate _ (g.D.Disk.seen c.args.disk.now) (g.D.Disk.seen c.loop-bodies.disk) c.in-Ok-Body.field-0
          (i.stays told).same (c.in-Ok-Body.ensures.found told) c.in-Ok-Body.field-0-is (i.frames told) c.in-Ok.ensures.ok (omega (arith, c.len.ensures));
      stays = λ told. stays_on g.D.Disk.moment g.D.Disk.left_since g.D.Disk.seen g.D.Disk.may_leave c.args.disk.now c.loop-bodies.disk c.read_frame.new.disk (i.stays told) (c.read_frame.ensures.stays told);
      faults = omega (arith, i.faults, c.read_frame.ensures.tallies.0);
      starved = omega (arith, i.starved, c.read_frame.ensures.tallies.1.0);
      orders = c.read_frame.ensures.tallies.1.1 ∙ i.orders;
    }
