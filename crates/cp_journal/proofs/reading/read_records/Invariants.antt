use Rattle.std.proofs.Common.{◌≡◌, ◌≤◌, ◌<◌, ◌-◌}
use Rattle.cp_journal.specs.Found.{lists}
use Rattle.cp_journal.specs.Frames.{AreFrames}
use Rattle.cp_journal.specs.Moments.{Stays}
use Rattle.cp_journal.proofs.reading.read_records.Given as goal

abbrev pub invariant-loop-bodies : goal.invariant-loop-bodies
invariant-loop-bodies g l = record {
  within : l.gate < l.len;
  frames : g.D.Disk.Told → AreFrames (lists l.bodies.items) 0 l.gate (g.D.Disk.seen l.fn.disk);
  stays : g.D.Disk.Told → Stays g.D.Disk.seen g.D.Disk.may_leave g.D.Disk.moment g.D.Disk.left_since l.fn.disk l.disk;
  faults : g.D.Disk.faults l.fn.disk ≤ g.D.Disk.faults l.disk;
  starved : g.D.Disk.starved l.fn.disk ≤ g.D.Disk.starved l.disk;
  orders : g.D.Disk.orders l.disk ≡ g.D.Disk.orders l.fn.disk;
}

abbrev pub decreases-loop-bodies : goal.decreases-loop-bodies
decreases-loop-bodies g l = l.len - l.gate
