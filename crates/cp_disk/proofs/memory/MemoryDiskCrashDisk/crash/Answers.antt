use Rattle.std.specs.Prelude.{None}
use Rattle.cp_disk.specs.Medium.{history}
use Rattle.cp_disk.specs.Laws.{crash_leaves}
use Rattle.cp_disk.proofs.Settled.{settled_only, crash_image}
use Rattle.cp_disk.proofs.memory.MemoryDiskCrashDisk.crash.Goals as goal

pub returns-then-is_pending-clause-image : goal.returns-then-is_pending-clause-image
returns-then-is_pending-clause-image c told = crash_image (history c.args.self.now.medium) (history c.crash.new.self) c.args.choice c.crash.ensures

pub returns-else-is_pending-clause-image : goal.returns-else-is_pending-clause-image
returns-else-is_pending-clause-image c told = crash_leaves None (history c.args.self.now.medium)

pub returns-else-is_pending-clause-only : goal.returns-else-is_pending-clause-only
returns-else-is_pending-clause-only c told = settled_only (history c.args.self.now.medium) c.is_pending.result c.is_pending.ensures c.if-is_pending.false
