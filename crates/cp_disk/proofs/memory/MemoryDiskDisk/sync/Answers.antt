use Rattle.cp_disk.specs.Medium.{history}
use Rattle.cp_disk.proofs.Settled.{settled_only, sync_leaves}
use Rattle.cp_disk.proofs.memory.MemoryDiskDisk.sync.Goals as goal

pub returns-then-is_pending-clause-crash : goal.returns-then-is_pending-clause-crash
returns-then-is_pending-clause-crash c told = sync_leaves (history c.args.self.now.medium) (history c.sync.new.self) c.sync.ensures

pub returns-else-is_pending-clause-durable : goal.returns-else-is_pending-clause-durable
returns-else-is_pending-clause-durable c told = settled_only (history c.args.self.now.medium) c.is_pending.result c.is_pending.ensures c.if-is_pending.false
