-- How often a disk was ordered to stop or to crash.
use Rattle.std.specs.Prelude.{ℕ}
use Rattle.cp_disk.specs.declared.memory.MemoryDisk.{MemoryDisk}

abbrev pub orders_of : MemoryDisk → ℕ
orders_of disk = disk.faults.orders
