-- A disk in memory.
use Rattle.std.specs.Prelude.{◌≡◌, ℕ, List, None, false}
use Rattle.cp_disk.specs.Images.{Only}
use Rattle.cp_disk.specs.Record.{seen_by, leaves}
use Rattle.cp_disk.specs.Medium.{history}
use Rattle.cp_disk.specs.declared.memory.MemoryDisk.{MemoryDisk}

-- it has these bytes, all of them synced; it counted nothing and took no order, and no stop is armed or struck
pub record NewDisk (bytes : List ℕ) (disk : MemoryDisk) : Type 0 where
  pub seen : seen_by (history disk.medium) ≡ bytes
  pub synced : Only bytes (leaves (history disk.medium))
  pub faults : disk.faults.faults ≡ 0
  pub starved : disk.faults.starved ≡ 0
  pub orders : disk.faults.orders ≡ 0
  pub stop : disk.faults.stop ≡ None
  pub struck : disk.faults.is_struck ≡ false
