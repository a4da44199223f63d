-- What calls over a disk leave of its counts.
use Rattle.std.specs.Prelude.{◌≡◌, ◌≤◌}
use Rattle.cp_disk.specs.declared.disk.Disk.{Ghosts}

-- no fault and no want of memory is forgotten, and no order was given
abbrev pub Tallies : {D : Type 0} → Ghosts D → D → D → Type 0
Tallies disks old new = (disks.faults old ≤ disks.faults new) × ((disks.starved old ≤ disks.starved new) × (disks.orders new ≡ disks.orders old))
