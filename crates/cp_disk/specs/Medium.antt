-- What a disk in memory remembers.
use Rattle.std.specs.Prelude.{List, reverse}
use Rattle.cp_disk.specs.declared.record.Call.{Call}
use Rattle.cp_disk.specs.declared.medium.Medium.{Medium}

-- what was done, the newest first
abbrev pub history : Medium → List Call
history medium = reverse medium.calls.items
