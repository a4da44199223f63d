-- How far the writes of a record reach.
use Rattle.std.specs.Prelude.{◌+◌, ℕ, List, [], ◌∷◌, length, max}
use Rattle.cp_disk.specs.declared.record.Call.{Call}
use Rattle.cp_disk.specs.declared.record.Call.TheVariants.{Write, Cut, Sync, Crash}

-- the end of a write
abbrev pub reach_of : Call → ℕ
reach_of (Write at piece) = at + length piece
reach_of (Cut n) = 0
reach_of Sync = 0
reach_of (Crash choice) = 0

-- the greatest length that these writes can make
abbrev pub reach : List Call → ℕ
reach [] = 0
reach (call ∷ calls) = max (reach_of call) (reach calls)
