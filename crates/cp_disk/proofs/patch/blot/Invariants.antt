use Rattle.std.proofs.Common.{◌≡◌, take, replicate}
use Rattle.cp_disk.proofs.patch.blot.Given as goal

abbrev pub invariant-loop-place : goal.invariant-loop-place
invariant-loop-place l = take l.place l.bytes ≡ replicate l.place 255
