use Rattle.std.proofs.Common.{◌≡◌, ◌≤◌, ◌+◌, length}
use Rattle.std.specs.Prelude.{vec_capacity}
use Rattle.cp_disk.specs.Record.{replayed}
use Rattle.cp_disk.specs.Room.{reach}
use Rattle.cp_disk.proofs.medium.replay.Given as goal

abbrev pub invariant-loop-rest : goal.invariant-loop-rest
invariant-loop-rest l = record {
  replays : replayed l.choice l.number l.rest l.bytes.items ≡ replayed l.choice 0 l.calls l.initial.bytes.items;
  room : reach l.rest ≤ vec_capacity l.bytes;
  kept : vec_capacity l.initial.bytes ≤ vec_capacity l.bytes;
  number : l.number + length l.rest ≡ length l.calls;
}

abbrev pub decreases-loop-rest : goal.decreases-loop-rest
decreases-loop-rest l = length l.rest
