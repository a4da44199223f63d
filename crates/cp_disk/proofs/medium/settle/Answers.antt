use Rattle.std.proofs.Common.{ap, arith}
use Rattle.cp_disk.specs.Room.{reach}
use Rattle.cp_disk.proofs.Replays.{reach_drop}
use Rattle.cp_disk.proofs.medium.settle.Goals as goal

pub replay-requires : goal.replay-requires
replay-requires c = omega (arith, reach_drop c.args.settled c.args.calls.now, c.requires.room, ap reach c.split_at.ensures.back)
