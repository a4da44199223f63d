-- How far a chunk brings its snapshot.
use Rattle.std.specs.Prelude.{length}
use Rattle.cp_rules.specs.Snapshots as step
use Rattle.cp_raft_state.specs.declared.receiving.Joined.{Joined}
use Rattle.cp_raft_state.specs.declared.receiving.Joined.TheVariants.{More, Whole, TooLong}

abbrev pub joined_by : step.Progress → Joined
joined_by (step.Apart received) = More received
joined_by step.TooLong = TooLong
joined_by (step.More bytes) = More (length bytes)
joined_by (step.Whole bytes) = Whole bytes
