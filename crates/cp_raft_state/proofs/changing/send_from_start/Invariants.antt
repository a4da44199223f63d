use Rattle.std.proofs.Common.{◌≡◌, ◌++◌, map, take, drop}
use Rattle.cp_rules.specs.Snapshots.{from_start}
use Rattle.cp_raft_state.proofs.changing.send_from_start.Given as goal

abbrev pub invariant-loop-member : goal.invariant-loop-member
invariant-loop-member l = l.peers ≡ map from_start (take l.member l.fn.peers) ++ drop l.member l.fn.peers
