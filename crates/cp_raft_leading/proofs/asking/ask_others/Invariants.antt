use Rattle.std.proofs.Common.{◌≡◌, ◌≤◌, ◌++◌, length}
use Rattle.cp_rules.specs.Persistent.{others}
use Rattle.cp_raft_state.specs.Room.{spare}
use Rattle.cp_raft_leading.specs.Asks.{asks, to_others}
use Rattle.cp_raft_leading.proofs.asking.ask_others.Given as goal

abbrev pub invariant-loop-rest : goal.invariant-loop-rest
invariant-loop-rest l =
    (l.out.items ++ to_others l.seat (asks l.ask) l.rest ≡ l.fn.out.items ++ to_others l.seat (asks l.ask) l.members)
    × (length (others l.seat.me l.members) ≤ spare l.fn.out → length (others l.seat.me l.rest) ≤ spare l.out)

abbrev pub decreases-loop-rest : goal.decreases-loop-rest
decreases-loop-rest l = length l.rest
