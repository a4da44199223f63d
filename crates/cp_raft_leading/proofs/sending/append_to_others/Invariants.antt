use Rattle.std.proofs.Common.{◌≡◌, ◌++◌, length}
use Rattle.cp_rules.specs.Sending.{append_to}
use Rattle.cp_raft_leading.specs.Asks.{to_others}
use Rattle.cp_raft_leading.proofs.sending.append_to_others.Given as goal

abbrev pub invariant-loop-rest : goal.invariant-loop-rest
invariant-loop-rest g l =
    let p = g.G.Log.stored l.stored in
    l.out.items ++ to_others l.seat (append_to p l.state) l.rest ≡ l.fn.out.items ++ to_others l.seat (append_to p l.state) l.members

abbrev pub decreases-loop-rest : goal.decreases-loop-rest
decreases-loop-rest g l = length l.rest
