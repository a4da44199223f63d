use Rattle.std.proofs.Common.{reverse, vec_len}
use Rattle.cp_world_rules.specs.World.{commit_all}
use Rattle.cp_world.specs.declared.turn.Turn.{Turn}
use Rattle.cp_world.specs.declared.world.World.{World}
use Rattle.cp_world.specs.Following.{Leads}
use Rattle.cp_world.specs.Rooms.{CanCount}
use Rattle.cp_world.proofs.committing.commit_all.Given as goal

-- what is left leads where all led
abbrev pub invariant-loop-request : goal.invariant-loop-request
invariant-loop-request l = record {
  room : CanCount (commit_all (reverse l.requests.items)) l.world l.turn;
  leads : (world : World) (turn : Turn) → Leads (commit_all (reverse l.requests.items)) l.world l.turn world turn → Leads (commit_all l.fn.asked) l.fn.world l.fn.turn world turn;
}

abbrev pub decreases-loop-request : goal.decreases-loop-request
decreases-loop-request l = vec_len l.requests
