use Rattle.std.proofs.Common.{reverse, vec_len}
use Rattle.cp_world_rules.specs.World.{hand_all}
use Rattle.cp_world.specs.declared.turn.Turn.{Turn}
use Rattle.cp_world.specs.declared.world.World.{World}
use Rattle.cp_world.specs.Following.{Leads}
use Rattle.cp_world.specs.Rooms.{HasRoomFor}
use Rattle.cp_world.proofs.handing.hand_all.Given as goal

-- what is left leads where all led
abbrev pub invariant-loop-request : goal.invariant-loop-request
invariant-loop-request l = record {
  room : HasRoomFor (hand_all l.plan (reverse l.answers.items)) l.world l.turn;
  leads : (world : World) (turn : Turn) → Leads (hand_all l.plan (reverse l.answers.items)) l.world l.turn world turn → Leads (hand_all l.plan l.fn.queue) l.fn.world l.fn.turn world turn;
}

abbrev pub decreases-loop-request : goal.decreases-loop-request
decreases-loop-request l = vec_len l.answers
