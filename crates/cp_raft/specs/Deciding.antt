-- What a step has done, before its part is written.
use Rattle.std.specs.Prelude.{◌≡◌, ◌++◌}
use Rattle.std.specs.Option.{option_map}
use Rattle.cp_rules.specs.Parts.{part_of}
use Rattle.cp_rules.specs.Volatile.{VolatileState}
use Rattle.cp_rules.specs.Local.{LocalStep}
use Rattle.cp_raft_state.specs.declared.did.Did.{Did}
use Rattle.cp_raft_state.specs.declared.seat.Seat.{Seat}
use Rattle.cp_raft_state.specs.Messages.{messages_of}
use Rattle.cp_raft.specs.declared.out.RaftOut.{RaftOut}

-- It asks for the part and the answer of the step, leaves its state, and hands over its messages and its reads.
pub record Decides (seat : Seat) (s : LocalStep) (did : Did) (now : VolatileState) (before after : RaftOut) : Type 0 where
  pub part : did.part ≡ option_map (part_of seat.group) s.part
  pub outcome : did.outcome ≡ s.outcome
  pub state : now ≡ s.state
  pub sends : after.messages.items ≡ before.messages.items ++ messages_of seat s.sends
  pub answered : after.looks.items ≡ s.answered
  pub lost : after.lost.items ≡ s.lost
