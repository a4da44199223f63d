-- What a rule has done, before its part is written.
use Rattle.std.specs.Prelude.{◌≡◌, List, [], ◌++◌}
use Rattle.std.specs.Option.{option_map}
use Rattle.cp_message.specs.declared.message.Message.{Message}
use Rattle.cp_rules.specs.Parts.{part_of}
use Rattle.cp_rules.specs.Volatile.{VolatileState}
use Rattle.cp_rules.specs.Local.{LocalStep}
use Rattle.cp_raft_state.specs.declared.did.Did.{Did}
use Rattle.cp_raft_state.specs.declared.seat.Seat.{Seat}
use Rattle.cp_raft_state.specs.Messages.{messages_of}

-- It asks for the part and the answer of this step, leaves its state, and put its messages behind those that were there. Reads are
-- settled after it.
pub record Does (seat : Seat) (s : LocalStep) (did : Did) (now : VolatileState) (before after : List Message) : Type 0 where
  pub part : did.part ≡ option_map (part_of seat.group) s.part
  pub outcome : did.outcome ≡ s.outcome
  pub state : now ≡ s.state
  pub sends : after ≡ before ++ messages_of seat s.sends
  pub answered : s.answered ≡ []
  pub lost : s.lost ≡ []
