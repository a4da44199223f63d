-- What a member sends, as messages on the wire.
use Rattle.std.specs.Prelude.{List, map}
use Rattle.cp_message.specs.declared.message.Message.{Message}
use Rattle.cp_rules.specs.Local.{Sent}
use Rattle.cp_rules_ranges.specs.Messages.{message_of}
use Rattle.cp_raft_state.specs.declared.seat.Seat.{Seat}

abbrev pub sent_by : Seat → Sent → Message
sent_by seat s = message_of seat.group seat.me s.to s.body

abbrev pub messages_of : Seat → List Sent → List Message
messages_of seat sends = map (sent_by seat) sends
