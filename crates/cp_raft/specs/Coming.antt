-- What may come to a member.
use Rattle.std.specs.Prelude.{IfSome}
use Rattle.cp_message.specs.Messages.{message_grammar}
use Rattle.cp_message.specs.declared.message.Message.{Message}
use Rattle.cp_rules_ranges.specs.Ranges.{BodyIsInRange}
use Rattle.cp_raft_state.specs.Said.{body_in}

-- What a member of a group says in a message that has a spelling is in range.
abbrev pub SaidIsInRange : Type 0
SaidIsInRange = (m : Message) → message_grammar.Fits m → IfSome (body_in m.body) BodyIsInRange
