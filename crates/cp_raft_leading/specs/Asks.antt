-- What a member asks all others, and what it sends to all of them.
use Rattle.std.specs.Prelude.{ℕ, List, map}
use Rattle.cp_message.specs.declared.message.Message.{Message}
use Rattle.cp_rules.specs.Local.{Body, PreVote, Vote, Confirm, Sent, send}
use Rattle.cp_rules.specs.Persistent.{others}
use Rattle.cp_raft_state.specs.declared.seat.Seat.{Seat}
use Rattle.cp_raft_state.specs.Messages.{messages_of}
use Rattle.cp_raft_leading.specs.declared.asking.Ask.{Ask}
use Rattle.cp_raft_leading.specs.declared.asking.Ask.TheVariants as ask

abbrev pub asked : Ask → Body
asked (ask.PreVote term end) = PreVote term end
asked (ask.Vote term end) = Vote term end
asked (ask.Confirm term round) = Confirm term round

-- it, sent to a member
abbrev pub asks : Ask → ℕ → Sent
asks a to = send to (asked a)

-- the messages to all of these members but oneself
abbrev pub to_others : Seat → (ℕ → Sent) → List ℕ → List Message
to_others seat what members = messages_of seat (map what (others seat.me members))
