-- The messages of a client, as they are sent and as they come.
use Rattle.std.specs.Prelude.{ℕ, ◌+◌, ◌==◌, ◌&&◌, List, map, Option, Some, None, Result, Ok, Err, if◌then◌else◌, nat_le}
use Rattle.cp_base.specs.declared.limits.TheConstants.{MOST_MEMBER}
use Rattle.cp_answers.specs.Answers.{answer_grammar}
use Rattle.cp_answers.specs.Refusals.{refusal}
use Rattle.cp_answers.specs.declared.answer.Answer.{Answer}
use Rattle.cp_answers.specs.declared.refusal.Refusal.{Refusal}
use Rattle.cp_base.specs.declared.identifier.ClientId.{ClientId}
use Rattle.cp_base.specs.declared.identifier.ClientNo.{ClientNo}
use Rattle.cp_events.specs.declared.plan.Plan.{Plan}
use Rattle.cp_grammar.specs.Grammar.{whole}
use Rattle.cp_message.specs.Messages.{message_told}
use Rattle.cp_message.specs.declared.body.Body.{Body}
use Rattle.cp_message.specs.declared.body.Body.TheVariants as body
use Rattle.cp_message.specs.declared.message.Message.{Message}
use Rattle.cp_message.specs.declared.request.Reply.{Reply}
use Rattle.cp_ops.specs.Ops.{op_grammar}
use Rattle.cp_try_rules.specs.declared.event.Event.{Event}
use Rattle.cp_try_rules.specs.declared.event.Event.TheVariants as event
use Rattle.cp_try_rules.specs.declared.event.Says.{Says}
use Rattle.cp_try_rules.specs.declared.event.Says.TheVariants as says
use Rattle.cp_try_rules.specs.declared.event.Sent.{Sent}
use Rattle.cp_try_rules.specs.Events.{ClientState, client_step}
use Rattle.cp_try_rules.specs.Steps.{Step, stays}

-- clients have the addresses from 17 on
abbrev pub address_of : ClientNo → ℕ
address_of who = 16 + who.0

abbrev pub body_of : Says → Body
body_of says.Hello = body.Hello
body_of (says.Asks attempt restart a) = body.Request (record {
  thread = a.call.thread;
  attempt = attempt;
  restart = restart;
  client = a.call.client;
  group = a.group;
  number = a.call.number;
  op = op_grammar.spelling a.op;
})

abbrev pub mail_of : ClientNo → Sent → Message
mail_of who s = record { from = address_of who; to = s.to; body = body_of s.says }

abbrev pub messages : ClientNo → Step → List Message
messages who s = map (mail_of who) s.sent

abbrev pub answered : Reply → Result Answer ℕ → Option Event
answered r (Ok a) = Some (event.Answered r.thread r.group r.number a)
answered r (Err place) = None

abbrev pub refused : Reply → Result Refusal ℕ → Option Event
refused r (Ok why) = Some (event.Refused r.thread r.attempt r.group r.number why)
refused r (Err place) = None

-- what a message of this member has happen; none where it says nothing to clients
abbrev pub heard : ℕ → Body → Option Event
heard m (body.Welcome r) = Some (event.Welcomed m r)
heard m (body.Reply r) = answered r (whole answer_grammar r.bytes)
heard m (body.Refuse r) = refused r (whole refusal r.bytes)
heard m other = None

-- A message is for the client to whom it goes, and comes from a member.
abbrev pub event_of : ClientNo → Message → Option Event
event_of who m = if (m.to == address_of who) && nat_le m.from MOST_MEMBER then heard m.from m.body else None

abbrev pub told_event : ClientNo → Result Message ℕ → Option Event
told_event who (Ok m) = event_of who m
told_event who (Err place) = None

module _ (plan : Plan) (me : ClientId) where
  abbrev pub on_event : ClientState → Option Event → Step
  on_event s None = stays s.calls s.tries
  on_event s (Some e) = client_step plan me s e

  -- Bytes that came. Those that spell no message for the client are dropped.
  abbrev pub got_step : ClientNo → ClientState → List ℕ → Step
  got_step who s bytes = on_event s (told_event who (message_told bytes))
