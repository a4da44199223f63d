-- The world without members: clients, and the one group, whose history each request enters at once.
use Rattle.cp_base.specs.declared.limits.TheConstants.{LAST_NUMBER}
use Rattle.std.specs.Prelude.{ℕ, ◌+◌, Bool, not, ◌&&◌, List, [], ◌∷◌, ◌++◌, length, map, Option, Some, None, if◌then◌else◌, nat_lt, slice_index}
use Rattle.std.specs.Ordering.{nat_cmp}
use Rattle.cp_base.specs.Identifiers.{replay_id}
use Rattle.cp_base.specs.declared.identifier.ClientNo.{ClientNo}
use Rattle.cp_base.specs.declared.identifier.Invocation.{Invocation}
use Rattle.cp_base.specs.declared.identifier.ThreadNo.{ThreadNo}
use Rattle.cp_answers.specs.declared.answer.Answer.{Answer}
use Rattle.cp_ops.specs.declared.entry.Entry.TheVariants as entry
use Rattle.cp_events.specs.declared.effects.Effects.{Effects}
use Rattle.cp_events.specs.declared.effects.Ignored.{Ignored}
use Rattle.cp_events.specs.declared.effects.Ignored.TheVariants as ignored
use Rattle.cp_events.specs.declared.effects.Return.{Return}
use Rattle.cp_events.specs.declared.event.Event.{Event}
use Rattle.cp_events.specs.declared.event.Event.TheVariants as event
use Rattle.cp_events.specs.declared.plan.Plan.{Plan}
use Rattle.cp_events.specs.declared.user_op.UserOp.{UserOp}
use Rattle.cp_group_state.specs.Rows.{find, put}
use Rattle.cp_group_state.specs.GroupState.{GroupState, empty}
use Rattle.cp_group_state.specs.Apply.{apply}
use Rattle.cp_client_rules.specs.declared.rows.Pending.{Pending}
use Rattle.cp_client_rules.specs.Asking.{default_group}
use Rattle.cp_client_rules.specs.Clients.{Asked, Client, Did, new_client, thread_at}
use Rattle.cp_client_rules.specs.Calls.{call_client}
use Rattle.cp_client_rules.specs.Answers.{answer_client}
use Rattle.cp_client_rules.specs.Ticks.{tick_client}
use Rattle.cp_world_rules.specs.Rows.{Called, Committed, End, Moved, Request, Returned}

pub record World : Type 0 where
  -- by their numbers
  pub clients : List (ℕ × Client)
  -- of the group `default`
  pub state : GroupState
  pub history : List Committed
  pub requests : List Request
  pub ends : List End
  pub calls : List Called
  pub moves : List Moved
  pub returns : List Returned
  -- the answers that wait to be handed on, in their order
  pub queue : List (Invocation × Answer)
  -- what the events showed that are over, event 0 first, and what the one under way shows so far
  pub effects : List Effects
  pub shown : Effects

abbrev pub shows_nothing : ℕ → Event → Effects
shows_nothing number e = record { number = number; event = e; ignored = None; opened = []; returns = [] }

abbrev pub new_world : World
new_world = record { clients = []; state = empty; history = []; requests = []; ends = []; calls = []; moves = []; returns = []; queue = []; effects = shows_nothing 0 event.Open ∷ []; shown = shows_nothing 0 event.Open }

abbrev pub or_new : Option Client → Client
or_new None = new_client
or_new (Some c) = c

abbrev pub client_at : World → ClientNo → Client
client_at w me = or_new (find nat_cmp w.clients me.0)

-- the client whose request this is
abbrev pub client_of : Invocation → ClientNo
client_of call = record { 0 = slice_index call.client.0 15 }

-- A request is the next entry of the history, and what that answers waits to be handed on.
abbrev pub commit : Asked → World → World
commit a w = let applied = apply (length w.history + 1) (entry.Call a.call a.op) w.state in record w {
  state = applied.state;
  history = w.history ++ record { event = w.shown.number; entry = entry.Call a.call a.op } ∷ [];
  queue = w.queue ++ applied.answers;
}

abbrev pub commit_all : List Asked → World → World
commit_all [] w = w
commit_all (a ∷ asked) w = commit_all asked (commit a w)

-- the rows of a request that begins now, of one that ends now, and of a return
abbrev pub begins_now : World → Asked → Request
begins_now w a = record { event = w.shown.number; length = length w.history; group = default_group; call = a.call; op = a.op }

abbrev pub ends_now : World → Invocation × Answer → End
ends_now w e = record { event = w.shown.number; length = length w.history; group = default_group; call = e.0; answer = e.1 }

abbrev pub returns_now : World → ClientNo → Return → Returned
returns_now w me r = record { event = w.shown.number; client = me; what = r }

-- What a client's step gives is noted. Without members all requests go to the group `default`, and all answers come from it.
abbrev pub note : ClientNo → Did → World → World
note me d w = record w {
  clients = put nat_cmp w.clients me.0 d.client;
  requests = w.requests ++ map (begins_now w) d.asked;
  ends = w.ends ++ map (ends_now w) d.ended;
  returns = w.returns ++ map (returns_now w me) d.returns;
  shown = record w.shown {
    opened = w.shown.opened ++ map (λ o. (me, o)) d.opened;
    returns = w.shown.returns ++ map (λ r. (me, r)) d.returns;
  };
}

-- A client took a step. The requests that begin are committed at once.
abbrev pub does : ClientNo → Did → World → World
does me d w = commit_all d.asked (note me d w)

abbrev pub ignore : Ignored → World → World
ignore cause w = record w { shown = record w.shown { ignored = Some cause } }

-- clocks end at 2 ^ 62
abbrev pub moves_now : ClientNo → ℕ → World → World
moves_now me ms w = does me (tick_client (replay_id me) ms (client_at w me))
    (record w { moves = w.moves ++ record { event = w.shown.number; client = me; ms = ms; clock = (client_at w me).clock + ms } ∷ [] })

abbrev pub moves_if_room : ClientNo → ℕ → World → World
moves_if_room me ms w = if nat_lt LAST_NUMBER ((client_at w me).clock + ms)
    then ignore (ignored.ClockEnd (client_at w me).clock) w
    else moves_now me ms w

-- the next event begins
abbrev pub start : Event → World → World
start e w = record w { shown = shows_nothing (length w.effects) e }

-- the event under way is over
abbrev pub close : World → World
close w = record w { effects = w.effects ++ w.shown ∷ [] }

module _ (plan : Plan) where
  -- an answer is handed to its client
  abbrev pub hand_on : Invocation × Answer → World → World
  hand_on a w = does (client_of a.0) (answer_client plan (replay_id (client_of a.0)) a.0 a.1 (client_at w (client_of a.0))) w

  abbrev pub hand_all : List (Invocation × Answer) → World → World
  hand_all [] w = w
  hand_all (a ∷ queue) w = hand_all queue (hand_on a w)

  -- The answers that wait are handed on in their order. Answers that come meanwhile wait behind them.
  abbrev pub handed : World → World
  handed w = hand_all w.queue (record w { queue = [] })

  abbrev pub is_client : ClientNo → Bool
  is_client me = nat_lt 0 me.0 && not (nat_lt plan.clients me.0)

  abbrev pub calls_now : ClientNo → ThreadNo → UserOp → World → World
  calls_now me t o w = does me (call_client plan (replay_id me) t o (client_at w me))
      (record w { calls = w.calls ++ record { event = w.shown.number; client = me; thread = t; op = o; clock = (client_at w me).clock } ∷ [] })

  -- a thread makes one call at a time
  abbrev pub calls_if_idle : ClientNo → ThreadNo → UserOp → Option Pending → World → World
  calls_if_idle me t o None w = calls_now me t o w
  calls_if_idle me t o (Some now) w = ignore (ignored.ThreadBusy (thread_at (client_at w me) t).number) w

  -- What an event does first. There is no member, and no message was ever sent.
  abbrev pub begin : Event → World → World
  begin (event.Call me t o) w = if is_client me then calls_if_idle me t o (thread_at (client_at w me) t).pending w else ignore ignored.NoSuchClient w
  begin (event.ClientTick me ms) w = if is_client me then moves_if_room me ms w else ignore ignored.NoSuchClient w
  begin (event.Deliver k) w = ignore (ignored.NoMessage 0) w
  begin (event.Tick m ms) w = ignore ignored.NoSuchMember w
  begin (event.Crash m) w = ignore ignored.NoSuchMember w
  begin (event.CrashAfter m calls choice) w = ignore ignored.NoSuchMember w
  begin (event.Start m) w = ignore ignored.NoSuchMember w
  begin event.Open w = w

  -- An event, and all that follows from it. An answer makes its client ask at most once more, and what that request is
  -- answered makes nobody ask: so the queue is empty when it was handed on twice.
  abbrev pub world_step : World → Event → World
  world_step w e = close (handed (handed (begin e (start e w))))

  abbrev pub world_after : World → List Event → World
  world_after w [] = w
  world_after w (e ∷ events) = world_after (world_step w e) events
