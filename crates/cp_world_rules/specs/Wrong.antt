-- Executions that are wrong, each named by what is wrong with it. A promise refuses it, computed.
use Rattle.std.specs.Prelude.{◌≡◌, ℕ, pos, List, [], ◌∷◌, Some, None}
use Rattle.cp_base.specs.Identifiers.{replay_id}
use Rattle.cp_base.specs.declared.identifier.ClientNo.{ClientNo}
use Rattle.cp_base.specs.declared.identifier.Invocation.{Invocation}
use Rattle.cp_base.specs.declared.identifier.ThreadNo.{ThreadNo}
use Rattle.cp_answers.specs.declared.answer.Answer.{Answer}
use Rattle.cp_answers.specs.declared.answer.Answer.TheVariants as answer
use Rattle.cp_answers.specs.declared.ended_by.EndedBy.TheVariants as ended_by
use Rattle.cp_object_ops.specs.declared.latch_op.LatchOp.TheVariants as latch
use Rattle.cp_object_ops.specs.declared.lock_op.LockOp.TheVariants as lock
use Rattle.cp_object_ops.specs.declared.long_op.LongOp.TheVariants as long
use Rattle.cp_op_values.specs.declared.wish.Wish.TheVariants as wish
use Rattle.cp_ops.specs.declared.entry.Entry.TheVariants as entry
use Rattle.cp_ops.specs.declared.op.Op.{Op}
use Rattle.cp_ops.specs.declared.op.Op.TheVariants as op
use Rattle.cp_ops.specs.declared.session_op.SessionOp.TheVariants as session
use Rattle.cp_events.specs.declared.effects.Effects.{Effects}
use Rattle.cp_events.specs.declared.effects.Ending.TheVariants as ending
use Rattle.cp_events.specs.declared.effects.Ignored.TheVariants as ignored
use Rattle.cp_events.specs.declared.effects.Opened.{Opened}
use Rattle.cp_events.specs.declared.effects.Return.{Return}
use Rattle.cp_events.specs.declared.event.Event.{Event}
use Rattle.cp_events.specs.declared.event.Event.TheVariants as event
use Rattle.cp_events.specs.declared.object.Object.{Object}
use Rattle.cp_events.specs.declared.plan.Plan.{Plan}
use Rattle.cp_events.specs.declared.schedule.Line.{Line}
use Rattle.cp_events.specs.declared.schedule.Line.TheVariants as line
use Rattle.cp_events.specs.declared.user_op.LatchCall.TheVariants as latch_call
use Rattle.cp_events.specs.declared.user_op.LockCall.TheVariants as lock_call
use Rattle.cp_events.specs.declared.user_op.LongCall.TheVariants as long_call
use Rattle.cp_events.specs.declared.user_op.UserOp.{UserOp}
use Rattle.cp_events.specs.declared.user_op.UserOp.TheVariants as user
use Rattle.cp_client_rules.specs.Asking.{default_group}
use Rattle.cp_world_rules.specs.Rows.{Called, Committed, End, Request, entries_of}
use Rattle.cp_world_rules.specs.World.{shows_nothing}
use Rattle.cp_world_rules.specs.Execution.{Execution, Settled, execution_of, histories_of, history}
use Rattle.cp_group_state.specs.History.{IsFullyOrderly}
use Rattle.cp_world_rules.specs.Requests.{AsksItselfOnce, CallsStand, EndsOnce, NumbersRise, Requested, ReturnsOnce, RoundsAreTold}
use Rattle.cp_world_rules.specs.Entries.{EntriesAreAsked, EventsRise, HistoriesStand, LengthsAreTrue, NamesOwnSessions, RowsAreInOrder}
use Rattle.cp_world_rules.specs.Answers.{AllAnswered, GoesOn}
use Rattle.cp_world_rules.specs.Returns.{AllReturnsTell}
use Rattle.cp_world_rules.specs.Telling.{EventsTell, FollowsLines}
use Rattle.cp_world_rules.specs.Judging.{ClientsAct}
use Rattle.cp_world_rules.specs.Prompt.{IsPrompt}

-- ---- rows, of client 1 and its thread 1 where nothing else is said

abbrev pub client : ℕ → ClientNo
client n = record { 0 = n }

abbrev pub thread : ThreadNo
thread = record { 0 = 1 }

abbrev pub invocation : ℕ → ℕ → Invocation
invocation c n = record { client = replay_id (client c); thread = thread; number = n }

abbrev pub makes : ℕ → UserOp → Called
makes number o = record { event = number; client = client 1; thread = thread; op = o; clock = 0 }

abbrev pub asks : ℕ → ℕ → ℕ → Op → Request
asks number length n o = record { event = number; length = length; group = default_group; call = invocation 1 n; op = o }

abbrev pub enters : ℕ → ℕ → Op → Committed
enters number n o = record { event = number; entry = entry.Call (invocation 1 n) o }

abbrev pub is_told : ℕ → ℕ → ℕ → Answer → End
is_told number length n a = record { event = number; length = length; group = default_group; call = invocation 1 n; answer = a }

abbrev pub shows : ℕ → Event → List (ClientNo × Opened) → List (ClientNo × Return) → Effects
shows number e opened returns = record { number = number; event = e; ignored = None; opened = opened; returns = returns }

abbrev pub gives : ℕ → Answer → ClientNo × Return
gives n a = (client 1, record { thread = thread; number = n; ending = ending.Answered a })

abbrev pub opens : ℕ → List (ClientNo × Opened)
opens s = (client 1, record { group = default_group; session = s }) ∷ []

abbrev pub opening : Effects
opening = shows_nothing 0 event.Open

abbrev pub nowhere : Execution
nowhere = record { effects = opening ∷ []; histories = []; calls = []; requests = []; ends = [] }

-- ---- operations

abbrev pub a : Object
a = record { name = 97 ∷ []; group = None }

abbrev pub gets : UserOp
gets = user.Long a (long_call.Plain long.Get)

abbrev pub increments : UserOp
increments = user.Long a long_call.Inc

abbrev pub get : Op
get = op.Long (97 ∷ []) long.Get

abbrev pub add : Op
add = op.Long (97 ∷ []) (long.Add (pos 1))

abbrev pub locks : UserOp
locks = user.Lock a lock_call.Lock

abbrev pub acquire : ℕ → Op
acquire s = op.Lock (97 ∷ []) (lock.Acquire s 0 wish.NoLimit)

abbrev pub release : ℕ → Op
release s = op.Lock (97 ∷ []) (lock.Release s)

abbrev pub call_of : UserOp → Event
call_of o = event.Call (client 1) thread o

abbrev pub zero_is : Answer
zero_is = answer.Value (pos 0)

abbrev pub one_is : Answer
one_is = answer.Value (pos 1)

-- ---- one call, as it should be

abbrev pub right : Execution
right = record {
  effects = opening ∷ shows 1 (call_of gets) [] (gives 1 zero_is ∷ []) ∷ [];
  histories = histories_of (enters 1 1 get ∷ []);
  calls = makes 1 gets ∷ [];
  requests = asks 1 0 1 get ∷ [];
  ends = is_told 1 1 1 zero_is ∷ [];
}

-- ---- what may be wrong

-- The entry of a later event stands before that of an earlier one.
abbrev pub enters_in_the_wrong_order : Execution
enters_in_the_wrong_order = record nowhere { histories = histories_of (enters 2 2 get ∷ enters 1 1 add ∷ []) }

-- A group has two histories.
abbrev pub tells_two_histories : Execution
tells_two_histories = record right { histories = (default_group, enters 1 1 get ∷ []) ∷ (default_group, enters 1 1 add ∷ []) ∷ [] }

-- A request of an earlier event is listed behind one of a later.
abbrev pub lists_in_the_wrong_order : Execution
lists_in_the_wrong_order = record right { requests = asks 2 1 2 get ∷ asks 1 0 1 get ∷ [] }

-- An entry closes a session of a greater index than its own.
abbrev pub closes_a_session_to_come : Execution
closes_a_session_to_come = record nowhere { histories = histories_of (enters 1 1 (op.Session (session.Close 1)) ∷ []) }

-- A client closes the session of another.
abbrev pub closes_anothers_session : Execution
closes_anothers_session = record nowhere {
  histories = histories_of (enters 1 1 (op.Session session.Open) ∷ record { event = 2; entry = entry.Call (invocation 2 1) (op.Session (session.Close 1)) } ∷ []);
}

-- An entry that nobody asked for.
abbrev pub enters_unasked : Execution
enters_unasked = record right { requests = [] }

-- An entry that was asked for later.
abbrev pub enters_before_it_is_asked : Execution
enters_before_it_is_asked = record right { requests = asks 2 0 1 get ∷ [] }

-- A request of a later event than that of an entry, with the length before that entry.
abbrev pub asks_as_if_nothing_stood : Execution
asks_as_if_nothing_stood = record right { requests = asks 2 0 2 get ∷ [] }

-- A call that stands nowhere printed.
abbrev pub makes_a_call_up : Execution
makes_a_call_up = record right { effects = opening ∷ [] }

-- A call that stands printed, and is none.
abbrev pub forgets_a_call : Execution
forgets_a_call = record right { calls = [] }

-- A request for what the thread called before.
abbrev pub asks_for_an_older_call : Execution
asks_for_an_older_call = record nowhere {
  effects = opening ∷ shows 1 (call_of increments) [] [] ∷ shows 2 (call_of gets) [] [] ∷ [];
  calls = makes 1 increments ∷ makes 2 gets ∷ [];
  requests = asks 2 0 1 add ∷ [];
}

-- Two requests for one call.
abbrev pub asks_twice : Execution
asks_twice = record right { effects = opening ∷ shows 1 (call_of increments) [] [] ∷ []; calls = makes 1 increments ∷ []; requests = asks 1 0 1 add ∷ asks 1 1 2 add ∷ [] }

-- Two requests of one number.
abbrev pub takes_a_number_twice : Execution
takes_a_number_twice = record right { requests = asks 1 0 1 get ∷ asks 2 1 1 get ∷ [] }

-- A call counts down a round that it was not told.
abbrev pub counts_an_older_round : Execution
counts_an_older_round = record nowhere {
  effects = opening ∷ shows 1 (call_of (user.Latch a latch_call.Down)) [] [] ∷ [];
  calls = makes 1 (user.Latch a latch_call.Down) ∷ [];
  requests = asks 1 1 2 (op.Latch (97 ∷ []) latch.Round) ∷ asks 1 2 3 (op.Latch (97 ∷ []) (latch.Down 0)) ∷ [];
  ends = is_told 1 2 2 one_is ∷ [];
}

-- An answer to a request that nobody made.
abbrev pub answers_nobody : Execution
answers_nobody = record right { ends = is_told 1 1 2 zero_is ∷ [] }

-- An answer that the machine does not give.
abbrev pub answers_at_will : Execution
answers_at_will = record right { ends = is_told 1 1 1 one_is ∷ [] }

-- An answer before its entry stands.
abbrev pub answers_too_early : Execution
answers_too_early = record right { ends = is_told 1 0 1 zero_is ∷ [] }

-- A request that is answered twice.
abbrev pub answers_twice : Execution
answers_twice = record right { ends = is_told 1 1 1 zero_is ∷ is_told 1 1 1 zero_is ∷ [] }

-- A call that returns twice, in one event.
abbrev pub returns_twice : Execution
returns_twice = record right { effects = opening ∷ shows 1 (call_of gets) [] (gives 1 zero_is ∷ gives 1 zero_is ∷ []) ∷ [] }

-- A return of a thread that made no call.
abbrev pub returns_to_nobody : Execution
returns_to_nobody = record right { calls = [] }

-- A return by the request before the last one.
abbrev pub returns_by_an_older_request : Execution
returns_by_an_older_request = record right {
  effects = opening ∷ shows 1 (call_of locks) (opens 1) (gives 1 (answer.Session 1) ∷ []) ∷ [];
  calls = makes 1 locks ∷ [];
  requests = asks 1 0 1 (op.Session session.Open) ∷ asks 1 1 2 (acquire 1) ∷ [];
}

-- A call that asks nothing returns under the number of an earlier request.
abbrev pub takes_an_old_number : Execution
takes_an_old_number = record right {
  effects = opening ∷ shows 1 (call_of gets) [] (gives 1 zero_is ∷ []) ∷ shows 2 (call_of (user.CloseSession None)) [] (gives 1 answer.Ok ∷ []) ∷ [];
  calls = makes 1 gets ∷ makes 2 (user.CloseSession None) ∷ [];
}

-- A return that tells the session which the call only needed.
abbrev pub returns_what_it_needed : Execution
returns_what_it_needed = record nowhere {
  effects = opening ∷ shows 1 (call_of locks) (opens 1) (gives 1 (answer.Session 1) ∷ []) ∷ [];
  calls = makes 1 locks ∷ [];
  requests = asks 1 0 1 (op.Session session.Open) ∷ [];
  ends = is_told 1 1 1 (answer.Session 1) ∷ [];
}

-- A return of an answer that nobody gave.
abbrev pub returns_at_will : Execution
returns_at_will = record right { ends = [] }

-- A close that returns at once where the client has a session.
abbrev pub closes_without_asking : Execution
closes_without_asking = record nowhere {
  effects = opening ∷ shows 1 (call_of locks) (opens 1) [] ∷ shows 2 (call_of (user.CloseSession None)) [] (gives 2 answer.Ok ∷ []) ∷ [];
  calls = makes 1 locks ∷ makes 2 (user.CloseSession None) ∷ [];
  requests = asks 1 0 1 (op.Session session.Open) ∷ [];
  ends = is_told 1 1 1 (answer.Session 1) ∷ [];
}

-- A call that is given up one millisecond before its deadline.
abbrev pub gives_up_early : Execution
gives_up_early = record nowhere {
  effects = opening ∷ shows 1 (call_of gets) [] [] ∷ shows 2 (event.ClientTick (client 1) 59999) [] (gives 1 (answer.Indeterminate ended_by.Deadline) ∷ []) ∷ [];
  calls = makes 1 gets ∷ [];
  requests = asks 1 0 1 get ∷ [];
}

-- A call that is given up at the deadline of an earlier call.
abbrev pub gives_up_for_an_older_call : Execution
gives_up_for_an_older_call = record nowhere {
  effects = opening ∷ shows 1 (call_of gets) [] [] ∷ shows 2 (event.ClientTick (client 1) 59999) [] [] ∷ shows 3 (call_of gets) [] []
      ∷ shows 4 (event.ClientTick (client 1) 1) [] (gives 2 (answer.Indeterminate ended_by.Deadline) ∷ []) ∷ [];
  calls = makes 1 gets ∷ makes 3 gets ∷ [];
  requests = asks 1 0 1 get ∷ asks 3 1 2 get ∷ [];
}

-- A call that waits as long as it takes, and is given up.
abbrev pub gives_up_without_a_deadline : Execution
gives_up_without_a_deadline = record nowhere {
  effects = opening ∷ shows 1 (call_of locks) [] [] ∷ shows 2 (event.ClientTick (client 1) 99999) [] (gives 1 (answer.Indeterminate ended_by.Deadline) ∷ []) ∷ [];
  calls = makes 1 locks ∷ [];
  requests = asks 1 0 1 (acquire 1) ∷ [];
}

-- Ownership is lost of a lock that was given back.
abbrev pub loses_what_it_gave_back : Execution
loses_what_it_gave_back = record nowhere {
  effects = opening ∷ shows 1 (call_of (user.Lock a lock_call.Unlock)) [] (gives 4 answer.OwnershipLost ∷ []) ∷ [];
  calls = makes 1 (user.Lock a lock_call.Unlock) ∷ [];
  requests = asks 1 0 2 (acquire 1) ∷ asks 1 0 3 (release 1) ∷ asks 1 0 4 (release 1) ∷ [];
  ends = is_told 1 0 2 (answer.Fence 2) ∷ is_told 1 0 3 answer.Ok ∷ is_told 1 0 4 (answer.SessionExpired 1) ∷ [];
}

-- A session expires in which a thread holds a lock, and the thread is told that alone.
abbrev pub hides_the_loss : Execution
hides_the_loss = record nowhere {
  effects = opening ∷ shows 1 (call_of (user.Lock a lock_call.Unlock)) [] (gives 3 (answer.SessionExpired 1) ∷ []) ∷ [];
  calls = makes 1 (user.Lock a lock_call.Unlock) ∷ [];
  requests = asks 1 0 2 (acquire 1) ∷ asks 1 0 3 (release 1) ∷ [];
  ends = is_told 1 0 2 (answer.Fence 2) ∷ is_told 1 0 3 (answer.SessionExpired 1) ∷ [];
}

-- A session is told that lets a call go on, and the call asks no more.
abbrev pub goes_nowhere : Execution
goes_nowhere = record nowhere {
  effects = opening ∷ shows 1 (call_of locks) (opens 1) [] ∷ [];
  calls = makes 1 locks ∷ [];
  requests = asks 1 0 1 (op.Session session.Open) ∷ [];
  ends = is_told 1 1 1 (answer.Session 1) ∷ [];
}

-- A line of the schedule that does not happen.
abbrev pub skips_a_line : Execution
skips_a_line = nowhere

-- An event under the number of another.
abbrev pub counts_wrongly : Execution
counts_wrongly = record right { effects = opening ∷ shows 2 (call_of gets) [] (gives 1 zero_is ∷ []) ∷ [] }

-- A call that is ignored, and returns.
abbrev pub ignores_and_returns : Execution
ignores_and_returns = record right { effects = opening ∷ record (shows 1 (call_of gets) [] (gives 1 zero_is ∷ [])) { ignored = Some ignored.NoSuchClient } ∷ [] }

-- A request begins in an event that is ignored.
abbrev pub asks_in_an_ignored_event : Execution
asks_in_an_ignored_event = record right { effects = opening ∷ record (shows 1 (call_of gets) [] []) { ignored = Some ignored.NoSuchClient } ∷ [] }

-- A session stands printed as opened that no client was told.
abbrev pub opens_what_nobody_asked : Execution
opens_what_nobody_asked = record right { effects = opening ∷ shows 1 (call_of gets) (opens 1) (gives 1 zero_is ∷ []) ∷ [] }

-- A client is told a session that stands nowhere printed.
abbrev pub hides_a_session : Execution
hides_a_session = record nowhere {
  effects = opening ∷ shows 1 (call_of locks) [] [] ∷ [];
  calls = makes 1 locks ∷ [];
  requests = asks 1 0 1 (op.Session session.Open) ∷ [];
  ends = is_told 1 1 1 (answer.Session 1) ∷ [];
}

-- A call that is answered, and does not return.
abbrev pub never_returns : Execution
never_returns = record right { effects = opening ∷ shows 1 (call_of gets) [] [] ∷ [] }

-- A call of a client that there is, ignored as if there were none.
abbrev pub ignores_a_client : Execution
ignores_a_client = record nowhere { effects = opening ∷ record (shows 1 (call_of gets) [] []) { ignored = Some ignored.NoSuchClient } ∷ [] }

-- A call of a thread that is idle, ignored as if it were busy.
abbrev pub ignores_an_idle_thread : Execution
ignores_an_idle_thread = record nowhere { effects = opening ∷ record (shows 1 (call_of gets) [] []) { ignored = Some (ignored.ThreadBusy 1) } ∷ [] }

-- A call that asks nothing, and does not return.
abbrev pub does_nothing : Execution
does_nothing = record nowhere { effects = opening ∷ shows 1 (call_of gets) [] [] ∷ []; calls = makes 1 gets ∷ [] }

-- A request that is not committed.
abbrev pub commits_nothing : Execution
commits_nothing = record right { histories = [] }

-- An answer that is not handed on.
abbrev pub keeps_an_answer : Execution
keeps_an_answer = record right { effects = opening ∷ shows 1 (call_of gets) [] [] ∷ []; ends = [] }

-- ---- the law

abbrev pub one_client : Plan
one_client = record { members = 0; size = 1; clients = 1; snapshot = None; groups = None; limits = []; reads = None }

-- Each is refused by the promise that names it; and what is right here is what happens.
pub record AreRefused : Type 0 where
  pub right_is : execution_of (record { plan = one_client; lines = line.One (call_of gets) ∷ [] }) Settled ≡ right
  -- histories and entries
  pub two_histories : HistoriesStand tells_two_histories.histories → ⊥
  pub wrong_order : EventsRise (history enters_in_the_wrong_order default_group) → ⊥
  pub session_to_come : IsFullyOrderly (entries_of (history closes_a_session_to_come default_group)) → ⊥
  pub anothers_session : NamesOwnSessions (entries_of (history closes_anothers_session default_group)) → ⊥
  pub unasked : EntriesAreAsked one_client enters_unasked → ⊥
  pub before_asked : EntriesAreAsked one_client enters_before_it_is_asked → ⊥
  pub lengths : LengthsAreTrue asks_as_if_nothing_stood → ⊥
  pub listed : RowsAreInOrder lists_in_the_wrong_order → ⊥
  -- calls and requests
  pub made_up : CallsStand makes_a_call_up → ⊥
  pub forgotten : CallsStand forgets_a_call → ⊥
  pub older_call : Requested one_client asks_for_an_older_call → ⊥
  pub asked_twice : AsksItselfOnce one_client asks_twice → ⊥
  pub number_twice : NumbersRise takes_a_number_twice.requests → ⊥
  pub older_round : RoundsAreTold counts_an_older_round → ⊥
  -- answers
  pub nobody : AllAnswered one_client answers_nobody → ⊥
  pub at_will : AllAnswered one_client answers_at_will → ⊥
  pub too_early : AllAnswered one_client answers_too_early → ⊥
  pub answered_twice : EndsOnce answers_twice.ends → ⊥
  pub gone_nowhere : GoesOn one_client goes_nowhere → ⊥
  -- returns
  pub returned_twice : ReturnsOnce one_client returns_twice → ⊥
  pub to_nobody : ReturnsOnce one_client returns_to_nobody → ⊥
  pub older_request : ReturnsOnce one_client returns_by_an_older_request → ⊥
  pub old_number : ReturnsOnce one_client takes_an_old_number → ⊥
  pub needed : AllReturnsTell one_client returns_what_it_needed → ⊥
  pub untold : AllReturnsTell one_client returns_at_will → ⊥
  pub closed : AllReturnsTell one_client closes_without_asking → ⊥
  pub given_back : AllReturnsTell one_client loses_what_it_gave_back → ⊥
  pub loss_hidden : AllReturnsTell one_client hides_the_loss → ⊥
  pub early : AllReturnsTell one_client gives_up_early → ⊥
  pub older_deadline : AllReturnsTell one_client gives_up_for_an_older_call → ⊥
  pub no_deadline : AllReturnsTell one_client gives_up_without_a_deadline → ⊥
  -- what is printed
  pub skipped : FollowsLines (line.One (call_of gets) ∷ []) skips_a_line → ⊥
  pub counted : EventsTell counts_wrongly → ⊥
  pub not_quiet : EventsTell ignores_and_returns → ⊥
  pub asked_ignored : EventsTell asks_in_an_ignored_event → ⊥
  pub not_asked : EventsTell opens_what_nobody_asked → ⊥
  pub hidden : EventsTell hides_a_session → ⊥
  pub not_returned : EventsTell never_returns → ⊥
  pub ignored_client : ClientsAct one_client ignores_a_client → ⊥
  pub ignored_thread : ClientsAct one_client ignores_an_idle_thread → ⊥
  pub nothing : ClientsAct one_client does_nothing → ⊥
  -- what happens at once
  pub not_committed : (lines : List Line) → IsPrompt one_client lines commits_nothing → ⊥
  pub kept : (lines : List Line) → IsPrompt one_client lines keeps_an_answer → ⊥
