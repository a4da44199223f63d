-- Cases worked out by hand: the plan, the words for what happens and for what is then seen.
use Rattle.std.specs.Prelude.{ℕ, pos, List, [], ◌∷◌, map, Option, Some, None, codes}
use Rattle.cp_answers.specs.declared.answer.Answer.{Answer}
use Rattle.cp_answers.specs.declared.answer.Answer.TheVariants as answer
use Rattle.cp_answers.specs.declared.refusal.Refusal.{Refusal}
use Rattle.cp_answers.specs.declared.ended_by.EndedBy.TheVariants as ended_by
use Rattle.cp_base.specs.declared.identifier.ClientId.{ClientId}
use Rattle.cp_base.specs.Identifiers.{replay_id}
use Rattle.cp_events.specs.declared.effects.Ending.{Ending}
use Rattle.cp_events.specs.declared.effects.Ending.TheVariants as ending
use Rattle.cp_events.specs.declared.effects.Opened.{Opened}
use Rattle.cp_events.specs.declared.effects.Return.{Return}
use Rattle.cp_events.specs.declared.object.Object.{Object}
use Rattle.cp_events.specs.declared.plan.Groups.TheVariants as groups
use Rattle.cp_events.specs.declared.plan.Plan.{Plan}
use Rattle.cp_events.specs.declared.user_op.GroupCall.TheVariants as group_call
use Rattle.cp_events.specs.declared.user_op.LatchCall.TheVariants as latch_call
use Rattle.cp_events.specs.declared.user_op.LockCall.TheVariants as lock_call
use Rattle.cp_events.specs.declared.user_op.LongCall.TheVariants as long_call
use Rattle.cp_events.specs.declared.user_op.SemCall.TheVariants as sem_call
use Rattle.cp_events.specs.declared.user_op.UserOp.{UserOp}
use Rattle.cp_events.specs.declared.user_op.UserOp.TheVariants as user
use Rattle.cp_object_ops.specs.declared.latch_op.LatchOp.TheVariants as latch
use Rattle.cp_object_ops.specs.declared.lock_op.LockOp.TheVariants as lock
use Rattle.cp_object_ops.specs.declared.long_op.LongOp.TheVariants as long
use Rattle.cp_object_ops.specs.declared.sem_op.SemOp.TheVariants as sem
use Rattle.cp_op_values.specs.declared.wish.Wish.TheVariants as wish
use Rattle.cp_ops.specs.declared.group_op.GroupOp.TheVariants as group
use Rattle.cp_ops.specs.declared.op.Op.{Op}
use Rattle.cp_ops.specs.declared.op.Op.TheVariants as op
use Rattle.cp_ops.specs.declared.session_op.SessionOp.TheVariants as session
use Rattle.cp_try_rules.specs.declared.event.Event.{Event}
use Rattle.cp_try_rules.specs.declared.event.Event.TheVariants as event
use Rattle.cp_try_rules.specs.declared.event.Says.TheVariants as says
use Rattle.cp_try_rules.specs.declared.event.Sent.{Sent}
use Rattle.cp_try_rules.specs.Events.{ClientState, first_state, client_steps}
use Rattle.cp_try_rules.specs.Groups.{group_number}
use Rattle.cp_try_rules.specs.Steps.{Step}
use Rattle.cp_try_rules.specs.Ticks.{user_thread}
use Rattle.cp_try_rules.specs.Tries.{says_to}

abbrev pub plan_of : ℕ → Plan
plan_of members = record { members = members; size = 3; clients = 1; snapshot = None; groups = Some groups.Managed; limits = []; reads = None }

abbrev pub me : ClientId
me = replay_id (record { 0 = 1 })

-- What is seen of an event.
pub record Seen : Type 0 where
  pub sent : List Sent
  pub opened : List Opened
  pub returns : List Return

abbrev pub seen_of : Step → Seen
seen_of s = record { sent = s.sent; opened = s.did.opened; returns = s.did.returns }

-- what is seen of each of these events, at a client of three members that was in this state
abbrev pub seen_from : ClientState → List Event → List Seen
seen_from s events = map seen_of (client_steps (plan_of 3) me s events)

-- the same at a new client
abbrev pub seen : List Event → List Seen
seen events = seen_from first_state events

-- ---- what happens

-- thread 1 begins a call
abbrev pub calls : UserOp → Event
calls o = event.Calls (user_thread 1) o

abbrev pub calls_on : ℕ → UserOp → Event
calls_on t o = event.Calls (user_thread t) o

abbrev pub passes : ℕ → Event
passes ms = event.Passes ms

abbrev pub welcomed : ℕ → ℕ → Event
welcomed m r = event.Welcomed m r

-- the thread, the group, the number
abbrev pub answered : ℕ → ℕ → ℕ → Answer → Event
answered t g number a = event.Answered (user_thread t) (group_number g) number a

-- the thread, the attempt, the group, the number
abbrev pub refused : ℕ → ℕ → ℕ → ℕ → Refusal → Event
refused t attempt g number why = event.Refused (user_thread t) attempt (group_number g) number why

-- ---- what is seen

abbrev pub quiet : Seen
quiet = record { sent = []; opened = []; returns = [] }

abbrev pub sends : List Sent → Seen
sends sent = record { sent = sent; opened = []; returns = [] }

abbrev pub hello : ℕ → List Sent
hello m = says_to m says.Hello

-- to this member: the thread, the attempt, the member's restart, the group, the number
abbrev pub request : ℕ → ℕ → ℕ → ℕ → ℕ → ℕ → Op → List Sent
request m t attempt restart g number o = says_to m (says.Asks attempt restart (record {
  group = group_number g;
  call = record { client = me; thread = user_thread t; number = number };
  op = o;
}))

abbrev pub returned : ℕ → ℕ → Ending → Seen
returned t number e = record { sent = []; opened = []; returns = record { thread = user_thread t; number = number; ending = e } ∷ [] }

abbrev pub returns : ℕ → ℕ → Answer → Seen
returns t number a = returned t number (ending.Answered a)

abbrev pub lost : Answer
lost = answer.Indeterminate ended_by.Lost

abbrev pub late : Answer
late = answer.Indeterminate ended_by.Deadline

-- a session is opened, and the next request goes out
abbrev pub opens_and_sends : ℕ → ℕ → List Sent → Seen
opens_and_sends g s sent = record { sent = sent; opened = record { group = group_number g; session = s } ∷ []; returns = [] }

-- ---- calls, and what they ask

-- an object of the group `default`, and one of another group
abbrev pub here : List ℕ → Object
here name = record { name = name; group = None }

abbrev pub there : List ℕ → List ℕ → Object
there name group = record { name = name; group = Some group }

-- a counter: what may not be sent again
abbrev pub add_one : UserOp
add_one = user.Long (here (codes "a")) long_call.Inc

abbrev pub added : Op
added = op.Long (codes "a") (long.Add (pos 1))

-- the owner of a lock: what may be sent again
abbrev pub ask_owner : UserOp
ask_owner = user.Lock (here (codes "k")) lock_call.Owner

abbrev pub owner : Op
owner = op.Lock (codes "k") lock.Owner

abbrev pub try_lock : UserOp
try_lock = user.Lock (here (codes "k")) (lock_call.Try 0)

abbrev pub unlock : UserOp
unlock = user.Lock (here (codes "k")) lock_call.Unlock

abbrev pub acquire : ℕ → Op
acquire s = op.Lock (codes "k") (lock.Acquire s 0 (wish.Within 0))

abbrev pub release : ℕ → Op
release s = op.Lock (codes "k") (lock.Release s)

abbrev pub open_session : Op
open_session = op.Session session.Open

abbrev pub beat : ℕ → Op
beat s = op.Session (session.Beat s)

-- a permit of a semaphore of the group `g`
abbrev pub take_permit : UserOp
take_permit = user.Sem (there (codes "s") (codes "g")) (sem_call.Try 1 0)

abbrev pub taken : ℕ → Op
taken s = op.Sem (codes "s") (sem.Acquire s 1 (wish.Within 0))

abbrev pub create_group : UserOp
create_group = user.Group (group_call.Create (codes "g"))

abbrev pub create : Op
create = op.Group (group.Create (codes "g") 3)

abbrev pub destroy_group : UserOp
destroy_group = user.Group (group_call.Destroy (codes "g"))

abbrev pub destroy : Op
destroy = op.Group (group.Destroy (codes "g"))

-- a latch of a group: its round, and the countdown in it
abbrev pub count_down : Option (List ℕ) → UserOp
count_down group = user.Latch (record { name = codes "d"; group = group }) latch_call.Down

abbrev pub round : Op
round = op.Latch (codes "d") latch.Round

abbrev pub down : ℕ → Op
down n = op.Latch (codes "d") (latch.Down n)

-- METADATA's answer: the group's number and members
abbrev pub is_group : ℕ → List ℕ → Answer
is_group g members = answer.Group (group_number g) members

abbrev pub value : ℕ → Answer
value n = answer.Value (pos n)
