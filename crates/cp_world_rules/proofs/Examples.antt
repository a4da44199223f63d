-- Schedules, computed: what each event shows, and what entered the history.
use Rattle.std.proofs.Common.{◌≡◌, ℕ, ◌+◌, true, false, List, [], ◌∷◌, map, Some, None, Option, refl}
use Rattle.std.specs.Prelude.{pos, negsuc}
use Rattle.cp_base.specs.Identifiers.{replay_id}
use Rattle.cp_base.specs.declared.identifier.ClientNo.{ClientNo}
use Rattle.cp_answers.specs.declared.answer.Answer.{Answer}
use Rattle.cp_answers.specs.declared.answer.Answer.TheVariants as answer
use Rattle.cp_answers.specs.declared.argument.Argument.TheVariants as argument
use Rattle.cp_answers.specs.declared.ended_by.EndedBy.TheVariants as ended_by
use Rattle.cp_ops.specs.declared.entry.Entry.TheVariants as entry
use Rattle.cp_op_values.specs.declared.kind.Kind.TheVariants as kind
use Rattle.cp_object_ops.specs.declared.latch_op.LatchOp.TheVariants as latch
use Rattle.cp_object_ops.specs.declared.lock_op.LockOp.TheVariants as lock
use Rattle.cp_object_ops.specs.declared.long_op.LongOp.TheVariants as long
use Rattle.cp_object_ops.specs.declared.map_op.MapOp.TheVariants as map_op
use Rattle.cp_ops.specs.declared.op.Op.{Op}
use Rattle.cp_ops.specs.declared.op.Op.TheVariants as op
use Rattle.cp_object_ops.specs.declared.ref_op.RefOp.TheVariants as ref
use Rattle.cp_object_ops.specs.declared.sem_op.SemOp.TheVariants as sem
use Rattle.cp_ops.specs.declared.session_op.SessionOp.TheVariants as session
use Rattle.cp_op_values.specs.declared.wish.Wish.TheVariants as wish
use Rattle.cp_events.specs.declared.effects.Effects.{Effects}
use Rattle.cp_events.specs.declared.effects.Ending.TheVariants as ending
use Rattle.cp_events.specs.declared.effects.Ignored.{Ignored}
use Rattle.cp_events.specs.declared.effects.Ignored.TheVariants as ignored
use Rattle.cp_events.specs.declared.effects.Opened.{Opened}
use Rattle.cp_events.specs.declared.effects.Return.{Return}
use Rattle.cp_events.specs.declared.event.Event.{Event}
use Rattle.cp_events.specs.declared.event.Event.TheVariants as event
use Rattle.cp_events.specs.declared.object.Object.{Object}
use Rattle.cp_events.specs.declared.plan.HoldLimit.{HoldLimit}
use Rattle.cp_events.specs.declared.plan.Plan.{Plan}
use Rattle.cp_events.specs.declared.schedule.Line.{Line}
use Rattle.cp_events.specs.declared.schedule.Line.TheVariants as line
use Rattle.cp_events.specs.declared.user_op.LatchCall.TheVariants as latch_call
use Rattle.cp_events.specs.declared.user_op.LockCall.TheVariants as lock_call
use Rattle.cp_events.specs.declared.user_op.LongCall.TheVariants as long_call
use Rattle.cp_events.specs.declared.user_op.RefCall.TheVariants as ref_call
use Rattle.cp_events.specs.declared.user_op.SemCall.TheVariants as sem_call
use Rattle.cp_events.specs.declared.user_op.UserOp.{UserOp}
use Rattle.cp_events.specs.declared.user_op.UserOp.TheVariants as user
use Rattle.cp_world_rules.specs.Rows.{Committed}
use Rattle.cp_world_rules.specs.World.{shows_nothing}
use Rattle.cp_world_rules.specs.Execution.{Settled, execution_of, histories_of}

-- a header with so many clients, and no members
abbrev pub plan_of : ℕ → List HoldLimit → Plan
plan_of clients limits = record { members = 0; size = 1; clients = clients; snapshot = None; groups = None; limits = limits; reads = None }

abbrev pub client : ℕ → ClientNo
client n = record { 0 = n }

-- an event, and what it shows
pub record Shows : Type 0 where
  pub event : Event
  pub ignored : Option Ignored
  pub opened : List (ClientNo × Opened)
  pub returns : List (ClientNo × Return)

abbrev pub calls : ℕ → ℕ → UserOp → List (ClientNo × Opened) → List (ClientNo × Return) → Shows
calls c t o opened returns = record { event = event.Call (client c) (record { 0 = t }) o; ignored = None; opened = opened; returns = returns }

abbrev pub ticks : ℕ → ℕ → List (ClientNo × Return) → Shows
ticks c ms returns = record { event = event.ClientTick (client c) ms; ignored = None; opened = []; returns = returns }

abbrev pub is_ignored : Event → Ignored → Shows
is_ignored e cause = record { event = e; ignored = Some cause; opened = []; returns = [] }

abbrev pub opened : ℕ → ℕ → List (ClientNo × Opened)
opened c s = (client c, record { group = record { 0 = 1 }; session = s }) ∷ []

abbrev pub told : ℕ → ℕ → ℕ → Answer → ClientNo × Return
told c t n a = (client c, record { thread = record { 0 = t }; number = n; ending = ending.Answered a })

abbrev pub gives : ℕ → ℕ → ℕ → Answer → List (ClientNo × Return)
gives c t n a = told c t n a ∷ []

abbrev pub lines_of : List Shows → List Line
lines_of steps = map (λ s. line.One s.event) steps

abbrev pub effects_from : ℕ → List Shows → List Effects
effects_from n [] = []
effects_from n (s ∷ steps) = record { number = n; event = s.event; ignored = s.ignored; opened = s.opened; returns = s.returns } ∷ effects_from (n + 1) steps

abbrev pub Prints : ℕ → List HoldLimit → List Shows → Type 0
Prints clients limits steps = (execution_of (record { plan = plan_of clients limits; lines = lines_of steps }) Settled).effects ≡ shows_nothing 0 event.Open ∷ effects_from 1 steps

-- an entry: the event in which it was committed, client, thread, number and operation
abbrev pub enters : ℕ → ℕ → ℕ → ℕ → Op → Committed
enters e c t n o = record { event = e; entry = entry.Call (record { client = replay_id (client c); thread = record { 0 = t }; number = n }) o }

abbrev pub Commits : ℕ → List HoldLimit → List Shows → List Committed → Type 0
Commits clients limits steps history = (execution_of (record { plan = plan_of clients limits; lines = lines_of steps }) Settled).histories ≡ histories_of history

abbrev pub at : ℕ → Object
at letter = record { name = letter ∷ []; group = None }

abbrev pub a : Object
a = at 97

abbrev pub d : Object
d = at 100

abbrev pub j : Object
j = at 106

abbrev pub k : Object
k = at 107

abbrev pub m : Object
m = at 109

abbrev pub r : Object
r = at 114

abbrev pub s : Object
s = at 115

-- Sums.
abbrev pub sums : List Shows
sums = calls 1 1 (user.Long a (long_call.Plain (long.Set (pos 9223372036854775807)))) [] (gives 1 1 1 answer.Ok)
    ∷ calls 1 1 (user.Long a (long_call.Plain (long.Add (pos 1)))) [] (gives 1 1 2 (answer.Value (negsuc 9223372036854775807)))
    ∷ calls 1 1 (user.Long a long_call.Dec) [] (gives 1 1 3 (answer.Value (pos 9223372036854775807)))
    ∷ []

pub sums_wrap : Prints 1 [] sums
sums_wrap = refl

pub sums_enter : Commits 1 [] sums (
    enters 1 1 1 1 (op.Long a.name (long.Set (pos 9223372036854775807)))
    ∷ enters 2 1 1 2 (op.Long a.name (long.Add (pos 1)))
    ∷ enters 3 1 1 3 (op.Long a.name (long.Add (negsuc 0)))
    ∷ [])
sums_enter = refl

-- A lock that a thread may hold twice.
abbrev pub limited : List HoldLimit
limited = record { lock = k.name; holds = 2 } ∷ []

abbrev pub thrice : List Shows
thrice = calls 1 1 (user.Lock k lock_call.Lock) (opened 1 1) (gives 1 1 2 (answer.Fence 2))
    ∷ calls 1 1 (user.Lock k lock_call.Lock) [] (gives 1 1 3 (answer.Fence 2))
    ∷ calls 1 1 (user.Lock k lock_call.Lock) [] (gives 1 1 4 (answer.LimitReached 2))
    ∷ []

pub holds_end_at_their_limit : Prints 1 limited thrice
holds_end_at_their_limit = refl

pub holds_enter : Commits 1 limited thrice (
    enters 1 1 1 1 (op.Session session.Open)
    ∷ enters 1 1 1 2 (op.Lock k.name (lock.Acquire 1 2 wish.NoLimit))
    ∷ enters 2 1 1 3 (op.Lock k.name (lock.Acquire 1 2 wish.NoLimit))
    ∷ enters 3 1 1 4 (op.Lock k.name (lock.Acquire 1 2 wish.NoLimit))
    ∷ [])
holds_enter = refl

-- Who holds a lock no more can't give it back.
pub owner_gives_back : Prints 1 [] (
    calls 1 1 (user.Lock k lock_call.Lock) (opened 1 1) (gives 1 1 2 (answer.Fence 2))
    ∷ calls 1 1 (user.Lock k lock_call.Unlock) [] (gives 1 1 3 answer.Ok)
    ∷ calls 1 1 (user.Lock k lock_call.Unlock) [] (gives 1 1 4 answer.NotOwner)
    ∷ [])
owner_gives_back = refl

-- A client closes its session, and a thread of it learns later that it lost its lock.
abbrev pub closing : List Shows
closing = calls 1 1 (user.Lock k lock_call.Lock) (opened 1 1) (gives 1 1 2 (answer.Fence 2))
    ∷ calls 2 1 (user.Lock k lock_call.Lock) (opened 2 3) []
    ∷ calls 1 1 (user.CloseSession None) [] (told 1 1 3 answer.Ok ∷ told 2 1 2 (answer.Fence 5) ∷ [])
    ∷ calls 1 1 (user.Lock k lock_call.Unlock) [] (gives 1 1 4 answer.OwnershipLost)
    ∷ calls 1 1 (user.CloseSession None) [] (gives 1 1 5 answer.Ok)
    ∷ []

pub ownership_is_lost : Prints 2 [] closing
ownership_is_lost = refl

pub closing_enters : Commits 2 [] closing (
    enters 1 1 1 1 (op.Session session.Open)
    ∷ enters 1 1 1 2 (op.Lock k.name (lock.Acquire 1 0 wish.NoLimit))
    ∷ enters 2 2 1 1 (op.Session session.Open)
    ∷ enters 2 2 1 2 (op.Lock k.name (lock.Acquire 3 0 wish.NoLimit))
    ∷ enters 3 1 1 3 (op.Session (session.Close 1))
    ∷ enters 4 1 1 4 (op.Lock k.name (lock.Release 1))
    ∷ [])
closing_enters = refl

-- Permits go to the waiters in their order.
abbrev pub queueing : List Shows
queueing = calls 1 1 (user.Sem s (sem_call.Init 2)) [] (gives 1 1 1 (answer.Bool true))
    ∷ calls 1 1 (user.Sem s (sem_call.Acquire 2)) (opened 1 2) (gives 1 1 3 answer.Ok)
    ∷ calls 2 1 (user.Sem s (sem_call.Acquire 2)) (opened 2 4) []
    ∷ calls 3 1 (user.Sem s (sem_call.Acquire 1)) (opened 3 6) []
    ∷ calls 1 1 (user.Sem s (sem_call.Release 1)) [] (gives 1 1 4 answer.Ok)
    ∷ calls 4 1 (user.Sem s (sem_call.Try 1 0)) (opened 4 9) (gives 4 1 2 answer.TimedOut)
    ∷ calls 1 1 (user.Sem s (sem_call.Release 1)) [] (told 1 1 5 answer.Ok ∷ told 2 1 2 answer.Ok ∷ [])
    ∷ []

pub permits_go_in_order : Prints 4 [] queueing
permits_go_in_order = refl

pub queueing_enters : Commits 4 [] queueing (
    enters 1 1 1 1 (op.Sem s.name (sem.Init 2))
    ∷ enters 2 1 1 2 (op.Session session.Open)
    ∷ enters 2 1 1 3 (op.Sem s.name (sem.Acquire 2 2 wish.NoLimit))
    ∷ enters 3 2 1 1 (op.Session session.Open)
    ∷ enters 3 2 1 2 (op.Sem s.name (sem.Acquire 4 2 wish.NoLimit))
    ∷ enters 4 3 1 1 (op.Session session.Open)
    ∷ enters 4 3 1 2 (op.Sem s.name (sem.Acquire 6 1 wish.NoLimit))
    ∷ enters 5 1 1 4 (op.Sem s.name (sem.Release 2 1))
    ∷ enters 6 4 1 1 (op.Session session.Open)
    ∷ enters 6 4 1 2 (op.Sem s.name (sem.Acquire 9 1 (wish.Within 0)))
    ∷ enters 7 1 1 5 (op.Sem s.name (sem.Release 2 1))
    ∷ [])
queueing_enters = refl

-- Permits of sessions, and permits of nobody.
abbrev pub two_kinds : List Shows
two_kinds = calls 1 1 (user.Sem s (sem_call.Init 1)) [] (gives 1 1 1 (answer.Bool true))
    ∷ calls 1 1 (user.Sem s (sem_call.Acquire 1)) (opened 1 2) (gives 1 1 3 answer.Ok)
    ∷ calls 1 1 (user.Sem s (sem_call.Release 2)) [] (gives 1 1 4 (answer.NotHeld 1))
    ∷ calls 2 1 (user.Jsem j (sem_call.Init 0)) [] (gives 2 1 1 (answer.Bool true))
    ∷ calls 1 1 (user.Jsem j (sem_call.Acquire 1)) [] []
    ∷ calls 2 1 (user.Jsem j (sem_call.Release 1)) [] (told 2 1 2 answer.Ok ∷ told 1 1 5 answer.Ok ∷ [])
    ∷ calls 2 1 (user.Jsem j (sem_call.Release 1)) [] (gives 2 1 3 answer.Ok)
    ∷ calls 1 1 (user.Jsem j sem_call.Available) [] (gives 1 1 6 (answer.Value (pos 1)))
    ∷ []

pub sessions_hold_permits : Prints 2 [] two_kinds
sessions_hold_permits = refl

pub two_kinds_enter : Commits 2 [] two_kinds (
    enters 1 1 1 1 (op.Sem s.name (sem.Init 1))
    ∷ enters 2 1 1 2 (op.Session session.Open)
    ∷ enters 2 1 1 3 (op.Sem s.name (sem.Acquire 2 1 wish.NoLimit))
    ∷ enters 3 1 1 4 (op.Sem s.name (sem.Release 2 2))
    ∷ enters 4 2 1 1 (op.Jsem j.name (sem.Init 0))
    ∷ enters 5 1 1 5 (op.Jsem j.name (sem.Acquire 0 1 wish.NoLimit))
    ∷ enters 6 2 1 2 (op.Jsem j.name (sem.Release 0 1))
    ∷ enters 7 2 1 3 (op.Jsem j.name (sem.Release 0 1))
    ∷ enters 8 1 1 6 (op.Jsem j.name sem.Available)
    ∷ [])
two_kinds_enter = refl

-- A latch counts down in the round that a thread asks for first.
abbrev pub counting : List Shows
counting = calls 1 1 (user.Latch d (latch_call.Set 2)) [] (gives 1 1 1 (answer.Bool true))
    ∷ calls 2 1 (user.Latch d (latch_call.Await 5000)) [] []
    ∷ calls 1 1 (user.Latch d (latch_call.Set 3)) [] (gives 1 1 2 (answer.Bool false))
    ∷ calls 1 1 (user.Latch d latch_call.Down) [] (gives 1 1 4 answer.Ok)
    ∷ calls 1 1 (user.Latch d latch_call.Down) [] (told 1 1 6 answer.Ok ∷ told 2 1 1 (answer.Bool true) ∷ [])
    ∷ calls 1 1 (user.Latch d latch_call.Count) [] (gives 1 1 7 (answer.Value (pos 0)))
    ∷ calls 1 1 (user.Latch d (latch_call.Set 1)) [] (gives 1 1 8 (answer.Bool true))
    ∷ []

pub rounds_are_asked_first : Prints 2 [] counting
rounds_are_asked_first = refl

pub counting_enters : Commits 2 [] counting (
    enters 1 1 1 1 (op.Latch d.name (latch.Set 2))
    ∷ enters 2 2 1 1 (op.Latch d.name (latch.Await 5000))
    ∷ enters 3 1 1 2 (op.Latch d.name (latch.Set 3))
    ∷ enters 4 1 1 3 (op.Latch d.name latch.Round)
    ∷ enters 4 1 1 4 (op.Latch d.name (latch.Down 1))
    ∷ enters 5 1 1 5 (op.Latch d.name latch.Round)
    ∷ enters 5 1 1 6 (op.Latch d.name (latch.Down 1))
    ∷ enters 6 1 1 7 (op.Latch d.name latch.Count)
    ∷ enters 7 1 1 8 (op.Latch d.name (latch.Set 1))
    ∷ [])
counting_enters = refl

-- A reference is null or bytes.
abbrev pub references : List Shows
references = calls 1 1 (user.Ref r (ref_call.Plain (ref.Set (Some (0 ∷ 255 ∷ []))))) [] (gives 1 1 1 answer.Ok)
    ∷ calls 1 1 (user.Ref r (ref_call.Plain (ref.Cas (Some (0 ∷ 255 ∷ [])) None))) [] (gives 1 1 2 (answer.Bool true))
    ∷ calls 1 1 (user.Ref r ref_call.IsNull) [] (gives 1 1 3 (answer.Bool true))
    ∷ calls 1 1 (user.Destroy kind.Ref r) [] (gives 1 1 4 answer.Ok)
    ∷ calls 1 1 (user.Ref r (ref_call.Plain ref.Get)) [] (gives 1 1 5 answer.ObjectDestroyed)
    ∷ []

pub references_are_destroyed : Prints 1 [] references
references_are_destroyed = refl

pub references_enter : Commits 1 [] references (
    enters 1 1 1 1 (op.Ref r.name (ref.Set (Some (0 ∷ 255 ∷ []))))
    ∷ enters 2 1 1 2 (op.Ref r.name (ref.Cas (Some (0 ∷ 255 ∷ [])) None))
    ∷ enters 3 1 1 3 (op.Ref r.name (ref.Contains None))
    ∷ enters 4 1 1 4 (op.Destroy kind.Ref r.name)
    ∷ enters 5 1 1 5 (op.Ref r.name ref.Get)
    ∷ [])
references_enter = refl

-- A semaphore that nobody made.
pub semaphore_wants_init : Prints 1 [] (calls 1 1 (user.Sem s (sem_call.Acquire 1)) (opened 1 1) (gives 1 1 2 answer.NotInitialized) ∷ [])
semaphore_wants_init = refl

pub init_enters : Commits 1 [] (calls 1 1 (user.Sem s (sem_call.Acquire 1)) (opened 1 1) (gives 1 1 2 answer.NotInitialized) ∷ []) (
    enters 1 1 1 1 (op.Session session.Open)
    ∷ enters 1 1 1 2 (op.Sem s.name (sem.Acquire 1 1 wish.NoLimit))
    ∷ [])
init_enters = refl

-- A semaphore that would have too many permits.
pub permits_have_an_end : Prints 1 [] (
    calls 1 1 (user.Sem s (sem_call.Init 1)) [] (gives 1 1 1 (answer.Bool true))
    ∷ calls 1 1 (user.Sem s (sem_call.Increase 2147483647)) (opened 1 2) (gives 1 1 3 (answer.BadArgument argument.Overflow))
    ∷ calls 1 1 (user.Sem s sem_call.Available) [] (gives 1 1 4 (answer.Value (pos 1)))
    ∷ [])
permits_have_an_end = refl

-- A map.
pub map_keeps_values : Prints 1 [] (
    calls 1 1 (user.Map m (map_op.Put (1 ∷ []) (170 ∷ []))) [] (gives 1 1 1 (answer.Ref None))
    ∷ calls 1 1 (user.Map m (map_op.PutIfAbsent (1 ∷ []) (187 ∷ []))) [] (gives 1 1 2 (answer.Ref (Some (170 ∷ []))))
    ∷ calls 1 1 (user.Map m (map_op.Cas (1 ∷ []) (170 ∷ []) (204 ∷ []))) [] (gives 1 1 3 (answer.Bool true))
    ∷ calls 1 1 (user.Map m (map_op.Remove (1 ∷ []))) [] (gives 1 1 4 (answer.Ref (Some (204 ∷ []))))
    ∷ calls 1 1 (user.Map m (map_op.Get (1 ∷ []))) [] (gives 1 1 5 (answer.Ref None))
    ∷ calls 1 1 (user.Map m (map_op.Set (1 ∷ []) [])) [] (gives 1 1 6 answer.Ok)
    ∷ calls 1 1 (user.Map m (map_op.Get (1 ∷ []))) [] (gives 1 1 7 (answer.Ref (Some [])))
    ∷ calls 1 1 (user.Destroy kind.Map m) [] (gives 1 1 8 answer.Ok)
    ∷ calls 1 1 (user.Map m (map_op.Get (1 ∷ []))) [] (gives 1 1 9 answer.ObjectDestroyed)
    ∷ [])
map_keeps_values = refl

-- What is ignored.
pub what_is_ignored : Prints 1 [] (
    is_ignored (event.Tick (record { 0 = 1 }) 0) ignored.NoSuchMember
    ∷ is_ignored (event.Crash (record { 0 = 1 })) ignored.NoSuchMember
    ∷ is_ignored (event.CrashAfter (record { 0 = 1 }) 3 0) ignored.NoSuchMember
    ∷ is_ignored (event.Start (record { 0 = 1 })) ignored.NoSuchMember
    ∷ is_ignored (event.Deliver 1) (ignored.NoMessage 0)
    ∷ is_ignored (event.ClientTick (client 2) 1) ignored.NoSuchClient
    ∷ is_ignored (event.Call (client 2) (record { 0 = 1 }) (user.Long a (long_call.Plain long.Get))) ignored.NoSuchClient
    ∷ calls 1 1 (user.Latch d (latch_call.Set 1)) [] (gives 1 1 1 (answer.Bool true))
    ∷ calls 1 1 (user.Latch d (latch_call.Await 5000)) [] []
    ∷ is_ignored (event.Call (client 1) (record { 0 = 1 }) (user.Long a (long_call.Plain long.Get))) (ignored.ThreadBusy 2)
    ∷ calls 1 2 (user.Long a (long_call.Plain long.Get)) [] (gives 1 2 1 (answer.Value (pos 0)))
    ∷ [])
what_is_ignored = refl

-- Lines that settle messages stand for no event.
pub nothing_to_settle : (execution_of (record { plan = plan_of 1 []; lines = line.Settle 5 ∷ line.One (event.Deliver 1) ∷ line.Settle 1 ∷ [] }) Settled).effects ≡ shows_nothing 0 event.Open ∷ effects_from 1 (is_ignored (event.Deliver 1) (ignored.NoMessage 0) ∷ [])
nothing_to_settle = refl

-- A call ends at its deadline. Its wait stays, and the lock is handed to it: so the group counts one hold more than the
-- client. Beats are asked each 5,000 ms.
abbrev pub late : List Shows
late = calls 1 1 (user.Lock k lock_call.Lock) (opened 1 1) (gives 1 1 2 (answer.Fence 2))
    ∷ calls 2 1 (user.Lock k (lock_call.Try 1000)) (opened 2 3) []
    ∷ ticks 2 60999 []
    ∷ ticks 2 1 (gives 2 1 2 (answer.Indeterminate ended_by.Deadline))
    ∷ calls 1 1 (user.Lock k lock_call.Unlock) [] (gives 1 1 3 answer.Ok)
    ∷ calls 2 1 (user.Lock k (lock_call.Try 0)) [] (gives 2 1 3 (answer.Fence 6))
    ∷ calls 2 1 (user.Lock k lock_call.Unlock) [] (gives 2 1 4 answer.Ok)
    ∷ calls 1 1 (user.Lock k (lock_call.Try 0)) [] (gives 1 1 4 answer.TimedOut)
    ∷ ticks 2 4998 []
    ∷ ticks 2 1 []
    ∷ []

pub deadlines_end_calls : Prints 2 [] late
deadlines_end_calls = refl

pub late_enters : Commits 2 [] late (
    enters 1 1 1 1 (op.Session session.Open)
    ∷ enters 1 1 1 2 (op.Lock k.name (lock.Acquire 1 0 wish.NoLimit))
    ∷ enters 2 2 1 1 (op.Session session.Open)
    ∷ enters 2 2 1 2 (op.Lock k.name (lock.Acquire 3 0 (wish.Within 1000)))
    ∷ enters 3 2 0 1 (op.Session (session.Beat 3))
    ∷ enters 5 1 1 3 (op.Lock k.name (lock.Release 1))
    ∷ enters 6 2 1 3 (op.Lock k.name (lock.Acquire 3 0 (wish.Within 0)))
    ∷ enters 7 2 1 4 (op.Lock k.name (lock.Release 3))
    ∷ enters 8 1 1 4 (op.Lock k.name (lock.Acquire 1 0 (wish.Within 0)))
    ∷ enters 10 2 0 2 (op.Session (session.Beat 3))
    ∷ [])
late_enters = refl
