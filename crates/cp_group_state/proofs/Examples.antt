-- Histories, computed: each entry with the answers that it gives.
use Rattle.std.proofs.Common.{◌≡◌, ℕ, Bool, true, false, List, [], ◌∷◌, map, Some, None, refl}
use Rattle.std.specs.Prelude.{pos, negsuc}
use Rattle.cp_base.specs.Identifiers.{replay_id}
use Rattle.cp_base.specs.declared.identifier.Invocation.{Invocation}
use Rattle.cp_op_values.specs.declared.kind.Kind.TheVariants as kind
use Rattle.cp_op_values.specs.declared.wish.Wish.TheVariants as wish
use Rattle.cp_answers.specs.declared.answer.Answer.{Answer}
use Rattle.cp_answers.specs.declared.answer.Answer.TheVariants as answer
use Rattle.cp_answers.specs.declared.argument.Argument.TheVariants as argument
use Rattle.cp_object_ops.specs.declared.long_op.LongOp.TheVariants as long
use Rattle.cp_object_ops.specs.declared.ref_op.RefOp.TheVariants as ref
use Rattle.cp_object_ops.specs.declared.map_op.MapOp.TheVariants as map_op
use Rattle.cp_object_ops.specs.declared.lock_op.LockOp.TheVariants as lock
use Rattle.cp_object_ops.specs.declared.sem_op.SemOp.TheVariants as sem
use Rattle.cp_object_ops.specs.declared.latch_op.LatchOp.TheVariants as latch
use Rattle.cp_ops.specs.declared.session_op.SessionOp.TheVariants as session
use Rattle.cp_ops.specs.declared.op.Op.{Op}
use Rattle.cp_ops.specs.declared.op.Op.TheVariants as op
use Rattle.cp_ops.specs.declared.entry.Entry.{Entry}
use Rattle.cp_ops.specs.declared.entry.Entry.TheVariants as entry
use Rattle.cp_group_state.specs.GroupState.{empty}
use Rattle.cp_group_state.specs.Apply.{run}
use Rattle.cp_group_state.specs.History.{History}
use Rattle.cp_group_state.specs.Repeats.{EntryOrRepeat, Itself, Repeat, without_repeats, run_without_repeats}

-- the call with this number, of a thread of a client
abbrev pub call : ℕ → ℕ → ℕ → Invocation
call client thread number = record { client = replay_id (record { 0 = client }); thread = record { 0 = thread }; number = number }

abbrev pub asks : ℕ → ℕ → ℕ → Op → Entry
asks client thread number o = entry.Call (call client thread number) o

abbrev pub Line : Type 0
Line = Entry × List (Invocation × Answer)

-- a call that is answered at once, and nobody else is
abbrev pub gives : ℕ → ℕ → ℕ → Op → Answer → Line
gives client thread number o a = (asks client thread number o, (call client thread number, a) ∷ [])

-- a call that isn't answered, and nobody else is
abbrev pub waits : ℕ → ℕ → ℕ → Op → Line
waits client thread number o = (asks client thread number o, [])

abbrev pub history_of : List Line → History
history_of lines = map (λ l. l.0) lines

abbrev pub Gives : List Line → Type 0
Gives lines = map (λ x. x.answers) (run 1 (history_of lines) empty) ≡ map (λ l. l.1) lines

-- the answers where repeats stand for later entries
abbrev pub GivesWithoutRepeats : List Line → Type 0
GivesWithoutRepeats lines = map (λ x. x.answers) (run_without_repeats 1 (without_repeats (history_of lines)) empty) ≡ map (λ l. l.1) lines

abbrev pub is_repeat : EntryOrRepeat → Bool
is_repeat (Itself e) = false
is_repeat (Repeat c o) = true

-- which entries are repeats
abbrev pub repeats_in : History → List Bool
repeats_in history = map is_repeat (without_repeats history)

abbrev pub k : List ℕ
k = 107 ∷ []

abbrev pub s : List ℕ
s = 115 ∷ []

abbrev pub j : List ℕ
j = 106 ∷ []

abbrev pub d : List ℕ
d = 100 ∷ []

abbrev pub r : List ℕ
r = 114 ∷ []

abbrev pub m : List ℕ
m = 109 ∷ []

-- Sums wrap.
pub sums_wrap : Gives (
    gives 1 1 1 (op.Long k (long.Set (pos 9223372036854775807))) answer.Ok
    ∷ gives 1 1 2 (op.Long k (long.Add (pos 1))) (answer.Value (negsuc 9223372036854775807))
    ∷ gives 1 1 3 (op.Long k (long.Cas (pos 0) (pos 5))) (answer.Bool false)
    ∷ gives 1 1 4 (op.Long s (long.Cas (pos 0) (pos 5))) (answer.Bool true)
    ∷ gives 1 1 5 (op.Long s (long.GetAdd (pos 2))) (answer.Value (pos 5))
    ∷ gives 1 1 6 (op.Long s long.Get) (answer.Value (pos 7))
    ∷ [])
sums_wrap = refl

-- A reference is null or bytes, and a destroyed name stays so.
pub reference_is_null_or_bytes : Gives (
    gives 1 1 1 (op.Ref r (ref.Set (Some (0 ∷ 255 ∷ [])))) answer.Ok
    ∷ gives 1 1 2 (op.Ref r (ref.Cas (Some (0 ∷ 255 ∷ [])) None)) (answer.Bool true)
    ∷ gives 1 1 3 (op.Ref r (ref.Contains None)) (answer.Bool true)
    ∷ gives 1 1 4 (op.Destroy kind.Ref r) answer.Ok
    ∷ gives 1 1 5 (op.Ref r ref.Get) answer.ObjectDestroyed
    ∷ [])
reference_is_null_or_bytes = refl

-- A map keeps one value under a key.
pub map_keeps_one_value_under_a_key : Gives (
    gives 1 1 1 (op.Map m (map_op.Put (1 ∷ []) (170 ∷ []))) (answer.Ref None)
    ∷ gives 1 1 2 (op.Map m (map_op.PutIfAbsent (1 ∷ []) (187 ∷ []))) (answer.Ref (Some (170 ∷ [])))
    ∷ gives 1 1 3 (op.Map m (map_op.Cas (1 ∷ []) (170 ∷ []) (204 ∷ []))) (answer.Bool true)
    ∷ gives 1 1 4 (op.Map m (map_op.Remove (1 ∷ []))) (answer.Ref (Some (204 ∷ [])))
    ∷ gives 1 1 5 (op.Map m (map_op.Get (1 ∷ []))) (answer.Ref None)
    ∷ gives 1 1 6 (op.Map m (map_op.Set (1 ∷ []) [])) answer.Ok
    ∷ gives 1 1 7 (op.Map m (map_op.Get (1 ∷ []))) (answer.Ref (Some []))
    ∷ gives 1 1 8 (op.Destroy kind.Map m) answer.Ok
    ∷ gives 1 1 9 (op.Map m (map_op.Get (1 ∷ []))) answer.ObjectDestroyed
    ∷ [])
map_keeps_one_value_under_a_key = refl

-- A thread may hold a lock as often as the limit allows, always under one fence.
pub lock_is_reentrant_up_to_its_limit : Gives (
    gives 1 1 1 (op.Session session.Open) (answer.Session 1)
    ∷ gives 1 1 2 (op.Lock k (lock.Acquire 1 2 wish.NoLimit)) (answer.Fence 2)
    ∷ gives 1 1 3 (op.Lock k (lock.Acquire 1 2 wish.NoLimit)) (answer.Fence 2)
    ∷ gives 1 1 4 (op.Lock k (lock.Acquire 1 2 wish.NoLimit)) (answer.LimitReached 2)
    ∷ [])
lock_is_reentrant_up_to_its_limit = refl

-- Who holds a lock no more can't release it.
pub lock_is_released_by_its_owner : Gives (
    gives 1 1 1 (op.Session session.Open) (answer.Session 1)
    ∷ gives 1 1 2 (op.Lock k (lock.Acquire 1 0 wish.NoLimit)) (answer.Fence 2)
    ∷ gives 1 1 3 (op.Lock k (lock.Release 1)) answer.Ok
    ∷ gives 1 1 4 (op.Lock k (lock.Release 1)) answer.NotOwner
    ∷ [])
lock_is_released_by_its_owner = refl

-- Closing a session hands its lock to the first waiter, under the closing index.
pub closing_hands_the_lock_over : Gives (
    gives 1 1 1 (op.Session session.Open) (answer.Session 1)
    ∷ gives 1 1 2 (op.Lock k (lock.Acquire 1 0 wish.NoLimit)) (answer.Fence 2)
    ∷ gives 2 1 1 (op.Session session.Open) (answer.Session 3)
    ∷ waits 2 1 2 (op.Lock k (lock.Acquire 3 0 wish.NoLimit))
    ∷ (asks 1 1 3 (op.Session (session.Close 1)), (call 1 1 3, answer.Ok) ∷ (call 2 1 2, answer.Fence 5) ∷ [])
    ∷ gives 1 1 4 (op.Lock k (lock.Release 1)) (answer.SessionExpired 1)
    ∷ [])
closing_hands_the_lock_over = refl

-- Permits go to the waiters in their order, and a try behind them ends at once.
pub semaphore_serves_in_order : Gives (
    gives 1 1 1 (op.Sem s (sem.Init 2)) (answer.Bool true)
    ∷ gives 1 1 2 (op.Session session.Open) (answer.Session 2)
    ∷ gives 1 1 3 (op.Sem s (sem.Acquire 2 2 wish.NoLimit)) answer.Ok
    ∷ gives 2 1 1 (op.Session session.Open) (answer.Session 4)
    ∷ waits 2 1 2 (op.Sem s (sem.Acquire 4 2 wish.NoLimit))
    ∷ gives 3 1 1 (op.Session session.Open) (answer.Session 6)
    ∷ waits 3 1 2 (op.Sem s (sem.Acquire 6 1 wish.NoLimit))
    ∷ gives 1 1 4 (op.Sem s (sem.Release 2 1)) answer.Ok
    ∷ gives 4 1 1 (op.Session session.Open) (answer.Session 9)
    ∷ gives 4 1 2 (op.Sem s (sem.Acquire 9 1 (wish.Within 0))) answer.TimedOut
    ∷ (asks 1 1 5 (op.Sem s (sem.Release 2 1)), (call 1 1 5, answer.Ok) ∷ (call 2 1 2, answer.Ok) ∷ [])
    ∷ [])
semaphore_serves_in_order = refl

-- A session releases at most what it holds; a semaphore without sessions takes what it is given.
pub semaphore_knows_its_holdings : Gives (
    gives 1 1 1 (op.Sem s (sem.Init 1)) (answer.Bool true)
    ∷ gives 1 1 2 (op.Session session.Open) (answer.Session 2)
    ∷ gives 1 1 3 (op.Sem s (sem.Acquire 2 1 wish.NoLimit)) answer.Ok
    ∷ gives 1 1 4 (op.Sem s (sem.Release 2 2)) (answer.NotHeld 1)
    ∷ gives 2 1 1 (op.Jsem j (sem.Init 0)) (answer.Bool true)
    ∷ waits 1 1 5 (op.Jsem j (sem.Acquire 0 1 wish.NoLimit))
    ∷ (asks 2 1 2 (op.Jsem j (sem.Release 0 1)), (call 2 1 2, answer.Ok) ∷ (call 1 1 5, answer.Ok) ∷ [])
    ∷ gives 2 1 3 (op.Jsem j (sem.Release 0 1)) answer.Ok
    ∷ gives 1 1 6 (op.Jsem j sem.Available) (answer.Value (pos 1))
    ∷ [])
semaphore_knows_its_holdings = refl

-- A semaphore that nobody made answers so.
pub semaphore_wants_init : Gives (
    gives 1 1 1 (op.Session session.Open) (answer.Session 1)
    ∷ gives 1 1 2 (op.Sem s (sem.Acquire 1 1 wish.NoLimit)) answer.NotInitialized
    ∷ [])
semaphore_wants_init = refl

-- The total of a semaphore has a bound.
pub semaphore_has_a_greatest_total : Gives (
    gives 1 1 1 (op.Sem s (sem.Init 1)) (answer.Bool true)
    ∷ gives 1 1 2 (op.Session session.Open) (answer.Session 2)
    ∷ gives 1 1 3 (op.Sem s (sem.Increase 2 2147483647)) (answer.BadArgument argument.Overflow)
    ∷ gives 1 1 4 (op.Sem s sem.Available) (answer.Value (pos 1))
    ∷ [])
semaphore_has_a_greatest_total = refl

-- A latch opens at the last countdown, and its next round is another.
pub latch_counts_down_in_rounds : Gives (
    gives 1 1 1 (op.Latch d (latch.Set 2)) (answer.Bool true)
    ∷ waits 2 1 1 (op.Latch d (latch.Await 5000))
    ∷ gives 1 1 2 (op.Latch d (latch.Set 3)) (answer.Bool false)
    ∷ gives 1 1 3 (op.Latch d latch.Round) (answer.Value (pos 1))
    ∷ gives 1 1 4 (op.Latch d (latch.Down 1)) answer.Ok
    ∷ gives 1 1 5 (op.Latch d latch.Round) (answer.Value (pos 1))
    ∷ (asks 1 1 6 (op.Latch d (latch.Down 1)), (call 1 1 6, answer.Ok) ∷ (call 2 1 1, answer.Bool true) ∷ [])
    ∷ gives 1 1 7 (op.Latch d latch.Count) (answer.Value (pos 0))
    ∷ gives 1 1 8 (op.Latch d (latch.Set 1)) (answer.Bool true)
    ∷ [])
latch_counts_down_in_rounds = refl

-- A countdown that comes again doesn't count, at once or after its round.
pub countdowns_count_once : Gives (
    gives 1 1 1 (op.Latch d (latch.Set 2)) (answer.Bool true)
    ∷ gives 1 1 4 (op.Latch d (latch.Down 1)) answer.Ok
    ∷ gives 1 1 4 (op.Latch d (latch.Down 1)) answer.Ok
    ∷ gives 1 1 5 (op.Latch d latch.Count) (answer.Value (pos 1))
    ∷ gives 1 1 6 (op.Latch d (latch.Down 1)) answer.Ok
    ∷ gives 1 1 8 (op.Latch d (latch.Set 1)) (answer.Bool true)
    ∷ gives 1 1 6 (op.Latch d (latch.Down 1)) answer.Ok
    ∷ gives 1 1 9 (op.Latch d latch.Count) (answer.Value (pos 1))
    ∷ [])
countdowns_count_once = refl

-- a lock's acquire that comes again while it waits, and after it got the lock; the session closes, and it comes again
pub waits_and_comes_again : Gives (
    gives 1 1 1 (op.Session session.Open) (answer.Session 1)
    ∷ gives 1 1 2 (op.Lock k (lock.Acquire 1 0 wish.NoLimit)) (answer.Fence 2)
    ∷ gives 2 1 1 (op.Session session.Open) (answer.Session 3)
    ∷ waits 2 1 2 (op.Lock k (lock.Acquire 3 0 wish.NoLimit))
    ∷ waits 2 1 2 (op.Lock k (lock.Acquire 3 0 wish.NoLimit))
    ∷ (asks 1 1 3 (op.Lock k (lock.Release 1)), (call 1 1 3, answer.Ok) ∷ (call 2 1 2, answer.Fence 6) ∷ [])
    ∷ gives 2 1 2 (op.Lock k (lock.Acquire 3 0 wish.NoLimit)) (answer.Fence 6)
    ∷ gives 1 1 2 (op.Lock k (lock.Acquire 1 0 wish.NoLimit)) (answer.Stale 3)
    ∷ (entry.SessionsExpired ((3, 0) ∷ []), [])
    ∷ gives 2 1 2 (op.Lock k (lock.Acquire 3 0 wish.NoLimit)) (answer.SessionExpired 3)
    ∷ gives 1 1 4 (op.Lock k lock.Owner) answer.Free
    ∷ [])
waits_and_comes_again = refl

-- closing a session serves what it held; expired waits, a destroyed semaphore, a destroyed group
pub closing_serves_what_was_held : Gives (
    gives 1 1 1 (op.Session session.Open) (answer.Session 1)
    ∷ gives 2 1 1 (op.Session session.Open) (answer.Session 2)
    ∷ gives 3 1 1 (op.Session session.Open) (answer.Session 3)
    ∷ gives 1 1 2 (op.Sem s (sem.Init 2)) (answer.Bool true)
    ∷ gives 1 1 3 (op.Sem s (sem.Acquire 1 2 wish.NoLimit)) answer.Ok
    ∷ waits 2 1 2 (op.Sem s (sem.Acquire 2 2 wish.NoLimit))
    ∷ waits 3 1 2 (op.Sem s (sem.Acquire 3 1 wish.NoLimit))
    ∷ (entry.WaitsExpired (call 2 1 2 ∷ []), (call 2 1 2, answer.TimedOut) ∷ [])
    ∷ waits 2 1 3 (op.Sem s (sem.Acquire 2 1 wish.NoLimit))
    ∷ (asks 1 1 4 (op.Session (session.Close 1)), (call 1 1 4, answer.Ok) ∷ (call 3 1 2, answer.Ok) ∷ (call 2 1 3, answer.Ok) ∷ [])
    ∷ gives 1 1 5 (op.Sem s sem.Available) (answer.Value (pos 0))
    ∷ gives 1 1 6 (op.Session session.Open) (answer.Session 12)
    ∷ waits 1 1 7 (op.Sem s (sem.Acquire 12 1 wish.NoLimit))
    ∷ (asks 3 1 3 (op.Destroy kind.Sem s), (call 3 1 3, answer.Ok) ∷ (call 1 1 7, answer.ObjectDestroyed) ∷ [])
    ∷ gives 1 2 1 (op.Sem s sem.Available) answer.ObjectDestroyed
    ∷ (entry.Destroy (record { 0 = 1 }), [])
    ∷ gives 1 2 2 (op.Sem s sem.Available) (answer.GroupDestroyed (record { 0 = 1 }))
    ∷ [])
closing_serves_what_was_held = refl

-- two older waits of one thread on one semaphore: both end before it is served
pub older_waits_end_first : Gives (
    gives 1 1 1 (op.Jsem j (sem.Init 0)) (answer.Bool true)
    ∷ waits 1 1 4 (op.Jsem j (sem.Acquire 0 2 wish.NoLimit))
    ∷ waits 1 1 3 (op.Jsem j (sem.Acquire 0 1 wish.NoLimit))
    ∷ waits 2 1 1 (op.Jsem j (sem.Acquire 0 1 wish.NoLimit))
    ∷ gives 2 2 1 (op.Jsem j (sem.Release 0 1)) answer.Ok
    ∷ (asks 1 1 5 (op.Jsem j sem.Available), (call 1 1 4, answer.WaitCancelled 5) ∷ (call 1 1 3, answer.WaitCancelled 5) ∷ (call 2 1 1, answer.Ok) ∷ (call 1 1 5, answer.Value (pos 0)) ∷ [])
    ∷ [])
older_waits_end_first = refl

-- a session that isn't open closes nothing, also 0
pub close_of_none_ends_no_wait : Gives (
    gives 1 1 1 (op.Jsem j (sem.Init 0)) (answer.Bool true)
    ∷ waits 1 1 2 (op.Jsem j (sem.Acquire 0 2 wish.NoLimit))
    ∷ gives 2 1 1 (op.Session (session.Close 0)) answer.Ok
    ∷ (asks 2 1 2 (op.Jsem j (sem.Release 0 2)), (call 2 1 2, answer.Ok) ∷ (call 1 1 2, answer.Ok) ∷ [])
    ∷ [])
close_of_none_ends_no_wait = refl

-- a fence is told again though the lock was destroyed
pub fence_is_told_again : Gives (
    gives 1 1 1 (op.Session session.Open) (answer.Session 1)
    ∷ gives 1 1 2 (op.Lock k (lock.Acquire 1 0 wish.NoLimit)) (answer.Fence 2)
    ∷ gives 2 1 1 (op.Destroy kind.Lock k) answer.Ok
    ∷ gives 1 1 2 (op.Lock k (lock.Acquire 1 0 wish.NoLimit)) (answer.Fence 2)
    ∷ [])
fence_is_told_again = refl

-- Two older waits on two semaphores, s before j: both end, then those semaphores are served in the same order.
pub semaphores_are_served_as_they_were_left : Gives (
    gives 1 1 1 (op.Jsem j (sem.Init 0)) (answer.Bool true)
    ∷ gives 1 1 2 (op.Jsem s (sem.Init 0)) (answer.Bool true)
    ∷ waits 1 1 4 (op.Jsem s (sem.Acquire 0 2 wish.NoLimit))
    ∷ waits 1 1 3 (op.Jsem j (sem.Acquire 0 2 wish.NoLimit))
    ∷ waits 2 1 1 (op.Jsem j (sem.Acquire 0 1 wish.NoLimit))
    ∷ waits 2 2 1 (op.Jsem s (sem.Acquire 0 1 wish.NoLimit))
    ∷ gives 3 1 1 (op.Jsem j (sem.Release 0 1)) answer.Ok
    ∷ gives 3 1 2 (op.Jsem s (sem.Release 0 1)) answer.Ok
    ∷ (asks 1 1 5 (op.Jsem j sem.Available), (call 1 1 4, answer.WaitCancelled 5) ∷ (call 1 1 3, answer.WaitCancelled 5) ∷ (call 2 2 1, answer.Ok) ∷ (call 2 1 1, answer.Ok) ∷ (call 1 1 5, answer.Value (pos 0)) ∷ [])
    ∷ [])
semaphores_are_served_as_they_were_left = refl

-- A destroyed group stays destroyed, also where a second entry names the number that stands for none.
pub group_stays_destroyed : Gives (
    gives 1 1 1 (op.Session session.Open) (answer.Session 1)
    ∷ (entry.Destroy (record { 0 = 5 }), [])
    ∷ gives 1 1 2 (op.Lock k (lock.Acquire 1 0 wish.NoLimit)) (answer.GroupDestroyed (record { 0 = 5 }))
    ∷ (entry.Destroy (record { 0 = 0 }), [])
    ∷ gives 1 1 2 (op.Lock k (lock.Acquire 1 0 wish.NoLimit)) (answer.GroupDestroyed (record { 0 = 5 }))
    ∷ [])
group_stays_destroyed = refl

-- Repeats in two of these histories.
pub waits_and_comes_again_repeats : repeats_in (history_of (
    gives 1 1 1 (op.Session session.Open) (answer.Session 1)
    ∷ gives 1 1 2 (op.Lock k (lock.Acquire 1 0 wish.NoLimit)) (answer.Fence 2)
    ∷ gives 2 1 1 (op.Session session.Open) (answer.Session 3)
    ∷ waits 2 1 2 (op.Lock k (lock.Acquire 3 0 wish.NoLimit))
    ∷ waits 2 1 2 (op.Lock k (lock.Acquire 3 0 wish.NoLimit))
    ∷ (asks 1 1 3 (op.Lock k (lock.Release 1)), (call 1 1 3, answer.Ok) ∷ (call 2 1 2, answer.Fence 6) ∷ [])
    ∷ gives 2 1 2 (op.Lock k (lock.Acquire 3 0 wish.NoLimit)) (answer.Fence 6)
    ∷ gives 1 1 2 (op.Lock k (lock.Acquire 1 0 wish.NoLimit)) (answer.Stale 3)
    ∷ (entry.SessionsExpired ((3, 0) ∷ []), [])
    ∷ gives 2 1 2 (op.Lock k (lock.Acquire 3 0 wish.NoLimit)) (answer.SessionExpired 3)
    ∷ gives 1 1 4 (op.Lock k lock.Owner) answer.Free
    ∷ [])) ≡ false ∷ false ∷ false ∷ false ∷ true ∷ false ∷ true ∷ true ∷ false ∷ true ∷ false ∷ []
waits_and_comes_again_repeats = refl

pub countdowns_repeat : repeats_in (history_of (
    gives 1 1 1 (op.Latch d (latch.Set 2)) (answer.Bool true)
    ∷ gives 1 1 4 (op.Latch d (latch.Down 1)) answer.Ok
    ∷ gives 1 1 4 (op.Latch d (latch.Down 1)) answer.Ok
    ∷ gives 1 1 5 (op.Latch d latch.Count) (answer.Value (pos 1))
    ∷ gives 1 1 6 (op.Latch d (latch.Down 1)) answer.Ok
    ∷ gives 1 1 8 (op.Latch d (latch.Set 1)) (answer.Bool true)
    ∷ gives 1 1 6 (op.Latch d (latch.Down 1)) answer.Ok
    ∷ gives 1 1 9 (op.Latch d latch.Count) (answer.Value (pos 1))
    ∷ [])) ≡ false ∷ false ∷ true ∷ false ∷ false ∷ false ∷ true ∷ false ∷ []
countdowns_repeat = refl

-- Histories that aren't orderly, in which a call acts twice: the last answer would be another one without repeats.
-- A session is named before it is opened.
pub session_is_named_too_early : Gives (
    gives 1 1 2 (op.Lock k (lock.Acquire 2 0 wish.NoLimit)) (answer.SessionExpired 2)
    ∷ gives 1 1 1 (op.Session session.Open) (answer.Session 2)
    ∷ gives 1 1 2 (op.Lock k (lock.Acquire 2 0 wish.NoLimit)) (answer.Fence 3)
    ∷ gives 1 1 4 (op.Lock k lock.Owner) (answer.Held 2 (record { 0 = 1 }) 1 3)
    ∷ [])
session_is_named_too_early = refl

pub session_is_named_too_early_without_repeats : GivesWithoutRepeats (
    gives 1 1 2 (op.Lock k (lock.Acquire 2 0 wish.NoLimit)) (answer.SessionExpired 2)
    ∷ gives 1 1 1 (op.Session session.Open) (answer.Session 2)
    ∷ waits 1 1 2 (op.Lock k (lock.Acquire 2 0 wish.NoLimit))
    ∷ gives 1 1 4 (op.Lock k lock.Owner) answer.Free
    ∷ [])
session_is_named_too_early_without_repeats = refl

-- A round is counted down before it begins.
pub round_is_named_too_early : Gives (
    gives 1 1 1 (op.Latch d (latch.Down 1)) answer.Ok
    ∷ gives 1 1 2 (op.Latch d (latch.Set 2)) (answer.Bool true)
    ∷ gives 1 1 1 (op.Latch d (latch.Down 1)) answer.Ok
    ∷ gives 1 1 3 (op.Latch d latch.Count) (answer.Value (pos 1))
    ∷ [])
round_is_named_too_early = refl

pub round_is_named_too_early_without_repeats : GivesWithoutRepeats (
    gives 1 1 1 (op.Latch d (latch.Down 1)) answer.Ok
    ∷ gives 1 1 2 (op.Latch d (latch.Set 2)) (answer.Bool true)
    ∷ waits 1 1 1 (op.Latch d (latch.Down 1))
    ∷ gives 1 1 3 (op.Latch d latch.Count) (answer.Value (pos 2))
    ∷ [])
round_is_named_too_early_without_repeats = refl

-- One call has two operations.
pub call_has_two_operations : Gives (
    gives 1 1 1 (op.Session session.Open) (answer.Session 1)
    ∷ gives 1 1 2 (op.Latch d (latch.Set 1)) (answer.Bool true)
    ∷ gives 1 1 3 (op.Latch d (latch.Down 1)) answer.Ok
    ∷ gives 1 1 3 (op.Lock k (lock.Acquire 1 0 wish.NoLimit)) (answer.Fence 4)
    ∷ gives 1 1 4 (op.Lock k lock.Owner) (answer.Held 1 (record { 0 = 1 }) 1 4)
    ∷ [])
call_has_two_operations = refl

pub call_has_two_operations_without_repeats : GivesWithoutRepeats (
    gives 1 1 1 (op.Session session.Open) (answer.Session 1)
    ∷ gives 1 1 2 (op.Latch d (latch.Set 1)) (answer.Bool true)
    ∷ gives 1 1 3 (op.Latch d (latch.Down 1)) answer.Ok
    ∷ waits 1 1 3 (op.Lock k (lock.Acquire 1 0 wish.NoLimit))
    ∷ gives 1 1 4 (op.Lock k lock.Owner) answer.Free
    ∷ [])
call_has_two_operations_without_repeats = refl
