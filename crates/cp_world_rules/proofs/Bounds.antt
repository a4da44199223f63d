-- The numbers of clients stay small.
use Rattle.std.proofs.Common.{◌≡◌, ℕ, ◌+◌, ◌-◌, ◌^◌, ◌≤◌, true, false, List, [], ◌∷◌, ◌++◌, Some, None, Option, refl, sym, subst, ap, arith, length, suc, le_refl, le_trans, ◌&&◌}
use Rattle.std.specs.Prelude.{All, nat_lt, unsigned_abs, ◌==◌}
use Rattle.std.specs.Ordering.{nat_cmp}
use Rattle.std.proofs.lemmas.Bool.Decides.{nat_tests}
use Rattle.std.proofs.lemmas.List.{length-append}
use Rattle.std.proofs.lemmas.List.Elements.{All-nil}
use Rattle.cp_base.specs.Identifiers.{replay_id}
use Rattle.cp_base.specs.declared.identifier.ClientId.{ClientId}
use Rattle.cp_base.specs.declared.identifier.ClientNo.{ClientNo}
use Rattle.cp_base.specs.declared.identifier.GroupId.{GroupId}
use Rattle.cp_base.specs.declared.identifier.Invocation.{Invocation}
use Rattle.cp_base.specs.declared.identifier.ThreadNo.{ThreadNo}
use Rattle.cp_answers.specs.declared.answer.Answer.{Answer}
use Rattle.cp_answers.specs.declared.answer.Answer.TheVariants as answer
use Rattle.cp_object_ops.specs.declared.latch_op.LatchOp.TheVariants as latch
use Rattle.cp_ops.specs.declared.op.Op.{Op}
use Rattle.cp_ops.specs.declared.op.Op.TheVariants as op
use Rattle.cp_ops.specs.declared.session_op.SessionOp.TheVariants as session
use Rattle.cp_events.specs.declared.event.Event.{Event}
use Rattle.cp_events.specs.declared.event.Event.TheVariants as event
use Rattle.cp_events.specs.declared.plan.Plan.{Plan}
use Rattle.cp_events.specs.declared.user_op.LockCall.{LockCall}
use Rattle.cp_events.specs.declared.user_op.UserOp.{UserOp}
use Rattle.cp_events.specs.declared.user_op.UserOp.TheVariants as user
use Rattle.cp_group_state.specs.Rows.{find, put, without}
use Rattle.cp_group_state.proofs.Keyed.{find-put_same, number_key}
use Rattle.cp_group_state.proofs.Walk.{cases, either}
use Rattle.cp_client_rules.specs.declared.rows.HoldRecord.{HoldRecord}
use Rattle.cp_client_rules.specs.declared.rows.OwnSession.{OwnSession}
use Rattle.cp_client_rules.specs.declared.rows.Pending.{Pending}
use Rattle.cp_client_rules.specs.declared.rows.Purpose.{Purpose}
use Rattle.cp_client_rules.specs.declared.rows.Purpose.TheVariants as purpose
use Rattle.cp_client_rules.specs.declared.rows.Task.{Task}
use Rattle.cp_client_rules.specs.declared.rows.Task.TheVariants as task
use Rattle.cp_client_rules.specs.declared.rows.Thread.{Thread}
use Rattle.cp_client_rules.specs.Asking.{Need, Nothing, HoldingSession, ItsSession, SessionToClose, Round, group_of, need_of, op_of, wish_of}
use Rattle.cp_client_rules.specs.Clients.{Client, Did, Holds, LockKey, Sessions, ask, done_at_once, idle, lock_cmp, session_in_group, thread_at, with_thread}
use Rattle.cp_client_rules.specs.Clients as clients
use Rattle.cp_client_rules.specs.Sessions.{has_session, with_session}
use Rattle.cp_client_rules.specs.Holds.{Holding, ends_holding, expired, held_after, holding, is_lock, is_owner, is_unlock, lowered, or_none, raised}
use Rattle.cp_client_rules.specs.Calls.{Call, by_need, call_client, closing, deadline_of, go_on, holding_session, in_session, pending_of}
use Rattle.cp_client_rules.specs.Answers.{answer_client, call_in, finished, on_pending, on_task, prepared}
use Rattle.cp_client_rules.specs.Ticks.{beat_each, beat_if_due, beats, end_each, end_late, is_due, is_late, own_thread, tick_client, user_threads}
use Rattle.cp_world_rules.specs.Requests.{needs_session}
use Rattle.cp_world_rules.specs.World.{World, begin, calls_if_idle, client_at, client_of, does, hand_all, hand_on, handed, is_client, moves_if_room, new_world, note, start, world_after, world_step}
use Rattle.cp_world_rules.specs.Bounds.{AllWithin, HasMade, IsEarned, IsWithin, OpensForNeed, open_requests}
use Rattle.cp_world_rules.proofs.Lists.{rows-find, rows-put, rows-weaker, rows-without}
use Rattle.cp_world_rules.proofs.Ledgers.{lock_key}
use Rattle.cp_world_rules.proofs.Clients.{thread-cases}
use Rattle.cp_world_rules.proofs.Settled.{at-client, commits-grow}

-- sums
up-one : (x n : ℕ) → x ≤ n → x + 1 ≤ n + 1
up-one x n l = omega (arith, l)

not-below : (n : ℕ) → 0 ≤ n
not-below n = omega arith

both-asked : (n a b total : ℕ) → total ≡ a + b → n + a + b ≤ n + total
both-asked n a b total e = omega (arith, e)

its-entries : (h a m total : ℕ) → total ≡ h + a → h + a + m ≤ total + m
its-entries h a m total e = omega (arith, e)

more-entries : (h a n m total : ℕ) → total ≡ h + a → n ≤ m → h + n ≤ total + m
more-entries h a n m total e l = omega (arith, e, l)

turned : (h n a m : ℕ) → n ≤ m → h + n + a ≤ h + a + m
turned h n a m l = omega (arith, l)

within-more : (n m : ℕ) (c : Client) → n ≤ m → IsWithin n c → IsWithin m c
within-more n m c l ok = record { clock = ok.clock; numbers = λ t. le_trans (ok.numbers t) l; begun = ok.begun; holds = ok.holds; needed = ok.needed }

within-sessions : (n : ℕ) (c : Client) (sessions : Sessions) → IsWithin n c → IsWithin n (record c { sessions = sessions })
within-sessions n c sessions ok = record { clock = ok.clock; numbers = ok.numbers; begun = ok.begun; holds = ok.holds; needed = ok.needed }

abbrev pub NeededAt : Thread → Type 0
NeededAt row = (now : Pending) → row.pending ≡ Some now → OpensForNeed now.task now.purpose

-- a thread's row is another
row-within : (n : ℕ) (c : Client) (t : ThreadNo) (row : Thread) → IsWithin n c → row.number ≤ n → ((h : ℕ) → HasMade c t h → h + open_requests row.pending ≤ row.number) → NeededAt row → IsWithin n (with_thread c t row)
row-within n c t row ok number held needed = record {
  clock = ok.clock;
  numbers = thread-cases (λ x (r : Thread). r.number ≤ n) c t row number ok.numbers;
  begun = thread-cases (λ x (r : Thread). 0 + open_requests r.pending ≤ r.number) c t row (held 0 (ok.begun t)) ok.begun;
  holds = rows-weaker lock_cmp lock_key (IsEarned c) (IsEarned (with_thread c t row)) c.holds (λ key h fits. thread-cases (λ x (r : Thread). HasMade c x h.holds → h.holds + open_requests r.pending ≤ r.number) c t row (held h.holds) (λ x k. k) (record { 0 = key.0 }) fits) ok.holds;
  needed = thread-cases (λ x r. NeededAt r) c t row needed ok.needed;
}

none-needed : (n : ℕ) → NeededAt (record { number = n; pending = None })
none-needed n now e = absurd (no e) where
  no : None ≡ Some now → ⊥
  no k = cc

one-needed : (n : ℕ) (p : Pending) → OpensForNeed p.task p.purpose → NeededAt (record { number = n; pending = Some p })
one-needed n p h now e = subst (λ (x : Pending). OpensForNeed x.task x.purpose) (same e) h where
  same : Some p ≡ Some now → p ≡ now
  same k = cc

ask-within : (me : ClientId) (t : ThreadNo) (now : Pending) (o : Op) (n : ℕ) (c : Client) → IsWithin n c → OpensForNeed now.task now.purpose → IsWithin (n + 1) (ask me t now o c).client
ask-within me t now o n c ok needed = row-within (n + 1) c t (record { number = (thread_at c t).number + 1; pending = Some now }) (within-more n (n + 1) c (omega arith) ok) (up-one (thread_at c t).number n (ok.numbers t))
    (λ h made. more h (open_requests (thread_at c t).pending) (thread_at c t).number made) (one-needed ((thread_at c t).number + 1) now needed)
  where
    more : (h k x : ℕ) → h + k ≤ x → h + 1 ≤ x + 1
    more h k x l = omega (arith, l)

idle-within : (t : ThreadNo) (n : ℕ) (c : Client) → IsWithin n c → IsWithin n (idle t c)
idle-within t n c ok = row-within n c t (record { number = (thread_at c t).number; pending = None }) ok (ok.numbers t) (λ h made. less h (open_requests (thread_at c t).pending) (thread_at c t).number made) (none-needed (thread_at c t).number) where
  less : (h k x : ℕ) → h + k ≤ x → h + 0 ≤ x
  less h k x l = omega (arith, l)

done-within : (t : ThreadNo) (n : ℕ) (c : Client) → IsWithin n c → IsWithin (n + 1) (done_at_once t c).client
done-within t n c ok = row-within (n + 1) c t (record { number = (thread_at c t).number + 1; pending = None }) (within-more n (n + 1) c (omega arith) ok) (up-one (thread_at c t).number n (ok.numbers t))
    (λ h made. more h (open_requests (thread_at c t).pending) (thread_at c t).number made) (none-needed ((thread_at c t).number + 1))
  where
    more : (h k x : ℕ) → h + k ≤ x → h + 0 ≤ x + 1
    more h k x l = omega (arith, l)

-- a call asks
module _ (plan : Plan) (me : ClientId) (call : Call) (n : ℕ) (c : Client) (ok : IsWithin n c) where
  session-within : needs_session (need_of call.op) ≡ true → (so : Option ℕ) → IsWithin (n + 1) (in_session plan me call so c).client
  session-within needed None = ask-within me call.thread (pending_of call purpose.ForSession) (op.Session session.Open) n c ok needed
  session-within needed (Some s) = ask-within me call.thread (pending_of call (purpose.ForItself s)) (op_of plan call.op s 0) n c ok tt

  closing-within : (so : Option ℕ) → IsWithin (n + 1) (closing plan me call so c).client
  closing-within None = done-within call.thread n c ok
  closing-within (Some s) = ask-within me call.thread (pending_of call (purpose.ForItself s)) (op_of plan call.op s 0) n c ok tt

  need-within : (need : Need) → need_of call.op ≡ need → IsWithin (n + 1) (by_need plan me need call c).client
  need-within Nothing is = ask-within me call.thread (pending_of call (purpose.ForItself 0)) (op_of plan call.op 0 0) n c ok tt
  need-within (HoldingSession name) is = session-within (ap needs_session is) (holding_session call name c)
  need-within ItsSession is = session-within (ap needs_session is) (session_in_group c call.group)
  need-within SessionToClose is = closing-within (session_in_group c call.group)
  need-within (Round name) is = ask-within me call.thread (pending_of call purpose.ForRound) (op.Latch name latch.Round) n c ok tt

  session-asks : (so : Option ℕ) → length (in_session plan me call so c).asked ≡ 1
  session-asks None = refl
  session-asks (Some s) = refl

  need-asks : (need : Need) → needs_session need ≡ true → length (by_need plan me need call c).asked ≡ 1
  need-asks Nothing needed = absurd (no needed) where
    no : false ≡ true → ⊥
    no e = cc
  need-asks (HoldingSession name) needed = session-asks (holding_session call name c)
  need-asks ItsSession needed = session-asks (session_in_group c call.group)
  need-asks SessionToClose needed = absurd (no needed) where
    no : false ≡ true → ⊥
    no e = cc
  need-asks (Round name) needed = refl

-- what a step asks makes room for its numbers
abbrev pub Stays : ℕ → Did → Type 0
Stays n d = IsWithin (n + length d.asked) d.client

stays-asking : (n : ℕ) (d : Did) → length d.asked ≡ 1 → IsWithin (n + 1) d.client → Stays n d
stays-asking n d one ok = subst (λ k. IsWithin (n + k) d.client) (sym one) ok

plain : (n : ℕ) (c : Client) → IsWithin n c → IsWithin (n + 0) c
plain n c ok = within-more n (n + 0) c (omega arith) ok

-- what is held once the thread's open request has ended
module _ (t : ThreadNo) (g : ℕ) (name : List ℕ) (n : ℕ) (c : Client) (ok : IsWithin n c) (busy : open_requests (thread_at c t).pending ≡ 1) where
  abbrev pub AllEarned : Holds → Type 0
  AllEarned holds = All (λ (e : LockKey × HoldRecord). IsEarned (idle t c) e.0 e.1) holds

  earned : AllEarned c.holds
  earned = (idle-within t n c ok).holds

  -- the thread has made so many requests that have ended
  now-made : (h : ℕ) → h ≤ (thread_at c t).number → HasMade (idle t c) t h
  now-made h l = subst (λ (row : Thread). h + open_requests row.pending ≤ row.number) (sym (ap clients.or_new (find-put_same nat_cmp number_key c.threads t.0 (record { number = (thread_at c t).number; pending = None })))) (plus h (thread_at c t).number l) where
    plus : (a b : ℕ) → a ≤ b → a + 0 ≤ b
    plus a b k = omega (arith, k)

  one-ended : (h : ℕ) → HasMade c t h → h + 1 ≤ (thread_at c t).number
  one-ended h made = subst (λ k. h + k ≤ (thread_at c t).number) busy made

  put-earned : (x : HoldRecord) → x.holds ≤ (thread_at c t).number → AllEarned (put lock_cmp c.holds (t.0, g, name) x)
  put-earned x l = rows-put lock_cmp lock_key (IsEarned (idle t c)) c.holds (t.0, g, name) x (now-made x.holds l) earned

  without-earned : AllEarned (without lock_cmp c.holds (t.0, g, name))
  without-earned = rows-without lock_cmp lock_key (IsEarned (idle t c)) c.holds (t.0, g, name) earned

  found : (x : HoldRecord) → find lock_cmp c.holds (t.0, g, name) ≡ Some x → x.holds + 1 ≤ (thread_at c t).number
  found x is = one-ended x.holds (rows-find lock_cmp lock_key (IsEarned c) c.holds (t.0, g, name) x is ok.holds)

  raised-earned : (s : ℕ) → AllEarned (raised s (t.0, g, name) c.holds)
  raised-earned s = by (find lock_cmp c.holds (t.0, g, name)) refl where
    by : (o : Option HoldRecord) → find lock_cmp c.holds (t.0, g, name) ≡ o → AllEarned (put lock_cmp c.holds (t.0, g, name) (record { session = (or_none s o).session; holds = (or_none s o).holds + 1 }))
    by None is = put-earned (record { session = s; holds = 0 + 1 }) (one-ended 0 (ok.begun t))
    by (Some x) is = put-earned (record { session = x.session; holds = x.holds + 1 }) (found x is)

  lowered-earned : AllEarned (lowered (t.0, g, name) (find lock_cmp c.holds (t.0, g, name)) c.holds)
  lowered-earned = by (find lock_cmp c.holds (t.0, g, name)) refl where
    by : (o : Option HoldRecord) → find lock_cmp c.holds (t.0, g, name) ≡ o → AllEarned (lowered (t.0, g, name) o c.holds)
    by None is = earned
    by (Some x) is = either AllEarned (nat_lt 1 x.holds) _ _ (put-earned (record { session = x.session; holds = x.holds - 1 }) (let l = found x is in omega (arith, l))) without-earned

  expired-earned : (a : Answer) (o : Option HoldRecord) → AllEarned (expired (t.0, g, name) a o c.holds).holds
  expired-earned a None = earned
  expired-earned a (Some x) = without-earned

  after-earned : (o : LockCall) (s : ℕ) (a : Answer) → AllEarned (held_after (t.0, g, name) o s a c.holds).holds
  after-earned o s (answer.Fence f) = either AllEarned (is_owner o) _ _ earned (raised-earned s)
  after-earned o s answer.Ok = either AllEarned (is_unlock o) _ _ lowered-earned earned
  after-earned o s answer.NotOwner = without-earned
  after-earned o s answer.ObjectDestroyed = without-earned
  after-earned o s (answer.GroupDestroyed d) = without-earned
  after-earned o s (answer.SessionExpired x) = either (λ (r : Holding). AllEarned r.holds) (is_owner o) _ _ earned (expired-earned (answer.SessionExpired x) (find lock_cmp c.holds (t.0, g, name)))
  after-earned o s a = earned

module _ (t : ThreadNo) (g : GroupId) (n : ℕ) (c : Client) (ok : IsWithin n c) (busy : open_requests (thread_at c t).pending ≡ 1) where
  holding-earned : (o : UserOp) (p : Purpose) (a : Answer) → All (λ (e : LockKey × HoldRecord). IsEarned (idle t c) e.0 e.1) (holding t g o p a c.holds).holds
  holding-earned (user.Lock object o) (purpose.ForItself s) a = after-earned t g.0 object.name n c ok busy o s a
  holding-earned (user.Destroy which object) p a = either (λ (holds : Holds). All (λ (e : LockKey × HoldRecord). IsEarned (idle t c) e.0 e.1) holds) (is_lock which && ends_holding a) _ _ (without-earned t g.0 object.name n c ok busy) (idle-within t n c ok).holds
  holding-earned o p a = (idle-within t n c ok).holds

-- answers
module _ (plan : Plan) (me : ClientId) (request : Invocation) (n : ℕ) (c : Client) (ok : IsWithin n c) where
  finished-within : (o : UserOp) (now : Pending) (p : Purpose) (a : Answer) → open_requests (thread_at c request.thread).pending ≡ 1 → Stays n (finished request.number (call_in request now o) p a c)
  finished-within o now p a busy = let i = idle-within request.thread n c ok in plain n (finished request.number (call_in request now o) p a c).client (record { clock = i.clock; numbers = i.numbers; begun = i.begun; holds = holding-earned request.thread now.group n c ok busy o p a; needed = i.needed })

  prepared-within : (o : UserOp) (now : Pending) (p : Purpose) (a : Answer) → OpensForNeed (task.Calls o) p → open_requests (thread_at c request.thread).pending ≡ 1 → Stays n (prepared plan me request.number (call_in request now o) p a c)
  prepared-within o now purpose.ForSession (answer.Session s) needed busy = stays-asking n (go_on plan me (call_in request now o) (with_session now.group s c))
      (need-asks plan me (call_in request now o) n (with_session now.group s c) with_it (need_of o) needed) (need-within plan me (call_in request now o) n (with_session now.group s c) with_it (need_of o) refl)
    where
      with_it : IsWithin n (with_session now.group s c)
      with_it = either (IsWithin n) (has_session now.group s c) _ _ ok (within-sessions n c _ ok)
  prepared-within o now purpose.ForRound (answer.Value round) needed busy = ask-within me request.thread (pending_of (call_in request now o) (purpose.ForItself 0)) (op_of plan o 0 (unsigned_abs round)) n c ok tt
  prepared-within o now p a needed busy = finished-within o now p a busy

  task-within : (x : Task) (now : Pending) (a : Answer) → OpensForNeed x now.purpose → open_requests (thread_at c request.thread).pending ≡ 1 → Stays n (on_task plan me request x now a c)
  task-within (task.Calls o) now a needed busy = prepared-within o now now.purpose a needed busy
  task-within (task.Beats s) now a needed busy = plain n _ (within-sessions n (idle request.thread c) _ (idle-within request.thread n c ok))

  pending-within : (o : Option Pending) (a : Answer) → (thread_at c request.thread).pending ≡ o → Stays n (on_pending plan me request o a c)
  pending-within None a is = plain n c ok
  pending-within (Some now) a is = task-within now.task now a (ok.needed request.thread now is) (ap open_requests is)

  answer-within : (a : Answer) → Stays n (answer_client plan me request a c)
  answer-within a = either (Stays n) ((thread_at c request.thread).number == request.number) _ _ (pending-within (thread_at c request.thread).pending a refl) (plain n c ok)

-- ticks
late-within : (t : ThreadNo) (n : ℕ) (c : Client) → IsWithin n c → IsWithin n (end_late t c).client × ((end_late t c).asked ≡ [])
late-within t n c ok = either (λ (d : Did). IsWithin n d.client × (d.asked ≡ [])) (is_late c.clock (thread_at c t).pending) _ _ (idle-within t n c ok, refl) (ok, refl)

each-within : (ts : List ThreadNo) (n : ℕ) (c : Client) → IsWithin n c → IsWithin n (end_each ts c).client × ((end_each ts c).asked ≡ [])
each-within [] n c ok = (ok, refl)
each-within (t ∷ ts) n c ok = let x = late-within t n c ok in let y = each-within ts n (end_late t c).client x.0 in (y.0, rw (x.1, y.1))

beat-within : (me : ClientId) (g : ℕ) (own : OwnSession) (n : ℕ) (c : Client) → IsWithin n c → Stays n (beat_if_due me g own c)
beat-within me g own n c ok = either (Stays n) (is_due own c) _ _
    (ask-within me own_thread (record { group = record { 0 = g }; task = task.Beats own.id; purpose = purpose.ForItself own.id; deadline = None }) (op.Session (session.Beat own.id)) n (record c { sessions = put nat_cmp c.sessions g (record { id = own.id; beat = c.clock }) }) (within-sessions n c _ ok) tt)
    (plain n c ok)

beats-within : (me : ClientId) (rows : Sessions) (n : ℕ) (c : Client) → IsWithin n c → Stays n (beat_each me rows c)
beats-within me [] n c ok = plain n c ok
beats-within me (row ∷ rows) n c ok = let x = beat-within me row.0 row.1 n c ok in let y = beats-within me rows (n + length (beat_if_due me row.0 row.1 c).asked) (beat_if_due me row.0 row.1 c).client x in
    within-more _ (n + length (beat_each me (row ∷ rows) c).asked) (beat_each me (row ∷ rows) c).client
    (both-asked n (length (beat_if_due me row.0 row.1 c).asked) (length (beat_each me rows (beat_if_due me row.0 row.1 c).client).asked) (length (beat_each me (row ∷ rows) c).asked)
    (length-append (beat_if_due me row.0 row.1 c).asked (beat_each me rows (beat_if_due me row.0 row.1 c).client).asked)) y

tick-within : (me : ClientId) (ms n : ℕ) (c : Client) → c.clock + ms ≤ 2 ^ 62 → IsWithin n c → Stays n (tick_client me ms c)
tick-within me ms n c room ok = let x = each-within user_threads n (record c { clock = c.clock + ms }) (record { clock = room; numbers = ok.numbers; begun = ok.begun; holds = ok.holds; needed = ok.needed }) in
    let y = beats-within me (end_each user_threads (record c { clock = c.clock + ms })).client.sessions n (end_each user_threads (record c { clock = c.clock + ms })).client x.0 in
    subst (λ asked. IsWithin (n + length (asked ++ (beats me (end_each user_threads (record c { clock = c.clock + ms })).client).asked)) (tick_client me ms c).client) (sym x.1) y

-- worlds
all-does : (me : ClientNo) (d : Did) (w : World) (n m : ℕ) → n ≤ m → AllWithin n w → IsWithin (length w.history + length d.asked + m) d.client → AllWithin m (does me d w)
all-does me d w n m l all mine = let grown = commits-grow d.asked (note me d w) in
    at-client w me d (λ x c. IsWithin (length (does me d w).history + m) c) (within-more _ (length (does me d w).history + m) d.client (its-entries (length w.history) (length d.asked) m (length (does me d w).history) grown) mine)
    (λ x off. within-more _ (length (does me d w).history + m) (client_at w x) (more-entries (length w.history) (length d.asked) n m (length (does me d w).history) grown l) (all x))

-- the numbers of an answer's or a tick's step, among those of the world
all-stays : (me : ClientNo) (d : Did) (w : World) (n m : ℕ) → n ≤ m → AllWithin n w → Stays (length w.history + n) d → AllWithin m (does me d w)
all-stays me d w n m l all mine = all-does me d w n m l all (within-more _ (length w.history + length d.asked + m) d.client (turned (length w.history) n (length d.asked) m l) mine)

pub hands_on : (plan : Plan) (a : Invocation × Answer) (w : World) (n : ℕ) → AllWithin n w → AllWithin n (hand_on plan a w)
hands_on plan a w n all = all-stays (client_of a.0) (answer_client plan (replay_id (client_of a.0)) a.0 a.1 (client_at w (client_of a.0))) w n n (le_refl n) all
    (answer-within plan (replay_id (client_of a.0)) a.0 (length w.history + n) (client_at w (client_of a.0)) (all (client_of a.0)) a.1)

one-more : (w : World) (n : ℕ) → AllWithin n w → AllWithin (n + 1) w
one-more w n all me = within-more (length w.history + n) (length w.history + (n + 1)) (client_at w me) (omega arith) (all me)

call-begins : (plan : Plan) (me : ClientNo) (t : ThreadNo) (o : UserOp) (now : Option Pending) (w : World) (n : ℕ) → AllWithin n w → AllWithin (n + 1) (calls_if_idle plan me t o now w)
call-begins plan me t o (Some now) w n all = one-more w n all
call-begins plan me t o None w n all = all-does me (call_client plan (replay_id me) t o (client_at w me)) (record w { calls = w.calls ++ record { event = w.shown.number; client = me; thread = t; op = o; clock = (client_at w me).clock } ∷ [] }) n (n + 1) (omega arith) all
    (within-more (length w.history + n + 1) (length w.history + length (call_client plan (replay_id me) t o (client_at w me)).asked + (n + 1)) (call_client plan (replay_id me) t o (client_at w me)).client (omega arith)
    (need-within plan (replay_id me) (record { thread = t; group = group_of o; op = o; deadline = deadline_of (client_at w me).clock (wish_of o) }) (length w.history + n) (client_at w me) (all me) (need_of o) refl))

tick-begins : (me : ClientNo) (ms : ℕ) (w : World) (n : ℕ) → AllWithin n w → AllWithin (n + 1) (moves_if_room me ms w)
tick-begins me ms w n all = cases (AllWithin (n + 1)) (nat_lt (2 ^ 62) ((client_at w me).clock + ms)) _ _ (λ e. one-more w n all)
    (λ e. all-stays me (tick_client (replay_id me) ms (client_at w me)) (record w { moves = w.moves ++ record { event = w.shown.number; client = me; ms = ms; clock = (client_at w me).clock + ms } ∷ [] }) n (n + 1) (omega arith) all
    (tick-within (replay_id me) ms (length w.history + n) (client_at w me) (room (2 ^ 62) ((client_at w me).clock + ms) e) (all me)))
  where
    room : (most clock : ℕ) → nat_lt most clock ≡ false → clock ≤ most
    room most clock e = grind (arith, nat_tests)

pub begins : (plan : Plan) (e : Event) (w : World) (n : ℕ) → AllWithin n w → AllWithin (n + 1) (begin plan e w)
begins plan (event.Call me t o) w n all = either (AllWithin (n + 1)) (is_client plan me) _ _ (call-begins plan me t o (thread_at (client_at w me) t).pending w n all) (one-more w n all)
begins plan (event.ClientTick me ms) w n all = either (AllWithin (n + 1)) (is_client plan me) _ _ (tick-begins me ms w n all) (one-more w n all)
begins plan (event.Deliver k) w n all = one-more w n all
begins plan (event.Tick m ms) w n all = one-more w n all
begins plan (event.Crash m) w n all = one-more w n all
begins plan (event.CrashAfter m calls choice) w n all = one-more w n all
begins plan (event.Start m) w n all = one-more w n all
begins plan event.Open w n all = one-more w n all

module _ (plan : Plan) where
  all-handed : (queue : List (Invocation × Answer)) (w : World) (n : ℕ) → AllWithin n w → AllWithin n (hand_all plan queue w)
  all-handed [] w n all = all
  all-handed (a ∷ queue) w n all = all-handed queue (hand_on plan a w) n (hands_on plan a w n all)

  step-within : (e : Event) (w : World) (n : ℕ) → AllWithin n w → AllWithin (n + 1) (world_step plan w e)
  step-within e w n all = let b = begins plan e (start e w) n all in
      let one = all-handed (begin plan e (start e w)).queue (record (begin plan e (start e w)) { queue = [] }) (n + 1) b in
      all-handed (handed plan (begin plan e (start e w))).queue (record (handed plan (begin plan e (start e w))) { queue = [] }) (n + 1) one

  run-within : (events : List Event) (w : World) (n : ℕ) → AllWithin n w → AllWithin (n + length events) (world_after plan w events)
  run-within [] w n all = subst (λ k. AllWithin k w) (omega arith) all
  run-within (e ∷ events) w n all = subst (λ k. AllWithin k (world_after plan (world_step plan w e) events)) (add n (length events)) (run-within events (world_step plan w e) (n + 1) (step-within e w n all)) where
    add : (a b : ℕ) → a + 1 + b ≡ a + suc b
    add a b = omega arith

  new-within : AllWithin 0 new_world
  new-within me = record { clock = not-below (2 ^ 62); numbers = λ t. not-below 0; begun = λ t. not-below 0; holds = All-nil (λ (e : LockKey × HoldRecord). IsEarned clients.new_client e.0 e.1); needed = λ t now is. absurd (no now is) } where
    no : (now : Pending) → None ≡ Some now → ⊥
    no now e = cc

pub after : (plan : Plan) (events : List Event) → AllWithin (length events) (world_after plan new_world events)
after plan events = subst (λ k. AllWithin k (world_after plan new_world events)) (plain_sum (length events)) (run-within plan events new_world 0 (new-within plan)) where
  plain_sum : (n : ℕ) → 0 + n ≡ n
  plain_sum n = omega arith
