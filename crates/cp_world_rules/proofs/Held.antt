-- What clients note of the locks that their threads hold is what the threads were told.
use Rattle.std.proofs.Common.{◌≡◌, ℕ, ◌+◌, ◌-◌, ◌⊎◌, inl, inr, Bool, true, false, ◌&&◌, List, [], ◌∷◌, ◌++◌, Some, None, Option, refl, sym, subst, ap, ◌∙◌, length, map, if◌then◌else◌, take, zero, suc}
use Rattle.std.specs.Prelude.{Contains, slice_get, nat_lt, ◌==◌, bytes_eq}
use Rattle.std.specs.Cmp.{IsTotalOrder}
use Rattle.std.specs.List.Sorted.{IsStrictlySortedBy}
use Rattle.std.specs.Ordering.{is_eq, nat_cmp}
use Rattle.std.specs.BTreeMap.{is_at}
use Rattle.std.proofs.lemmas.List.Elements.{Contains-append_cases, Contains-append_left}
use Rattle.std.proofs.lemmas.Cmp.{nat_cmp_total, nat_list_cmp_total, on_total, then_total}
use Rattle.cp_base.specs.Identifiers.{replay_id}
use Rattle.cp_base.specs.declared.identifier.ClientId.{ClientId}
use Rattle.cp_base.specs.declared.identifier.ClientNo.{ClientNo}
use Rattle.cp_base.specs.declared.identifier.GroupId.{GroupId}
use Rattle.cp_base.specs.declared.identifier.Invocation.{Invocation}
use Rattle.cp_base.specs.declared.identifier.ThreadNo.{ThreadNo}
use Rattle.cp_base.proofs.Tests.{bytes_itself, bytes_same, no_false, no_true, none_some, number_itself, same_number, same_some}
use Rattle.cp_answers.specs.declared.answer.Answer.{Answer}
use Rattle.cp_answers.specs.declared.answer.Answer.TheVariants as answer
use Rattle.cp_object_ops.specs.declared.latch_op.LatchOp.TheVariants as latch
use Rattle.cp_object_ops.specs.declared.lock_op.LockOp.{LockOp}
use Rattle.cp_object_ops.specs.declared.lock_op.LockOp.TheVariants as lock
use Rattle.cp_op_values.specs.declared.kind.Kind.{Kind}
use Rattle.cp_op_values.specs.declared.kind.Kind.TheVariants as kind
use Rattle.cp_op_values.specs.declared.wish.Wish.TheVariants as wish
use Rattle.cp_ops.specs.declared.op.Op.{Op}
use Rattle.cp_ops.specs.declared.op.Op.TheVariants as op
use Rattle.cp_ops.specs.declared.session_op.SessionOp.TheVariants as session
use Rattle.cp_answers.specs.declared.ended_by.EndedBy.TheVariants as ended_by
use Rattle.cp_events.specs.declared.effects.Ending.TheVariants as ending
use Rattle.cp_events.specs.declared.effects.Return.{Return}
use Rattle.cp_events.specs.declared.event.Event.{Event}
use Rattle.cp_events.specs.declared.object.Object.{Object}
use Rattle.cp_events.specs.declared.plan.Plan.{Plan}
use Rattle.cp_events.specs.declared.user_op.LatchCall.TheVariants as latch_call
use Rattle.cp_events.specs.declared.user_op.LockCall.{LockCall}
use Rattle.cp_events.specs.declared.user_op.LockCall.TheVariants as lock_call
use Rattle.cp_events.specs.declared.user_op.UserOp.{UserOp}
use Rattle.cp_events.specs.declared.user_op.UserOp.TheVariants as user
use Rattle.cp_group_state.specs.Protected.{session_in}
use Rattle.cp_group_state.specs.Rows.{find, put, without}
use Rattle.cp_group_state.specs.Waiters.{same_call, same_client}
use Rattle.cp_group_state.proofs.Keyed.{equal_is, find-put_other, find-put_same, find-without_other}
use Rattle.cp_group_state.proofs.Once.{same-call}
use Rattle.cp_group_state.proofs.Rising.{Rising, find-without_same, rising-put, rising-without}
use Rattle.cp_group_state.proofs.Walk.{cases, either}
use Rattle.cp_group_causes.proofs.Lists.{at-head, at-tail, get-last, mapped, no-element, one-is, one-only}
use Rattle.cp_client_rules.specs.declared.rows.HoldRecord.{HoldRecord}
use Rattle.cp_client_rules.specs.declared.rows.OwnSession.{OwnSession}
use Rattle.cp_client_rules.specs.declared.rows.Pending.{Pending}
use Rattle.cp_client_rules.specs.declared.rows.Purpose.{Purpose}
use Rattle.cp_client_rules.specs.declared.rows.Purpose.TheVariants as purpose
use Rattle.cp_client_rules.specs.declared.rows.Task.{Task}
use Rattle.cp_client_rules.specs.declared.rows.Task.TheVariants as task
use Rattle.cp_client_rules.specs.Answers.{answer_client, call_in, finished, on_pending, on_task, prepared}
use Rattle.cp_client_rules.specs.Asking.{Need, Nothing, HoldingSession, ItsSession, SessionToClose, Round, default_group, group_of, limit_of, lock_op, need_of, op_of, wish_of}
use Rattle.cp_client_rules.specs.Calls.{Call, by_need, call_client, closing, deadline_of, holding_session, in_session}
use Rattle.cp_client_rules.specs.Clients.{Client, Did, Holds, LockKey, Sessions, lock_cmp, nothing, session_in_group, thread_at}
use Rattle.cp_client_rules.specs.Holds.{Holding, ends_holding, expired, held_after, holding, is_lock, is_owner, is_unlock, lowered, or_none, raised}
use Rattle.cp_client_rules.specs.Sessions.{has_session, with_session}
use Rattle.cp_client_rules.specs.Ticks.{beat_each, beat_if_due, beats, end_each, end_late, is_due, is_late, tick_client, user_threads}
use Rattle.cp_world_rules.specs.Rows.{End, Request, Returned}
use Rattle.cp_world_rules.specs.Execution.{openings_in}
use Rattle.cp_world_rules.specs.Requests.{needs_session}
use Rattle.cp_world_rules.specs.Returns.{request_of}
use Rattle.cp_world_rules.specs.Holding.{after_lock, after_op, after_request, holds_before, is_of, one_less, one_more, op_in, told_by}
use Rattle.cp_world_rules.specs.World.{World, begins_now, client_at, client_of, close, commit, ends_now, ignore, new_world, note, or_new, returns_now, start, world_after}
use Rattle.cp_world_rules.proofs.Lists.{get-left-at, get-some, push-none}
use Rattle.cp_world_rules.proofs.Ledgers.{Knows, PurposeOk, ledger_of, lock_key}
use Rattle.cp_world_rules.proofs.Desks.{replay-same}
use Rattle.cp_world_rules.proofs.Desked.{note-client}
use Rattle.cp_world_rules.proofs.Good.{Given as GivenTo, Good}
use Rattle.cp_world_rules.proofs.Working.{go-ends}
use Rattle.cp_world_rules.proofs.Goes.{tick-ends}
use Rattle.cp_world_rules.proofs.Served.{IsServed, all-served}
use Rattle.cp_world_rules.proofs.Told.{GroupOk, Groups, Seen, none-seen, openings, seen-served}

lock_total : IsTotalOrder lock_cmp
lock_total = then_total (then_total (on_total (λ (k : LockKey). k.0) nat_cmp_total) (on_total (λ (k : LockKey). k.1) nat_cmp_total)) (on_total (λ (k : LockKey). k.2) nat_list_cmp_total)

-- ---- the record of the lock that is asked for

module _ (k : LockKey) (holds : Holds) (rising : Rising lock_cmp holds) where
  gone : find lock_cmp (without lock_cmp holds k) k ≡ None
  gone = find-without_same lock_cmp lock_key lock_total holds k rising

  raised-same : (s : ℕ) → find lock_cmp (raised s k holds) k ≡ Some (one_more s (find lock_cmp holds k))
  raised-same s = by (find lock_cmp holds k) where
    by : (o : Option HoldRecord) → find lock_cmp (put lock_cmp holds k (record { session = (or_none s o).session; holds = (or_none s o).holds + 1 })) k ≡ Some (one_more s o)
    by None = find-put_same lock_cmp lock_key holds k (record { session = s; holds = 0 + 1 })
    by (Some h) = find-put_same lock_cmp lock_key holds k (record { session = h.session; holds = h.holds + 1 })

  lowered-same : (o : Option HoldRecord) → find lock_cmp holds k ≡ o → find lock_cmp (lowered k o holds) k ≡ one_less o
  lowered-same None is = is
  lowered-same (Some h) is = at (nat_lt 1 h.holds) where
    at : (b : Bool) → find lock_cmp (if b then put lock_cmp holds k (record { session = h.session; holds = h.holds - 1 }) else without lock_cmp holds k) k ≡ (if b then Some (record { session = h.session; holds = h.holds - 1 }) else None)
    at true = find-put_same lock_cmp lock_key holds k (record { session = h.session; holds = h.holds - 1 })
    at false = gone

  expired-same : (a : Answer) (o : Option HoldRecord) → find lock_cmp holds k ≡ o → find lock_cmp (expired k a o holds).holds k ≡ None
  expired-same a None is = is
  expired-same a (Some h) is = gone

  module _ (limit s : ℕ) where
    as-lock : (a : Answer) → find lock_cmp (held_after k lock_call.Lock s a holds).holds k ≡ after_lock (lock.Acquire s limit wish.NoLimit) a (find lock_cmp holds k)
    as-lock (answer.Fence f) = raised-same s
    as-lock answer.NotOwner = gone
    as-lock answer.ObjectDestroyed = gone
    as-lock (answer.GroupDestroyed g) = gone
    as-lock (answer.SessionExpired x) = expired-same (answer.SessionExpired x) (find lock_cmp holds k) refl
    as-lock a = refl

    as-try : (ms : ℕ) (a : Answer) → find lock_cmp (held_after k (lock_call.Try ms) s a holds).holds k ≡ after_lock (lock.Acquire s limit (wish.Within ms)) a (find lock_cmp holds k)
    as-try ms (answer.Fence f) = raised-same s
    as-try ms answer.NotOwner = gone
    as-try ms answer.ObjectDestroyed = gone
    as-try ms (answer.GroupDestroyed g) = gone
    as-try ms (answer.SessionExpired x) = expired-same (answer.SessionExpired x) (find lock_cmp holds k) refl
    as-try ms a = refl

    as-unlock : (a : Answer) → find lock_cmp (held_after k lock_call.Unlock s a holds).holds k ≡ after_lock (lock.Release s) a (find lock_cmp holds k)
    as-unlock (answer.Fence f) = raised-same s
    as-unlock answer.Ok = lowered-same (find lock_cmp holds k) refl
    as-unlock answer.NotOwner = gone
    as-unlock answer.ObjectDestroyed = gone
    as-unlock (answer.GroupDestroyed g) = gone
    as-unlock (answer.SessionExpired x) = expired-same (answer.SessionExpired x) (find lock_cmp holds k) refl
    as-unlock a = refl

    as-owner : (a : Answer) → find lock_cmp (held_after k lock_call.Owner s a holds).holds k ≡ after_lock lock.Owner a (find lock_cmp holds k)
    as-owner answer.NotOwner = gone
    as-owner answer.ObjectDestroyed = gone
    as-owner (answer.GroupDestroyed g) = gone
    as-owner a = refl

    held-same : (oo : LockCall) (a : Answer) → find lock_cmp (held_after k oo s a holds).holds k ≡ after_lock (lock_op limit oo s) a (find lock_cmp holds k)
    held-same lock_call.Lock a = as-lock a
    held-same (lock_call.Try ms) a = as-try ms a
    held-same lock_call.Unlock a = as-unlock a
    held-same lock_call.Owner a = as-owner a

  -- records stay in order
  raised-rising : (s : ℕ) → Rising lock_cmp (raised s k holds)
  raised-rising s = rising-put lock_cmp lock_key lock_total holds k _ rising

  without-rising : Rising lock_cmp (without lock_cmp holds k)
  without-rising = rising-without lock_cmp lock_key lock_total holds k rising

  lowered-rising : (o : Option HoldRecord) → Rising lock_cmp (lowered k o holds)
  lowered-rising None = rising
  lowered-rising (Some h) = either (Rising lock_cmp) (nat_lt 1 h.holds) _ _ (rising-put lock_cmp lock_key lock_total holds k _ rising) without-rising

  expired-rising : (a : Answer) (o : Option HoldRecord) → Rising lock_cmp (expired k a o holds).holds
  expired-rising a None = rising
  expired-rising a (Some h) = without-rising

  pub held-rising : (oo : LockCall) (s : ℕ) (a : Answer) → Rising lock_cmp (held_after k oo s a holds).holds
  held-rising oo s (answer.Fence f) = either (Rising lock_cmp) (is_owner oo) _ _ rising (raised-rising s)
  held-rising oo s answer.Ok = either (Rising lock_cmp) (is_unlock oo) _ _ (lowered-rising (find lock_cmp holds k)) rising
  held-rising oo s answer.NotOwner = without-rising
  held-rising oo s answer.ObjectDestroyed = without-rising
  held-rising oo s (answer.GroupDestroyed g) = without-rising
  held-rising oo s (answer.SessionExpired x) = either (λ (r : Holding). Rising lock_cmp r.holds) (is_owner oo) _ _ rising (expired-rising (answer.SessionExpired x) (find lock_cmp holds k))
  held-rising oo s a = rising

-- ---- other records

module _ (k j : LockKey) (apart : is_at (lock_cmp j) k ≡ false) (holds : Holds) where
  abbrev Stays : Holds → Type 0
  Stays rows = find lock_cmp rows j ≡ find lock_cmp holds j

  put-stays : (h : HoldRecord) → Stays (put lock_cmp holds k h)
  put-stays h = find-put_other lock_cmp lock_key holds k j h apart

  pub without-stays : Stays (without lock_cmp holds k)
  without-stays = find-without_other lock_cmp lock_key holds k j apart

  lowered-stays : (o : Option HoldRecord) → Stays (lowered k o holds)
  lowered-stays None = refl
  lowered-stays (Some h) = either Stays (nat_lt 1 h.holds) _ _ (put-stays _) without-stays

  expired-stays : (a : Answer) (o : Option HoldRecord) → Stays (expired k a o holds).holds
  expired-stays a None = refl
  expired-stays a (Some h) = without-stays

  pub held-stays : (oo : LockCall) (s : ℕ) (a : Answer) → Stays (held_after k oo s a holds).holds
  held-stays oo s (answer.Fence f) = either Stays (is_owner oo) _ _ refl (put-stays _)
  held-stays oo s answer.Ok = either Stays (is_unlock oo) _ _ (lowered-stays (find lock_cmp holds k)) refl
  held-stays oo s answer.NotOwner = without-stays
  held-stays oo s answer.ObjectDestroyed = without-stays
  held-stays oo s (answer.GroupDestroyed g) = without-stays
  held-stays oo s (answer.SessionExpired x) = either (λ (r : Holding). Stays r.holds) (is_owner oo) _ _ refl (expired-stays (answer.SessionExpired x) (find lock_cmp holds k))
  held-stays oo s a = refl

-- ---- the operation of a request, and the fold

call-itself : (c : Invocation) → same_call c c ≡ true
call-itself c = rw (bytes_itself c.client.0, number_itself c.thread.0, number_itself c.number)

op-on : (rs more : List Request) (call : Invocation) (o : Op) → op_in rs call ≡ Some o → op_in (rs ++ more) call ≡ Some o
op-on [] more call o e = absurd (none_some e)
op-on (r ∷ rs) more call o e = by (same_call r.call call) e (op-on rs more call o) where
  by : (b : Bool) → (if b then Some r.op else op_in rs call) ≡ Some o → (op_in rs call ≡ Some o → op_in (rs ++ more) call ≡ Some o) → (if b then Some r.op else op_in (rs ++ more) call) ≡ Some o
  by true e rest = e
  by false e rest = rest e

pub op-of : (rs : List Request) (q : Request) → Contains rs q → ((r : Request) → Contains rs r → r.call ≡ q.call → r.op ≡ q.op) → op_in rs q.call ≡ Some q.op
op-of [] q there one = absurd (no-element q there)
op-of (r ∷ rs) q there one = by (same_call r.call q.call) refl (λ t. op-of rs q t (λ x k same. one x (at-tail r x rs k) same)) where
  later : same_call r.call q.call ≡ false → (Contains rs q → op_in rs q.call ≡ Some q.op) → (q ≡ r) ⊎ Contains rs q → op_in rs q.call ≡ Some q.op
  later e rest (inl same) = absurd (no_true (sym (call-itself q.call) ∙ subst (λ (z : Request). same_call z.call q.call ≡ false) (sym same) e))
  later e rest (inr t) = rest t

  by : (b : Bool) → same_call r.call q.call ≡ b → (Contains rs q → op_in rs q.call ≡ Some q.op) → (if b then Some r.op else op_in rs q.call) ≡ Some q.op
  by true e rest = ap Some (one r (at-head r rs) (same-call r.call q.call e))
  by false e rest = later e rest (one-only r q rs there)

module _ (name : List ℕ) (client : ClientId) (t : ThreadNo) (g : GroupId) where
  told-on : (rs more : List Request) (ends : List End) → ((e : End) → Contains ends e → (o : Op) × (op_in rs e.call ≡ Some o)) → (h : Option HoldRecord) → told_by (rs ++ more) name client t g ends h ≡ told_by rs name client t g ends h
  told-on rs more [] known h = refl
  told-on rs more (e ∷ ends) known h = let k = known e (at-head e ends) in
      ap (λ (o : Option Op). told_by (rs ++ more) name client t g ends (if is_of client t g e then after_request name o e.answer h else h)) (op-on rs more e.call k.0 k.1 ∙ sym k.1)
      ∙ told-on rs more ends (λ x there. known x (at-tail e x ends there)) (if is_of client t g e then after_request name (op_in rs e.call) e.answer h else h)

  pub told-push : (rs : List Request) (ends : List End) (e : End) (h : Option HoldRecord) → told_by rs name client t g (ends ++ e ∷ []) h
      ≡ (if is_of client t g e then after_request name (op_in rs e.call) e.answer (told_by rs name client t g ends h) else told_by rs name client t g ends h)
  told-push rs [] e h = refl
  told-push rs (x ∷ ends) e h = told-push rs ends e (if is_of client t g x then after_request name (op_in rs x.call) x.answer h else h)

-- ---- what a client noted, and what its threads were told

pub record HeldBy (w : World) (me : ClientNo) (c : Client) : Type 0 where
  pub rising : Rising lock_cmp c.holds
  pub held : (t : ThreadNo) (name : List ℕ) → find lock_cmp c.holds (t.0, 1, name) ≡ told_by w.requests name (replay_id me) t default_group w.ends None

-- an answer at a place among the ends, to a call that returned with it
pub record EndsAt (w : World) (r : Returned) : Type 0 where
  pub end : End
  pub place : ℕ
  pub stands : slice_get w.ends place ≡ Some end
  pub here : end.event ≡ r.event
  pub call_is : end.call ≡ request_of r
  pub request : Request
  pub began : Contains w.requests request
  pub of_end : request.call ≡ end.call

-- ownership was lost: it held the lock
pub record Lost (w : World) (r : Returned) : Type 0 where
  pub at : EndsAt w r
  pub expired : ℕ
  pub says : at.end.answer ≡ answer.SessionExpired expired
  pub name : List ℕ
  pub what : LockOp
  pub on_lock : at.request.op ≡ op.Lock name what
  pub session : ℕ
  pub in_session : session_in at.request.op ≡ Some session
  pub held : HoldRecord
  pub told : holds_before w.requests w.ends name at.end at.place ≡ Some held

-- it held none
abbrev pub HeldNone : World → Returned → Type 0
HeldNone w r = (at : EndsAt w r) × ((name : List ℕ) (what : LockOp) (s : ℕ) → at.request.op ≡ op.Lock name what → session_in at.request.op ≡ Some s → holds_before w.requests w.ends name at.end at.place ≡ None)

pub record Loses (w : World) (r : Returned) : Type 0 where
  pub lost : r.what.ending ≡ ending.Answered answer.OwnershipLost → Lost w r ⊎ ((at : EndsAt w r) × (at.end.answer ≡ answer.OwnershipLost))
  pub kept : (x : ℕ) → r.what.ending ≡ ending.Answered (answer.SessionExpired x) → HeldNone w r

pub record Held (w : World) : Type 0 where
  pub clients : (me : ClientNo) → HeldBy w me (client_at w me)
  pub returns : (r : Returned) → Contains w.returns r → Loses w r

take-front : {X : Type 0} (xs ys : List X) (n : ℕ) (x : X) → slice_get xs n ≡ Some x → take n (xs ++ ys) ≡ take n xs
take-front [] ys n x h = absurd (none_some h)
take-front (y ∷ xs) ys zero x h = refl
take-front (y ∷ xs) ys (suc n) x h = ap (λ rest. y ∷ rest) (take-front xs ys n x h)

take-whole : {X : Type 0} (xs ys : List X) → take (length xs) (xs ++ ys) ≡ xs
take-whole [] ys = refl
take-whole (x ∷ xs) ys = ap (λ rest. x ∷ rest) (take-whole xs ys)

in-front : {X : Type 0} (xs : List X) (n : ℕ) (x : X) → Contains (take n xs) x → Contains xs x
in-front [] zero x h = h
in-front [] (suc n) x h = h
in-front (y ∷ xs) zero x h = absurd (no-element x h)
in-front (y ∷ xs) (suc n) x h = by (one-only y x (take n xs) h) (in-front xs n x) where
  by : (x ≡ y) ⊎ Contains (take n xs) x → (Contains (take n xs) x → Contains xs x) → Contains (y ∷ xs) x
  by (inl e) rest = subst (Contains (y ∷ xs)) (sym e) (at-head y xs)
  by (inr there) rest = at-tail y x xs (rest there)

module _ (plan : Plan) (w : World) (good : Good plan w) where
  same-ops : (q : Request) → Contains w.requests q → (r : Request) → Contains w.requests r → r.call ≡ q.call → r.op ≡ q.op
  same-ops q there r in_r same = let j = get-some w.requests r in_r in let k = get-some w.requests q there in
      ap (λ (z : Request). z.op) (same_some (sym j.1 ∙ (ap (slice_get w.requests) (good.distinct j.0 k.0 r q j.1 k.1 same) ∙ k.1)))

  -- the operation of each end is known
  known : (e : End) → Contains w.ends e → (o : Op) × (op_in w.requests e.call ≡ Some o)
  known e there = let q = (good.ends e there).entered in (q.request.op, subst (λ call. op_in w.requests call ≡ Some q.request.op) q.mine (op-of w.requests q.request q.begun (same-ops q.request q.begun)))

-- rows that are added take nothing away
module _ (plan : Plan) (w : World) (good : Good plan w) (more : List Request) (fresh : List End) where
  abbrev NowHas : World → Type 0
  NowHas v = (v.requests ≡ w.requests ++ more) × (v.ends ≡ w.ends ++ fresh)

  abbrev ends-on : (v : World) → NowHas v → (r : Returned) → EndsAt w r → EndsAt v r
  ends-on v has r h = record {
    end = h.end;
    place = h.place;
    stands = subst (λ rows. slice_get rows h.place ≡ Some h.end) (sym has.1) (get-left-at w.ends fresh h.place h.end h.stands);
    here = h.here;
    call_is = h.call_is;
    request = h.request;
    began = subst (λ rows. Contains rows h.request) (sym has.0) (Contains-append_left w.requests more h.request h.began);
    of_end = h.of_end;
  }

  before-on : (v : World) → NowHas v → (name : List ℕ) (e : End) (place : ℕ) → slice_get w.ends place ≡ Some e → holds_before v.requests v.ends name e place ≡ holds_before w.requests w.ends name e place
  before-on v has name e place at = ap (λ rows. holds_before rows v.ends name e place) has.0 ∙ (ap (λ rows. holds_before (w.requests ++ more) rows name e place) has.1
      ∙ (ap (λ rows. told_by (w.requests ++ more) name e.call.client e.call.thread e.group rows None) (take-front w.ends fresh place e at)
      ∙ told-on name e.call.client e.call.thread e.group w.requests more (take place w.ends) (λ x there. known plan w good x (in-front w.ends place x there)) None))

  loses-on : (v : World) → NowHas v → (r : Returned) → Loses w r → Loses v r
  loses-on v has r h = record { lost = λ e. lost-on (h.lost e); kept = λ x e. kept-on (h.kept x e) } where
    lost-on : Lost w r ⊎ ((at : EndsAt w r) × (at.end.answer ≡ answer.OwnershipLost)) → Lost v r ⊎ ((at : EndsAt v r) × (at.end.answer ≡ answer.OwnershipLost))
    lost-on (inr x) = inr (ends-on v has r x.0, x.1)
    lost-on (inl l) = inl (record { at = ends-on v has r l.at; expired = l.expired; says = l.says; name = l.name; what = l.what; on_lock = l.on_lock; session = l.session; in_session = l.in_session; held = l.held; told = before-on v has l.name l.at.end l.at.place l.at.stands ∙ l.told })

    kept-on : HeldNone w r → HeldNone v r
    kept-on k = (ends-on v has r k.0, λ name what s on_lock in_session. before-on v has name k.0.end k.0.place k.0.stands ∙ k.1 name what s on_lock in_session)

module _ (plan : Plan) (w : World) (me : ClientNo) (d : Did) (good : Good plan w) (h : Held w) where
  abbrev v : World
  v = note me d w

  -- a step that ends no request
  quiet-held : d.ended ≡ [] → d.client.holds ≡ (client_at w me).holds → ((r : Return) → Contains d.returns r → (x : Answer) → r.ending ≡ ending.Answered x → (x ≡ answer.Ok) ⊎ (x ≡ answer.Indeterminate ended_by.Deadline)) → Held (note me d w)
  quiet-held none same returns = record {
    clients = note-client plan w me d (λ y c. HeldBy v y c) (by me d.client same (h.clients me)) (λ y off. by y (client_at w y) refl (h.clients y));
    returns = λ r there. at r (Contains-append_cases w.returns (map (returns_now w me) d.returns) r there);
  }
    where
      ends-same : w.ends ++ map (ends_now w) d.ended ≡ w.ends
      ends-same = ap (λ (xs : List (Invocation × Answer)). w.ends ++ map (ends_now w) xs) none ∙ push-none w.ends [] refl

      by : (y : ClientNo) (c : Client) → c.holds ≡ (client_at w y).holds → HeldBy w y (client_at w y) → HeldBy v y c
      by y c e b = record {
        rising = subst (Rising lock_cmp) (sym e) b.rising;
        held = λ t name. ap (λ rows. find lock_cmp rows (t.0, 1, name)) e ∙ (b.held t name ∙ sym (ap (λ rows. told_by (w.requests ++ map (begins_now w) d.asked) name (replay_id y) t default_group rows None) ends-same
            ∙ told-on name (replay_id y) t default_group w.requests (map (begins_now w) d.asked) w.ends (known plan w good) None));
      }

      lost-other : (x : Answer) → (x ≡ answer.Ok) ⊎ (x ≡ answer.Indeterminate ended_by.Deadline) → x ≡ answer.OwnershipLost → ⊥
      lost-other x (inl e) f = no (sym e ∙ f) where
        no : answer.Ok ≡ answer.OwnershipLost → ⊥
        no k = cc
      lost-other x (inr e) f = no (sym e ∙ f) where
        no : answer.Indeterminate ended_by.Deadline ≡ answer.OwnershipLost → ⊥
        no k = cc

      expired-other : (n : ℕ) (x : Answer) → (x ≡ answer.Ok) ⊎ (x ≡ answer.Indeterminate ended_by.Deadline) → x ≡ answer.SessionExpired n → ⊥
      expired-other n x (inl e) f = no (sym e ∙ f) where
        no : answer.Ok ≡ answer.SessionExpired n → ⊥
        no k = cc
      expired-other n x (inr e) f = no (sym e ∙ f) where
        no : answer.Indeterminate ended_by.Deadline ≡ answer.SessionExpired n → ⊥
        no k = cc

      at : (r : Returned) → Contains w.returns r ⊎ Contains (map (returns_now w me) d.returns) r → Loses v r
      at r (inl there) = loses-on plan w good (map (begins_now w) d.asked) (map (ends_now w) d.ended) v (refl, refl) r (h.returns r there)
      at r (inr there) = let y = mapped (returns_now w me) d.returns r there in subst (Loses v) (sym y.2) (record {
        lost = λ e. absurd (lost-other answer.OwnershipLost (returns y.0 y.1 answer.OwnershipLost e) refl);
        kept = λ n e. absurd (expired-other n (answer.SessionExpired n) (returns y.0 y.1 (answer.SessionExpired n) e) refl);
      })

-- ---- an answer

at-self : (k : LockKey) → is_at (lock_cmp k) k ≡ true
at-self k = ap is_eq (lock_key.here k)

-- operations that concern no hold
abbrev is_plain : Op → Bool
is_plain (op.Lock n o) = false
is_plain (op.Destroy kind.Lock n) = false
is_plain o = true

after-plain : (name : List ℕ) (o : Op) (a : Answer) (x : Option HoldRecord) → is_plain o ≡ true → after_op name o a x ≡ x
after-plain name (op.Lock n o) a x e = absurd (no_false e)
after-plain name (op.Destroy kind.Lock n) a x e = absurd (no_false e)
after-plain name o a x e = refl

abbrev is_lock_op : Op → Bool
is_lock_op (op.Lock n o) = true
is_lock_op o = false

-- calls that concern none
abbrev plain_call : UserOp → Bool
plain_call (user.Lock object o) = false
plain_call (user.Destroy which object) = false
plain_call o = true

plain-of : (plan : Plan) (o : UserOp) (s round : ℕ) → plain_call o ≡ true → (is_plain (op_of plan o s round) ≡ true) × (is_lock_op (op_of plan o s round) ≡ false)
plain-of plan (user.Lock object o) s round e = absurd (no_false e)
plain-of plan (user.Destroy which object) s round e = absurd (no_false e)
plain-of plan (user.Long object o) s round e = (refl, refl)
plain-of plan (user.Ref object o) s round e = (refl, refl)
plain-of plan (user.Sem object o) s round e = (refl, refl)
plain-of plan (user.Jsem object o) s round e = (refl, refl)
plain-of plan (user.Latch object o) s round e = (refl, refl)
plain-of plan (user.Map object o) s round e = (refl, refl)
plain-of plan (user.CloseSession name) s round e = (refl, refl)
plain-of plan (user.Group o) s round e = (refl, refl)
plain-of plan (user.Member o) s round e = (refl, refl)
plain-of plan (user.Change o) s round e = (refl, refl)

both-true : {X : Type 0} (b c : Bool) (x y : X) → c ≡ true → (if b && c then x else y) ≡ (if b then x else y)
both-true true true x y e = refl
both-true false c x y e = refl
both-true true false x y e = absurd (no_false e)

one-false : {X : Type 0} (b c : Bool) (x y : X) → c ≡ false → (if b && c then x else y) ≡ y
one-false true false x y e = refl
one-false false c x y e = refl
one-false true true x y e = absurd (no_true e)

module _ (plan : Plan) (w : World) (request : Invocation) (a : Answer) (good : Good plan w) (given : GivenTo w request a) (groups : Groups (client_at w (client_of request))) (h : Held w) where
  abbrev c : Client
  c = client_at w (client_of request)

  abbrev q : Request
  q = given.answered.entered.request

  abbrev e0 : End
  e0 = ends_now w (request, a)

  of-client : request.client ≡ replay_id (client_of request)
  of-client = let e = given.answered.entered in subst (λ (x : Invocation). x.client ≡ replay_id (client_of x)) e.mine (good.clients_are e.request e.begun)

  same-op : (o : Op) → Knows (ledger_of w) request o → q.op ≡ o
  same-op o k = same-ops plan w good k.0 k.1 q given.answered.entered.begun (given.answered.entered.mine ∙ sym k.2) ∙ k.3

  abbrev Goal : Holds → Type 0
  Goal rows = (t : ThreadNo) (name : List ℕ) → find lock_cmp rows (t.0, 1, name) ≡ (if request.thread.0 == t.0 then after_op name q.op a (find lock_cmp c.holds (t.0, 1, name)) else find lock_cmp c.holds (t.0, 1, name))

  plain-goal : is_plain q.op ≡ true → Goal c.holds
  plain-goal e t name = by (request.thread.0 == t.0) where
    by : (b : Bool) → find lock_cmp c.holds (t.0, 1, name) ≡ (if b then after_op name q.op a (find lock_cmp c.holds (t.0, 1, name)) else find lock_cmp c.holds (t.0, 1, name))
    by true = sym (after-plain name q.op a (find lock_cmp c.holds (t.0, 1, name)) e)
    by false = refl

  -- a change of the record of one lock
  module _ (n : List ℕ) (rows : Holds) (f : Option HoldRecord → Option HoldRecord) (does : (name : List ℕ) (x : Option HoldRecord) → after_op name q.op a x ≡ (if bytes_eq n name then f x else x))
      (mine_is : find lock_cmp rows (request.thread.0, 1, n) ≡ f (find lock_cmp c.holds (request.thread.0, 1, n))) (others_stay : (j : LockKey) → is_at (lock_cmp j) (request.thread.0, 1, n) ≡ false → find lock_cmp rows j ≡ find lock_cmp c.holds j)
    where
      at-key : (t : ThreadNo) (name : List ℕ) → request.thread.0 ≡ t.0 → n ≡ name → find lock_cmp rows (t.0, 1, name) ≡ f (find lock_cmp c.holds (t.0, 1, name))
      at-key t name e same = subst (λ x. find lock_cmp rows (t.0, 1, x) ≡ f (find lock_cmp c.holds (t.0, 1, x))) same (subst (λ x. find lock_cmp rows (x, 1, n) ≡ f (find lock_cmp c.holds (x, 1, n))) e mine_is)

      apart-key : (t : ThreadNo) (name : List ℕ) → (request.thread.0 ≡ t.0 → n ≡ name → ⊥) → is_at (lock_cmp (t.0, 1, name)) (request.thread.0, 1, n) ≡ false
      apart-key t name off = by (is_at (lock_cmp (t.0, 1, name)) (request.thread.0, 1, n)) refl where
        by : (b : Bool) → is_at (lock_cmp (t.0, 1, name)) (request.thread.0, 1, n) ≡ b → is_at (lock_cmp (t.0, 1, name)) (request.thread.0, 1, n) ≡ false
        by true e = let k : (t.0, 1, name) ≡ (request.thread.0, 1, n) = lock_key.same (t.0, 1, name) (request.thread.0, 1, n) (equal_is _ e) in absurd (off (sym (ap (λ (x : LockKey). x.0) k)) (sym (ap (λ (x : LockKey). x.2) k)))
        by false e = e

      one-goal : Goal rows
      one-goal t name = by (request.thread.0 == t.0) refl where
        named : (b : Bool) → bytes_eq n name ≡ b → request.thread.0 ≡ t.0 → find lock_cmp rows (t.0, 1, name) ≡ (if b then f (find lock_cmp c.holds (t.0, 1, name)) else find lock_cmp c.holds (t.0, 1, name))
        named true e thread = at-key t name thread (bytes_same n name e)
        named false e thread = others_stay (t.0, 1, name) (apart-key t name (λ k same. no_true (sym (bytes_itself n) ∙ subst (λ x. bytes_eq n x ≡ false) (sym same) e)))

        by : (b : Bool) → (request.thread.0 == t.0) ≡ b → find lock_cmp rows (t.0, 1, name) ≡ (if b then after_op name q.op a (find lock_cmp c.holds (t.0, 1, name)) else find lock_cmp c.holds (t.0, 1, name))
        by true e = named (bytes_eq n name) refl (same_number request.thread.0 t.0 e) ∙ sym (does name (find lock_cmp c.holds (t.0, 1, name)))
        by false e = others_stay (t.0, 1, name) (apart-key t name (λ k same. no_true (sym (number_itself request.thread.0) ∙ subst (λ x. (request.thread.0 == x) ≡ false) (sym k) e)))

  lock-goal : (g : GroupId) (n : List ℕ) (limit s : ℕ) (oo : LockCall) → g ≡ default_group → q.op ≡ op.Lock n (lock_op limit oo s) → Goal (held_after (request.thread.0, g.0, n) oo s a c.holds).holds
  lock-goal g n limit s oo is op_is = subst (λ (x : GroupId). Goal (held_after (request.thread.0, x.0, n) oo s a c.holds).holds) (sym is)
      (one-goal n (held_after (request.thread.0, 1, n) oo s a c.holds).holds (after_lock (lock_op limit oo s) a) (λ name x. ap (λ o. after_op name o a x) op_is)
      (held-same (request.thread.0, 1, n) c.holds (h.clients (client_of request)).rising limit s oo a) (λ j apart. held-stays (request.thread.0, 1, n) j apart c.holds oo s a))

  -- a lock that is destroyed, or something else
  destroy-goal : (which : Kind) (g : GroupId) (n : List ℕ) → g ≡ default_group → q.op ≡ op.Destroy which n → Goal (if is_lock which && ends_holding a then without lock_cmp c.holds (request.thread.0, g.0, n) else c.holds)
  destroy-goal kind.Lock g n is op_is = subst (λ (x : GroupId). Goal (if ends_holding a then without lock_cmp c.holds (request.thread.0, x.0, n) else c.holds)) (sym is)
      (one-goal n (if ends_holding a then without lock_cmp c.holds (request.thread.0, 1, n) else c.holds) (λ x. if ends_holding a then None else x) (λ name x. ap (λ o. after_op name o a x) op_is ∙ swap (bytes_eq n name) (ends_holding a) x)
      (by (ends_holding a)) (λ j apart. either (λ rows. find lock_cmp rows j ≡ find lock_cmp c.holds j) (ends_holding a) _ _ (without-stays (request.thread.0, 1, n) j apart c.holds) refl))
    where
      swap : (b d : Bool) (x : Option HoldRecord) → (if b && d then None else x) ≡ (if b then (if d then None else x) else x)
      swap true d x = refl
      swap false d x = refl

      by : (b : Bool) → find lock_cmp (if b then without lock_cmp c.holds (request.thread.0, 1, n) else c.holds) (request.thread.0, 1, n) ≡ (if b then None else find lock_cmp c.holds (request.thread.0, 1, n))
      by true = gone (request.thread.0, 1, n) c.holds (h.clients (client_of request)).rising
      by false = refl
  destroy-goal which g n is op_is = plain-goal (ap is_plain op_is)

  -- ---- what returns

  abbrev mine : Did → Did
  mine d = record d { ended = (request, a) ∷ [] }

  abbrev row : Answer → Return
  row y = record { thread = request.thread; number = request.number; ending = ending.Answered y }

  module _ (d : Did) where
    abbrev u : World
    u = note (client_of request) (mine d) w

    abbrev ends-here : (y : Answer) → EndsAt u (returns_now w (client_of request) (row y))
    ends-here y = record {
      end = e0;
      place = length w.ends;
      stands = get-last w.ends e0;
      here = refl;
      call_is = λ j. record { client = of-client j; thread = request.thread; number = request.number };
      request = q;
      began = Contains-append_left w.requests (map (begins_now w) d.asked) q given.answered.entered.begun;
      of_end = given.answered.entered.mine;
    }

    before-is : (name : List ℕ) → holds_before u.requests u.ends name e0 (length w.ends) ≡ find lock_cmp c.holds (request.thread.0, 1, name)
    before-is name = ap (λ rows. told_by (w.requests ++ map (begins_now w) d.asked) name request.client request.thread default_group rows None) (take-whole w.ends (e0 ∷ []))
        ∙ (told-on name request.client request.thread default_group w.requests (map (begins_now w) d.asked) w.ends (known plan w good) None
        ∙ (ap (λ x. told_by w.requests name x request.thread default_group w.ends None) of-client ∙ sym ((h.clients (client_of request)).held request.thread name)))

    abbrev Ret : Answer → Type 0
    Ret y = Loses u (returns_now w (client_of request) (row y))

    ending-same : {x y : Answer} → ending.Answered x ≡ ending.Answered y → x ≡ y
    ending-same e = cc

    plain-ret : (y : Answer) → a ≡ y → ((x : ℕ) → a ≡ answer.SessionExpired x → (name : List ℕ) (what : LockOp) (s : ℕ) → q.op ≡ op.Lock name what → session_in q.op ≡ Some s → find lock_cmp c.holds (request.thread.0, 1, name) ≡ None) → Ret y
    plain-ret y is none = record {
      lost = λ e. inr (ends-here y, is ∙ ending-same e);
      kept = λ x e. (ends-here y, λ name what s on_lock in_session. before-is name ∙ none x (is ∙ ending-same e) name what s on_lock in_session);
    }

    -- no lock was asked for
    other-ret : is_lock_op q.op ≡ false → Ret a
    other-ret plain = plain-ret a refl (λ x e name what s on_lock. absurd (no_true (sym (ap is_lock_op on_lock) ∙ plain)))

    lost-expired : {x : ℕ} → answer.OwnershipLost ≡ answer.SessionExpired x → ⊥
    lost-expired e = cc

    session-of : (limit s : ℕ) (n : List ℕ) (oo : LockCall) → is_owner oo ≡ false → session_in (op.Lock n (lock_op limit oo s)) ≡ Some s
    session-of limit s n lock_call.Lock e = refl
    session-of limit s n (lock_call.Try ms) e = refl
    session-of limit s n lock_call.Unlock e = refl
    session-of limit s n lock_call.Owner e = absurd (no_true e)

    owner-none : (limit s : ℕ) (n : List ℕ) (oo : LockCall) → is_owner oo ≡ true → session_in (op.Lock n (lock_op limit oo s)) ≡ None
    owner-none limit s n lock_call.Lock e = absurd (no_false e)
    owner-none limit s n (lock_call.Try ms) e = absurd (no_false e)
    owner-none limit s n lock_call.Unlock e = absurd (no_false e)
    owner-none limit s n lock_call.Owner e = refl

    name-same : {m n : List ℕ} {o p : LockOp} → op.Lock m o ≡ op.Lock n p → m ≡ n
    name-same e = cc

    abbrev is_expired : Answer → Bool
    is_expired (answer.SessionExpired x) = true
    is_expired x = false

    lock-ret : (g : GroupId) (n : List ℕ) (limit s : ℕ) (oo : LockCall) (y : Answer) → a ≡ y → g ≡ default_group → q.op ≡ op.Lock n (lock_op limit oo s) → Ret (held_after (request.thread.0, g.0, n) oo s y c.holds).answer
    lock-ret g n limit s oo (answer.SessionExpired x) is group_is op_is = cases (λ (r : Holding). Ret r.answer) (is_owner oo) _ _
        (λ e. plain-ret (answer.SessionExpired x) is (λ z f name what u on_lock in_session. absurd (none_some (sym (owner-none limit s n oo e) ∙ (sym (ap session_in op_is) ∙ in_session)))))
        (λ e. subst (λ (k : GroupId). Ret (expired (request.thread.0, k.0, n) (answer.SessionExpired x) (find lock_cmp c.holds (request.thread.0, k.0, n)) c.holds).answer) (sym group_is) (by e (find lock_cmp c.holds (request.thread.0, 1, n)) refl))
      where
        by : is_owner oo ≡ false → (o : Option HoldRecord) → find lock_cmp c.holds (request.thread.0, 1, n) ≡ o → Ret (expired (request.thread.0, 1, n) (answer.SessionExpired x) o c.holds).answer
        by e None there = plain-ret (answer.SessionExpired x) is (λ z f name what u on_lock in_session. subst (λ m. find lock_cmp c.holds (request.thread.0, 1, m) ≡ None) (name-same (sym op_is ∙ on_lock)) there)
        by e (Some r) there = record {
          lost = λ f. inl (record { at = ends-here answer.OwnershipLost; expired = x; says = is; name = n; what = lock_op limit oo s; on_lock = op_is; session = s; in_session = ap session_in op_is ∙ session-of limit s n oo e; held = r; told = before-is n ∙ there });
          kept = λ z f. absurd (lost-expired (ending-same f));
        }
    lock-ret g n limit s oo y is group_is op_is = plain-ret y is (λ x e. absurd (no_true (sym (ap is_expired (sym is ∙ e)))))

    -- the step as a whole
    pub mine-held : Goal d.client.holds → Rising lock_cmp d.client.holds → ((r : Return) → Contains d.returns r → (y : Answer) × (r ≡ row y) × Ret y) → Held (note (client_of request) (mine d) w)
    mine-held goal rising returns = record {
      clients = note-client plan w (client_of request) (mine d) (λ y k. HeldBy u y k) me others;
      returns = λ r there. at r (Contains-append_cases w.returns (map (returns_now w (client_of request)) d.returns) r there);
    }
      where
        now-known : op_in (w.requests ++ map (begins_now w) d.asked) request ≡ Some q.op
        now-known = op-on w.requests (map (begins_now w) d.asked) request q.op
            (subst (λ call. op_in w.requests call ≡ Some q.op) given.answered.entered.mine (op-of w.requests q given.answered.entered.begun (same-ops plan w good q given.answered.entered.begun)))

        pushed : (y : ClientNo) (t : ThreadNo) (name : List ℕ) → told_by (w.requests ++ map (begins_now w) d.asked) name (replay_id y) t default_group (w.ends ++ e0 ∷ []) None
            ≡ (if (request.thread.0 == t.0) && same_client request.client (replay_id y) then after_op name q.op a (told_by w.requests name (replay_id y) t default_group w.ends None) else told_by w.requests name (replay_id y) t default_group w.ends None)
        pushed y t name = told-push name (replay_id y) t default_group (w.requests ++ map (begins_now w) d.asked) w.ends e0 None
            ∙ (ap (λ (o : Option Op). if (request.thread.0 == t.0) && same_client request.client (replay_id y) then after_request name o a (told_by (w.requests ++ map (begins_now w) d.asked) name (replay_id y) t default_group w.ends None) else told_by (w.requests ++ map (begins_now w) d.asked) name (replay_id y) t default_group w.ends None) now-known
            ∙ ap (λ (x : Option HoldRecord). if (request.thread.0 == t.0) && same_client request.client (replay_id y) then after_op name q.op a x else x)
            (told-on name (replay_id y) t default_group w.requests (map (begins_now w) d.asked) w.ends (known plan w good) None))

        mine-client : same_client request.client (replay_id (client_of request)) ≡ true
        mine-client = subst (λ (x : ClientId). same_client x (replay_id (client_of request)) ≡ true) (sym of-client) (bytes_itself (replay_id (client_of request)).0)

        other-client : (y : ClientNo) → (y ≡ client_of request → ⊥) → same_client request.client (replay_id y) ≡ false
        other-client y off = by (same_client request.client (replay_id y)) refl where
          by : (b : Bool) → same_client request.client (replay_id y) ≡ b → same_client request.client (replay_id y) ≡ false
          by true e = absurd (off (replay-same y (client_of request) (sym (ap (λ n. record { 0 = n }) (bytes_same request.client.0 (replay_id y).0 e)) ∙ of-client)))
          by false e = e

        me : HeldBy u (client_of request) d.client
        me = record {
          rising = rising;
          held = λ t name. let b = (h.clients (client_of request)).held t name in
              goal t name ∙ (ap (λ (x : Option HoldRecord). if request.thread.0 == t.0 then after_op name q.op a x else x) b
              ∙ (sym (both-true (request.thread.0 == t.0) (same_client request.client (replay_id (client_of request))) (after_op name q.op a (told_by w.requests name (replay_id (client_of request)) t default_group w.ends None))
              (told_by w.requests name (replay_id (client_of request)) t default_group w.ends None) mine-client) ∙ sym (pushed (client_of request) t name)));
        }

        others : (y : ClientNo) → (y ≡ client_of request → ⊥) → HeldBy u y (client_at w y)
        others y off = record {
          rising = (h.clients y).rising;
          held = λ t name. (h.clients y).held t name ∙ (sym (one-false (request.thread.0 == t.0) (same_client request.client (replay_id y)) (after_op name q.op a (told_by w.requests name (replay_id y) t default_group w.ends None)) (told_by w.requests name (replay_id y) t default_group w.ends None) (other-client y off)) ∙ sym (pushed y t name));
        }

        at : (r : Returned) → Contains w.returns r ⊎ Contains (map (returns_now w (client_of request)) d.returns) r → Loses u r
        at r (inl there) = loses-on plan w good (map (begins_now w) d.asked) (e0 ∷ []) u (refl, refl) r (h.returns r there)
        at r (inr there) = let y = mapped (returns_now w (client_of request)) d.returns r there in let x = returns y.0 y.1 in
            subst (Loses u) (sym (y.2 ∙ ap (returns_now w (client_of request)) x.1)) x.2

  -- what a call that ends leaves
  finished-held : (now : Pending) (o : UserOp) (p : Purpose) → now.group ≡ group_of o → PurposeOk plan (ledger_of w) (client_of request) request (task.Calls o) p
      → Goal (holding request.thread now.group o p a c.holds).holds × Rising lock_cmp (holding request.thread now.group o p a c.holds).holds × ((d : Did) → Loses (note (client_of request) (mine d) w) (returns_now w (client_of request) (row (holding request.thread now.group o p a c.holds).answer)))
  finished-held now (user.Lock object oo) (purpose.ForItself s) right ok = let op_is = same-op (op_of plan (user.Lock object oo) s ok.0.0) ok.0.1 in (
    lock-goal now.group object.name (limit_of plan.limits object.name) s oo right op_is,
    held-rising (request.thread.0, now.group.0, object.name) c.holds (h.clients (client_of request)).rising oo s a,
    λ d. lock-ret d now.group object.name (limit_of plan.limits object.name) s oo a refl right op_is,
  )
  finished-held now (user.Lock object oo) purpose.ForSession right ok = let op_is = same-op (op.Session session.Open) ok.1 in (plain-goal (ap is_plain op_is), (h.clients (client_of request)).rising, λ d. other-ret d (ap is_lock_op op_is))
  finished-held now (user.Lock object oo) purpose.ForRound right ok = absurd (no ok.1) where
    no : {x : Object} → user.Lock object oo ≡ user.Latch x latch_call.Down → ⊥
    no e = cc
  finished-held now (user.Destroy which object) (purpose.ForItself s) right ok = let op_is = same-op (op_of plan (user.Destroy which object) s ok.0.0) ok.0.1 in (
    destroy-goal which now.group object.name right op_is,
    either (Rising lock_cmp) (is_lock which && ends_holding a) _ _ (rising-without lock_cmp lock_key lock_total c.holds (request.thread.0, now.group.0, object.name) (h.clients (client_of request)).rising) (h.clients (client_of request)).rising,
    λ d. other-ret d (ap is_lock_op op_is),
  )
  finished-held now (user.Destroy which object) purpose.ForSession right ok = absurd (no_false ok.0)
  finished-held now (user.Destroy which object) purpose.ForRound right ok = absurd (no ok.1) where
    no : {x : Object} → user.Destroy which object ≡ user.Latch x latch_call.Down → ⊥
    no e = cc
  finished-held now o (purpose.ForItself s) right ok = let op_is = same-op (op_of plan o s ok.0.0) ok.0.1 in let plain = plain-of plan o s ok.0.0 refl in
      (plain-goal (ap is_plain op_is ∙ plain.0), (h.clients (client_of request)).rising, λ d. other-ret d (ap is_lock_op op_is ∙ plain.1))
  finished-held now o purpose.ForSession right ok = let op_is = same-op (op.Session session.Open) ok.1 in (plain-goal (ap is_plain op_is), (h.clients (client_of request)).rising, λ d. other-ret d (ap is_lock_op op_is))
  finished-held now o purpose.ForRound right ok = let op_is = same-op (op.Latch ok.0.name latch.Round) ok.2 in (plain-goal (ap is_plain op_is), (h.clients (client_of request)).rising, λ d. other-ret d (ap is_lock_op op_is))

  -- going on leaves the records as they are
  module _ (call : Call) (k : Client) where
    session-same : (so : Option ℕ) → ((in_session plan (replay_id (client_of request)) call so k).client.holds ≡ k.holds) × ((in_session plan (replay_id (client_of request)) call so k).returns ≡ [])
    session-same None = (refl, refl)
    session-same (Some s) = (refl, refl)

    need-same : (need : Need) → needs_session need ≡ true → ((by_need plan (replay_id (client_of request)) need call k).client.holds ≡ k.holds) × ((by_need plan (replay_id (client_of request)) need call k).returns ≡ [])
    need-same Nothing n = absurd (no_false n)
    need-same (HoldingSession name) n = session-same (holding_session call name k)
    need-same ItsSession n = session-same (session_in_group k call.group)
    need-same SessionToClose n = absurd (no_false n)
    need-same (Round name) n = absurd (no_false n)

  with-same : (g : GroupId) (s : ℕ) → (with_session g s c).holds ≡ c.holds
  with-same g s = either (λ (x : Client). x.holds ≡ c.holds) (has_session g s c) _ _ refl refl

  same-held : (d : Did) → is_plain q.op ≡ true → d.client.holds ≡ c.holds → d.returns ≡ [] → Held (note (client_of request) (mine d) w)
  same-held d plain same none = mine-held d (subst Goal (sym same) (plain-goal plain)) (subst (Rising lock_cmp) (sym same) (h.clients (client_of request)).rising) (λ r there. absurd (no-element r (subst (λ rows. Contains rows r) none there)))

  prepared-held : (now : Pending) (o : UserOp) (p : Purpose) (x : Answer) → a ≡ x → now.group ≡ group_of o → PurposeOk plan (ledger_of w) (client_of request) request (task.Calls o) p
      → Held (note (client_of request) (mine (prepared plan (replay_id (client_of request)) request.number (call_in request now o) p x c)) w)
  prepared-held now o purpose.ForSession (answer.Session s) is right ok = let k = need-same (call_in request now o) (with_session now.group s c) (need_of o) ok.0 in
      same-held (prepared plan (replay_id (client_of request)) request.number (call_in request now o) purpose.ForSession (answer.Session s) c) (ap is_plain (same-op (op.Session session.Open) ok.1)) (k.0 ∙ with-same now.group s) k.1
  prepared-held now o purpose.ForRound (answer.Value r) is right ok = same-held (prepared plan (replay_id (client_of request)) request.number (call_in request now o) purpose.ForRound (answer.Value r) c) (ap is_plain (same-op (op.Latch ok.0.name latch.Round) ok.2)) refl refl
  prepared-held now o p x is right ok = subst (λ y. Held (note (client_of request) (mine (finished request.number (call_in request now o) p y c)) w)) is (ends (finished-held now o p right ok)) where
    ends : Goal (holding request.thread now.group o p a c.holds).holds × Rising lock_cmp (holding request.thread now.group o p a c.holds).holds × ((d : Did) → Loses (note (client_of request) (mine d) w) (returns_now w (client_of request) (row (holding request.thread now.group o p a c.holds).answer)))
        → Held (note (client_of request) (mine (finished request.number (call_in request now o) p a c)) w)
    ends f = mine-held (finished request.number (call_in request now o) p a c) f.0 f.1 (λ r there. ((holding request.thread now.group o p a c.holds).answer, one-is (row (holding request.thread now.group o p a c.holds).answer) r there, f.2 (finished request.number (call_in request now o) p a c)))

  task-held : (x : Task) (now : Pending) → GroupOk x now.group → PurposeOk plan (ledger_of w) (client_of request) request x now.purpose → Held (note (client_of request) (mine (on_task plan (replay_id (client_of request)) request x now a c)) w)
  task-held (task.Calls o) now right ok = prepared-held now o now.purpose a refl right ok
  task-held (task.Beats s) now right ok = same-held (on_task plan (replay_id (client_of request)) request (task.Beats s) now a c) (ap is_plain (same-op (op.Session (session.Beat s)) ok)) refl refl

  same-request : (number : ℕ) → number ≡ request.number → record { client = replay_id (client_of request); thread = request.thread; number = number } ≡ request
  same-request number e = λ j. record { client = sym of-client j; thread = request.thread; number = e j }

  nothing-held : Held (note (client_of request) (nothing c) w)
  nothing-held = quiet-held plan w (client_of request) (nothing c) good h refl refl (λ r there. absurd (no-element r there))

  pending-held : (now : Option Pending) → (thread_at c request.thread).pending ≡ now → (thread_at c request.thread).number ≡ request.number → Held (note (client_of request) (on_pending plan (replay_id (client_of request)) request now a c) w)
  pending-held None is same = nothing-held
  pending-held (Some now) is same = task-held now.task now (groups request.thread now is)
      (subst (λ call. PurposeOk plan (ledger_of w) (client_of request) call now.task now.purpose) (same-request (thread_at c request.thread).number same) ((good.clients (client_of request)).pending request.thread now is).for_purpose)

  pub answer-held : Held (note (client_of request) (answer_client plan (replay_id (client_of request)) request a (client_at w (client_of request))) w)
  answer-held = cases (λ (d : Did). Held (note (client_of request) d w)) ((thread_at c request.thread).number == request.number) _ _ (λ e. pending-held (thread_at c request.thread).pending refl (same_number (thread_at c request.thread).number request.number e)) (λ e. nothing-held)

-- ---- calls and ticks

ending-is : {x y : Answer} → ending.Answered x ≡ ending.Answered y → x ≡ y
ending-is e = cc

-- a step keeps the records of locks
module _ (plan : Plan) (me : ClientNo) (call : Call) (c : Client) where
  abbrev Says : List Return → Type 0
  Says rs = (r : Return) → Contains rs r → (x : Answer) → r.ending ≡ ending.Answered x → (x ≡ answer.Ok) ⊎ (x ≡ answer.Indeterminate ended_by.Deadline)

  abbrev Keeps : Did → Type 0
  Keeps d = (d.client.holds ≡ c.holds) × Says d.returns

  none-says : Says []
  none-says r there = absurd (no-element r there)

  session-keeps : (so : Option ℕ) → Keeps (in_session plan (replay_id me) call so c)
  session-keeps None = (refl, none-says)
  session-keeps (Some s) = (refl, none-says)

  closing-keeps : (so : Option ℕ) → Keeps (closing plan (replay_id me) call so c)
  closing-keeps None = (refl, λ r there x is. inl (ending-is (sym is ∙ ap (λ (z : Return). z.ending) (one-is (record { thread = call.thread; number = (thread_at c call.thread).number + 1; ending = ending.Answered answer.Ok }) r there))))
  closing-keeps (Some s) = (refl, none-says)

  need-keeps : (need : Need) → Keeps (by_need plan (replay_id me) need call c)
  need-keeps Nothing = (refl, none-says)
  need-keeps (HoldingSession name) = session-keeps (holding_session call name c)
  need-keeps ItsSession = session-keeps (session_in_group c call.group)
  need-keeps SessionToClose = closing-keeps (session_in_group c call.group)
  need-keeps (Round name) = (refl, none-says)

abbrev SaysLate : List Return → Type 0
SaysLate rs = (r : Return) → Contains rs r → (x : Answer) → r.ending ≡ ending.Answered x → (x ≡ answer.Ok) ⊎ (x ≡ answer.Indeterminate ended_by.Deadline)

both-say : (xs ys : List Return) → SaysLate xs → SaysLate ys → SaysLate (xs ++ ys)
both-say xs ys f g r there = at (Contains-append_cases xs ys r there) where
  at : Contains xs r ⊎ Contains ys r → (x : Answer) → r.ending ≡ ending.Answered x → (x ≡ answer.Ok) ⊎ (x ≡ answer.Indeterminate ended_by.Deadline)
  at (inl t) = f r t
  at (inr t) = g r t

late-keeps : (t : ThreadNo) (c : Client) → ((end_late t c).client.holds ≡ c.holds) × SaysLate (end_late t c).returns
late-keeps t c = either (λ (d : Did). (d.client.holds ≡ c.holds) × SaysLate d.returns) (is_late c.clock (thread_at c t).pending) _ _
    (refl, λ r there x is. inr (ending-is (sym is ∙ ap (λ (z : Return). z.ending) (one-is (record { thread = t; number = (thread_at c t).number; ending = ending.Answered (answer.Indeterminate ended_by.Deadline) }) r there)))) (refl, λ r there. absurd (no-element r there))

each-keeps : (ts : List ThreadNo) (c : Client) → ((end_each ts c).client.holds ≡ c.holds) × SaysLate (end_each ts c).returns
each-keeps [] c = (refl, λ r there. absurd (no-element r there))
each-keeps (t ∷ ts) c = let x = late-keeps t c in let y = each-keeps ts (end_late t c).client in (y.0 ∙ x.0, both-say (end_late t c).returns (end_each ts (end_late t c).client).returns x.1 y.1)

due-keeps : (me : ClientNo) (g : ℕ) (own : OwnSession) (c : Client) → ((beat_if_due (replay_id me) g own c).client.holds ≡ c.holds) × SaysLate (beat_if_due (replay_id me) g own c).returns
due-keeps me g own c = either (λ (d : Did). (d.client.holds ≡ c.holds) × SaysLate d.returns) (is_due own c) _ _ (refl, λ r there. absurd (no-element r there)) (refl, λ r there. absurd (no-element r there))

beats-keep : (me : ClientNo) (rows : Sessions) (c : Client) → ((beat_each (replay_id me) rows c).client.holds ≡ c.holds) × SaysLate (beat_each (replay_id me) rows c).returns
beats-keep me [] c = (refl, λ r there. absurd (no-element r there))
beats-keep me (row ∷ rows) c = let x = due-keeps me row.0 row.1 c in let y = beats-keep me rows (beat_if_due (replay_id me) row.0 row.1 c).client in
    (y.0 ∙ x.0, both-say (beat_if_due (replay_id me) row.0 row.1 c).returns (beat_each (replay_id me) rows (beat_if_due (replay_id me) row.0 row.1 c).client).returns x.1 y.1)

tick-keeps : (me : ClientNo) (ms : ℕ) (c : Client) → ((tick_client (replay_id me) ms c).client.holds ≡ c.holds) × SaysLate (tick_client (replay_id me) ms c).returns
tick-keeps me ms c = let x = each-keeps user_threads (record c { clock = c.clock + ms }) in let m = (end_each user_threads (record c { clock = c.clock + ms })).client in let y = beats-keep me (end_each user_threads (record c { clock = c.clock + ms })).client.sessions (end_each user_threads (record c { clock = c.clock + ms })).client in
    (y.0 ∙ x.0, both-say (end_each user_threads (record c { clock = c.clock + ms })).returns (beats (replay_id me) (end_each user_threads (record c { clock = c.clock + ms })).client).returns x.1 y.1)

-- ---- runs

abbrev Both : World → Type 0
Both w = Seen w (openings w) × Held w

abbrev Between : World → Type 0
Between w = Seen w (openings_in w.effects) × Held w

-- an end in another world of the same rows
abbrev at-on : (w v : World) → v.requests ≡ w.requests → v.ends ≡ w.ends → (r : Returned) → EndsAt w r → EndsAt v r
at-on w v requests ends r x = record { end = x.end; place = x.place; stands = subst (λ rows. slice_get rows x.place ≡ Some x.end) (sym ends) x.stands; here = x.here; call_is = x.call_is; request = x.request; began = subst (λ rows. Contains rows x.request) (sym requests) x.began; of_end = x.of_end }

held-same-world : (w v : World) → v.clients ≡ w.clients → v.requests ≡ w.requests → v.ends ≡ w.ends → v.returns ≡ w.returns → Held w → Held v
held-same-world w v clients requests ends returns h = record {
  clients = λ me. subst (λ rows. HeldBy v me (or_new (find nat_cmp rows me.0))) (sym clients) (record { rising = (h.clients me).rising; held = λ t name. (h.clients me).held t name ∙ sym (ap (λ rows. told_by rows name (replay_id me) t default_group v.ends None) requests ∙ ap (λ rows. told_by w.requests name (replay_id me) t default_group rows None) ends) });
  returns = λ r there. loses r (h.returns r (subst (λ rows. Contains rows r) returns there));
}
  where
    before : (name : List ℕ) (e : End) (place : ℕ) → holds_before v.requests v.ends name e place ≡ holds_before w.requests w.ends name e place
    before name e place = ap (λ rows. holds_before rows v.ends name e place) requests ∙ ap (λ rows. holds_before w.requests rows name e place) ends

    loses : (r : Returned) → Loses w r → Loses v r
    loses r x = record { lost = λ e. lost (x.lost e); kept = λ n e. kept (x.kept n e) } where
      lost : Lost w r ⊎ ((at : EndsAt w r) × (at.end.answer ≡ answer.OwnershipLost)) → Lost v r ⊎ ((at : EndsAt v r) × (at.end.answer ≡ answer.OwnershipLost))
      lost (inr y) = inr (at-on w v requests ends r y.0, y.1)
      lost (inl l) = inl (record { at = at-on w v requests ends r l.at; expired = l.expired; says = l.says; name = l.name; what = l.what; on_lock = l.on_lock; session = l.session; in_session = l.in_session; held = l.held; told = before l.name l.at.end l.at.place ∙ l.told })

      kept : HeldNone w r → HeldNone v r
      kept k = (at-on w v requests ends r k.0, λ name what s on_lock in_session. before name k.0.end k.0.place ∙ k.1 name what s on_lock in_session)

both-served : (plan : Plan) → IsServed plan Both Between
both-served plan = let k = seen-served plan in record {
  calls = λ me t o w good after h. (
    k.calls me t o w good after h.0,
    (let x = need-keeps plan me (record { thread = t; group = group_of o; op = o; deadline = deadline_of (client_at w me).clock (wish_of o) }) (client_at w me) (need_of o) in
        quiet-held plan w me (call_client plan (replay_id me) t o (client_at w me)) good h.1 (go-ends plan me (record { thread = t; group = group_of o; op = o; deadline = deadline_of (client_at w me).clock (wish_of o) }) (client_at w me)) x.0 x.1),
  );
  ticks = λ me ms w good after h. (k.ticks me ms w good after h.0, (let x = tick-keeps me ms (client_at w me) in quiet-held plan w me (tick_client (replay_id me) ms (client_at w me)) good h.1 (tick-ends me ms (client_at w me)) x.0 x.1));
  answers = λ request a w good desked given after h. (k.answers request a w good desked given after h.0, answer-held plan w request a good given (h.0.clients (client_of request)).groups h.1);
  commits = λ a w h. (k.commits a w h.0, held-same-world w (commit a w) refl refl refl refl h.1);
  empties = λ w h. (k.empties w h.0, held-same-world w (record w { queue = [] }) refl refl refl refl h.1);
  ignores = λ cause w h. (k.ignores cause w h.0, held-same-world w (ignore cause w) refl refl refl refl h.1);
  called = λ c w earlier h. (k.called c w earlier h.0, held-same-world w (record w { calls = w.calls ++ c ∷ [] }) refl refl refl refl h.1);
  moved = λ m w h. (k.moved m w h.0, held-same-world w (record w { moves = w.moves ++ m ∷ [] }) refl refl refl refl h.1);
  starts = λ e w l h. (k.starts e w l h.0, held-same-world w (start e w) refl refl refl refl h.1);
  closes = λ w h. (k.closes w h.0, held-same-world w (close w) refl refl refl refl h.1);
}

rising-none : Rising {X = HoldRecord} lock_cmp []
unfolding IsStrictlySortedBy
rising-none = tt

none-held : Held new_world
none-held = record { clients = λ me. record { rising = rising-none; held = λ t name. refl }; returns = λ r there. absurd (no-element r there) }

pub all-held : (plan : Plan) (events : List Event) → Seen (world_after plan new_world events) (openings_in (world_after plan new_world events).effects) × Held (world_after plan new_world events)
all-held plan events = all-served plan Both Between (both-served plan) events (none-seen, none-held)
