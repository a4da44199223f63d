-- Each answer of a history has its cause: an induction over the entries.
use Rattle.std.proofs.Common.{is_some, ◌≡◌, ℕ, ◌+◌, ◌-◌, ◌^◌, ◌<◌, ◌≤◌, ◌⊎◌, inl, inr, Bool, true, false, ◌&&◌, ◌||◌, List, [], ◌∷◌, ◌++◌, Some, None, Option, refl, sym, subst, ap, ◌∙◌, arith, length, zero, suc, le_trans, if◌then◌else◌}
use Rattle.std.specs.Prelude.{◌==◌, nat_lt, Contains, slice_get}
use Rattle.std.specs.Ordering.{nat_cmp}
use Rattle.std.proofs.lemmas.Bool.Decides.{nat_tests}
use Rattle.std.proofs.lemmas.List.Elements.{All-contains, All-nil, Contains-append_cases, Contains-append_right}
use Rattle.cp_base.specs.declared.identifier.ClientId.{ClientId}
use Rattle.cp_base.specs.declared.identifier.GroupId.{GroupId}
use Rattle.cp_base.specs.declared.identifier.Invocation.{Invocation}
use Rattle.cp_base.proofs.Tests.{same_number, less, no_true}
use Rattle.cp_answers.specs.declared.answer.Answer.{Answer}
use Rattle.cp_answers.specs.declared.answer.Answer.TheVariants as answer
use Rattle.cp_ops.specs.declared.entry.Entry.{Entry}
use Rattle.cp_ops.specs.declared.entry.Entry.TheVariants as entry
use Rattle.cp_ops.specs.declared.op.Op.{Op}
use Rattle.cp_ops.specs.declared.op.Op.TheVariants as op
use Rattle.cp_ops.specs.declared.session_op.SessionOp.TheVariants as session
use Rattle.cp_op_values.specs.declared.wish.Wish.TheVariants as wish
use Rattle.cp_group_state.specs.Rows.{Object, find, most, holder_cmp}
use Rattle.cp_group_state.specs.declared.rows.Waiter.{Waiter}
use Rattle.cp_group_state.specs.Waiters.{Ended, same_call, same_client, stands}
use Rattle.cp_group_state.specs.declared.rows.MemoryRow.{MemoryRow}
use Rattle.cp_group_state.specs.declared.rows.SessionRow.{SessionRow}
use Rattle.cp_group_state.specs.Sessions.{is_of, is_open_for, unchanged_since}
use Rattle.cp_group_state.specs.declared.rows.LatchRow.{LatchRow}
use Rattle.cp_group_state.specs.GroupState.{GroupState, empty}
use Rattle.cp_group_state.specs.Changes.{Change, end_all, for_each}
use Rattle.cp_group_state.specs.Closing.{close}
use Rattle.cp_group_state.specs.Serving.{serve_left}
use Rattle.cp_group_state.specs.declared.outcome.Reply.{Reply}
use Rattle.cp_group_state.specs.declared.outcome.Reply.TheVariants.{Answered, Waits}
use Rattle.cp_group_state.specs.Outcomes.{Outcome}
use Rattle.cp_group_state.specs.Destroying.{is_gone, names_gone, object_of}
use Rattle.cp_group_state.specs.Protected.{session_in}
use Rattle.cp_group_state.specs.Apply.{Applied, after_change, apply, apply_call, by_memory, by_session, give_again, is_elsewhere, members_answer, outcome, perform, rule, run, settle, settle_wait, supersede, time_out, told}
use Rattle.cp_group_state.specs.History.{History, IsBelow, IsGivenAt, IsOrderly, IsOrderlyAt, state_before}
use Rattle.cp_group_state.proofs.Walk.{cases, either}
use Rattle.cp_group_state.proofs.Grows.{Grows, is_of-same}
use Rattle.cp_group_state.proofs.Steps.{RoundsWithin, grows-apply, grows-supersede, within-apply}
use Rattle.cp_group_state.proofs.Told.{Told, tells_closed, told-apply}
use Rattle.cp_group_state.proofs.Walk.{walk_supersede}
use Rattle.cp_group_state.proofs.Asked.{AllAsked, asked-apply, asked-supersede}
use Rattle.cp_group_state.proofs.Keyed.{client-itself, same-client}
use Rattle.cp_group_state.proofs.Moments.{by-states, given-by, given-of, orderly-at, run-entry, run-gives, state-then}
use Rattle.cp_group_causes.specs.Moments.{StandsBy, WasOpenFor, SessionsAreOwn, session_used}
use Rattle.cp_group_causes.specs.Causes.{EndsSession, HasCause, IsDestroyed, IsImpatient, IsRuled, SessionEnded, is_open, must_wait, wish_in}
use Rattle.cp_group_causes.specs.Laws.{AllHaveCauses}
use Rattle.cp_group_causes.proofs.Lists.{no-element, one-is, one-only, at-head, mapped, get-contains, get-in}
use Rattle.cp_group_causes.proofs.Acts.{ActsBy, Closes, ClosesNow, DestroysNow, Expires, IsEndedFor, MayEndBy, SessionsUpTo, destroy-by, expire-by, outcome-by, supersede-by, time_out-by, unchanged-among, unchanged-open}
use Rattle.cp_group_causes.proofs.Rules.{IsOfRule, RepliesSo, rule-replies}
use Rattle.cp_group_causes.proofs.After.{After, GoneByEntry, IsOldRow, IsOwnRow, after-apply, closed-none, closes-now, gone-after, performed-told}

-- a session that an operation names is one that it works in
pub names-used : (o : Op) (s : ℕ) → session_in o ≡ Some s → session_used o ≡ Some s
names-used (op.Session l) s h = absurd (no h) where
  no : None ≡ Some s → ⊥
  no k = cc
names-used (op.Long name l) s h = h
names-used (op.Ref name l) s h = h
names-used (op.Map name l) s h = h
names-used (op.Lock name l) s h = h
names-used (op.Sem name l) s h = h
names-used (op.Jsem name l) s h = h
names-used (op.Latch name l) s h = h
names-used (op.Destroy which name) s h = h
names-used (op.Group l) s h = h
names-used (op.Member l) s h = h
names-used (op.Change l) s h = h

-- sessions
is_of-one : (a b : ClientId) (row : Option SessionRow) → is_of a row ≡ true → is_of b row ≡ true → a ≡ b
is_of-one a b None h k = cc
is_of-one a b (Some row) h k = sym (same-client row.client a h) ∙ same-client row.client b k

open-some : (client : ClientId) (row : Option SessionRow) → is_of client row ≡ true → is_some row ≡ true
open-some client None h = h
open-some client (Some row) h = refl

all_three : (a b c : Bool) → a ≡ true → b ≡ true → c ≡ true → (a && (b && c)) ≡ true
all_three true true c h k l = l
all_three true false c h k l = absurd (no_true (sym k))
all_three false b c h k l = absurd (no_true (sym h))

number-itself : (n : ℕ) → (n == n) ≡ true
number-itself n = grind (arith, nat_tests)

call-itself : (call : Invocation) → same_call call call ≡ true
call-itself call = all_three (same_client call.client call.client) (call.thread.0 == call.thread.0) (call.number == call.number) (client-itself call.client) (number-itself call.thread.0) (number-itself call.number)

module _ (history : History) where
  stands-later : (n m : ℕ) (e : Entry) → n ≤ m → StandsBy history n e → StandsBy history m e
  stands-later n m e l h = record { place = h.place; in_time = le_trans h.in_time l; there = h.there }

  ruled-later : (n m : ℕ) (call : Invocation) (a : Answer) → n ≤ m → IsRuled history n call a → IsRuled history m call a
  ruled-later n m call a l h = record { op = h.op; place = h.place; in_time = le_trans h.in_time l; own = h.own; judged = h.judged; given = h.given }

  over-later : (n m x : ℕ) → n ≤ m → SessionEnded history n x → SessionEnded history m x
  over-later n m x l h = record { entry = h.entry; place = h.place; in_time = le_trans h.in_time l; there = h.there; ends = h.ends; before = h.before; after = h.after }

  pub cause-later : (n m : ℕ) (call : Invocation) (a : Answer) → n ≤ m → HasCause history n call a → HasCause history m call a
  cause-later n m call answer.NotOwner l h = ruled-later n m call answer.NotOwner l h
  cause-later n m call (answer.LimitReached x) l h = ruled-later n m call (answer.LimitReached x) l h
  cause-later n m call (answer.NotHeld x) l h = ruled-later n m call (answer.NotHeld x) l h
  cause-later n m call answer.NotInitialized l h = ruled-later n m call answer.NotInitialized l h
  cause-later n m call (answer.TableFull x) l h = ruled-later n m call (answer.TableFull x) l h
  cause-later n m call (answer.BadArgument x) l h = ruled-later n m call (answer.BadArgument x) l h
  cause-later n m call (answer.SessionExpired s) l h = over-later n m s l h
  cause-later n m call answer.TimedOut l (inl h) = inl (record { ruled = record { op = h.ruled.op; place = h.ruled.place; in_time = le_trans h.ruled.in_time l; own = h.ruled.own; judged = h.ruled.judged; given = h.ruled.given }; at_once = h.at_once; in_vain = h.in_vain })
  cause-later n m call answer.TimedOut l (inr h) = inr (record { calls = h.calls; place = h.place; in_time = le_trans h.in_time l; there = h.there; named = h.named; waited = h.waited })
  cause-later n m call (answer.WaitCancelled x) l h = (h.0, h.1, stands-later n m _ l h.2, h.3, h.4, h.5, h.6)
  cause-later n m call (answer.Stale x) l h = (h.0, le_trans h.1 l, h.2)
  cause-later n m call answer.ObjectDestroyed l h = record { asked = h.asked; own = h.own; object = h.object; names = h.names; by = h.by; place = h.place; in_time = le_trans h.in_time l; there = h.there; done = h.done }
  cause-later n m call (answer.GroupDestroyed g) l h = stands-later n m _ l h
  cause-later n m call answer.OwnershipLost l h = absurd h
  cause-later n m call (answer.Indeterminate by) l h = absurd h
  cause-later n m call a l h = tt

  -- a destroy of this object that was answered so
  pub record Destroyed (n : ℕ) (key : Object) : Type 0 where
    pub by : Invocation
    pub place : ℕ
    pub in_time : place < n
    pub there : slice_get history place ≡ Some (entry.Call by (op.Destroy key.1 key.0))
    pub done : IsGivenAt history (place + 1) by answer.Ok

  destroyed-later : (n m : ℕ) (key : Object) → n ≤ m → Destroyed n key → Destroyed m key
  destroyed-later n m key l h = record { by = h.by; place = h.place; in_time = le_trans h.in_time l; there = h.there; done = h.done }

  destroyed-cause : (n : ℕ) (key : Object) (call : Invocation) (o : Op) → Contains history (entry.Call call o) → object_of o ≡ Some key → Destroyed n key → IsDestroyed history n call
  destroyed-cause n key call o own names h = record { asked = o; own = own; object = key; names = names; by = h.by; place = h.place; in_time = h.in_time; there = h.there; done = h.done }

  -- What holds before the entry at this place, where so much was told.
  pub record Knows (place : ℕ) (past : List (Invocation × Answer)) (s : GroupState) : Type 0 where
    pub here : state_before history place ≡ s
    pub rounds : RoundsWithin place s.latches
    pub answers : Told (place + 1) past s
    pub caused : (call : Invocation) (a : Answer) → Contains past (call, a) → HasCause history place call a
    pub asked : AllAsked history s
    pub gone : (key : Object) → is_gone s key ≡ true → Destroyed place key
    pub destroyed : (s.destroyed_group.0 == 0) ≡ false → StandsBy history place (entry.Destroy s.destroyed_group)
    pub sessions : (x : ℕ) (client : ClientId) → WasOpenFor history place x client → (is_open_for s.sessions x client ≡ true) ⊎ SessionEnded history place x
    pub upto : SessionsUpTo place s
    pub memory : (x thread : ℕ) (row : MemoryRow) → find holder_cmp s.memory (x, thread) ≡ Some row → (client : ClientId) → is_open_for s.sessions x client ≡ true
        → (o : Op) × StandsBy history place (entry.Call (record { client = client; thread = record { 0 = thread }; number = row.number }) o)

  -- the entry at this place
  module _ (place : ℕ) (e : Entry) (is : slice_get history place ≡ Some e) where
    now : StandsBy history (place + 1) e
    now = record { place = place; in_time = omega arith; there = is }

    stands-as : (x : Entry) → e ≡ x → StandsBy history (place + 1) x
    stands-as x same = subst (StandsBy history (place + 1)) same now

    -- who waits at a moment, and is of those that wait before the entry
    abbrev pub WaitedBefore : GroupState → Type 0
    WaitedBefore s = (w : Waiter) → Contains s.waiters w → Contains (state_before history place).waiters w

    waiter-stands : (ws : List Waiter) (w : Waiter) → Contains ws w → stands w.call ws ≡ true
    waiter-stands [] w h = absurd (no-element w h)
    waiter-stands (v ∷ ws) w h = at (one-only v w ws h) (waiter-stands ws w) where
      head : (b : Bool) → (true || b) ≡ true
      head b = refl

      tail : (a b : Bool) → b ≡ true → (a || b) ≡ true
      tail true b h = refl
      tail false b h = h

      at : (w ≡ v) ⊎ Contains ws w → (Contains ws w → stands w.call ws ≡ true) → stands w.call (v ∷ ws) ≡ true
      at (inl same) rest = subst (λ (c : Waiter). (same_call w.call c.call || stands w.call ws) ≡ true) same (subst (λ b. (b || stands w.call ws) ≡ true) (sym (call-itself w.call)) (head (stands w.call ws)))
      at (inr k) rest = tail (same_call w.call v.call) (stands w.call ws) (rest k)

    -- whom the entry ends, where these sessions are closed and these objects are destroyed
    module _ (C : ℕ → Type 0) (D : Object → Type 0) (closed : (x : ℕ) → C x → SessionEnded history (place + 1) x) (destroyed : (key : Object) → D key → Destroyed (place + 1) key) where
      end-cause : (w : Waiter) (a : Answer) → MayEndBy C D e w a → Contains (state_before history place).waiters w → (o : Op) → Contains history (entry.Call w.call o) → object_of o ≡ Some (w.name, w.kind) → HasCause history (place + 1) w.call a
      end-cause w answer.Ok h here o there names = tt
      end-cause w (answer.Bool b) h here o there names = tt
      end-cause w (answer.Fence f) h here o there names = tt
      end-cause w (answer.SessionExpired x) h here o there names = closed x h
      end-cause w answer.TimedOut h here o there names = inr (record { calls = h.0; place = place; in_time = omega arith; there = is ∙ ap Some h.1; named = h.2; waited = waiter-stands (state_before history place).waiters w here })
      end-cause w (answer.WaitCancelled n) h here o there names = (h.0, h.1, stands-as _ h.2, h.3, h.4, h.5, h.6)
      end-cause w answer.ObjectDestroyed h here o there names = destroyed-cause (place + 1) (w.name, w.kind) w.call o there names (destroyed (w.name, w.kind) h)
      end-cause w (answer.GroupDestroyed g) h here o there names = stands-as _ h
      end-cause w a h here o there names = absurd h

      told-causes : (i : ℕ) (s : GroupState) (c : Change) → WaitedBefore s → ActsBy C D i e s c → AllAsked history s → (call : Invocation) (a : Answer) → Contains (told c.ended) (call, a) → HasCause history (place + 1) call a
      told-causes i s c were f asked call a h = let x = mapped (λ (y : Ended). (y.waiter.call, y.answer)) c.ended (call, a) h in
          let ended = All-contains (IsEndedFor C D e s) c.ended x.0 f.1 x.1 in let own = asked x.0.waiter ended.0 in
          subst (λ (y : Invocation × Answer). HasCause history (place + 1) y.0 y.1) (sym x.2) (end-cause x.0.waiter x.0.answer ended.1 (were x.0.waiter ended.0) own.0 own.1 own.2)

  -- the entry of a call at this place
  module _ (place : ℕ) (call : Invocation) (o : Op) (is : slice_get history place ≡ Some (entry.Call call o)) (past : List (Invocation × Answer)) (s : GroupState) (knows : Knows place past s)
      (owns : SessionsAreOwn history) (ord : IsOrderlyAt (place + 1) (entry.Call call o) s) (within : RoundsWithin (2 ^ 62 - 1) s.latches) where
    abbrev i : ℕ
    i = place + 1

    abbrev e : Entry
    e = entry.Call call o

    abbrev t : GroupState
    t = (supersede call s).state

    acts : ActsBy (λ x. ⊥) (λ key. ⊥) i (entry.Call call o) s (supersede call s)
    acts = supersede-by i call (λ x. ⊥) (λ key. ⊥) o s

    asked-t : AllAsked history t
    asked-t = (asked-supersede history i call s knows.asked).0

    here-before : (w : Waiter) → Contains s.waiters w → Contains (state_before history place).waiters w
    here-before w h = subst (λ (u : GroupState). Contains u.waiters w) (sym knows.here) h

    first-told : (c : Invocation) (a : Answer) → Contains (told (supersede call s).ended) (c, a) → HasCause history i c a
    first-told c a h = told-causes place (entry.Call call o) is (λ x. ⊥) (λ key. ⊥) (λ x k. absurd k) (λ key k. absurd k) i s (supersede call s) here-before acts knows.asked c a h

    -- a session that the call works in is open for its client, or was closed
    used-open : (x : ℕ) → session_used o ≡ Some x → (is_open_for t.sessions x call.client ≡ true) ⊎ SessionEnded history i x
    used-open x used = at (knows.sessions x call.client (owns place call o x is used)) where
      after : (is_open_for t.sessions x call.client ≡ true) ⊎ ⊥ → (is_open_for t.sessions x call.client ≡ true) ⊎ SessionEnded history i x
      after (inl h) = inl h
      after (inr h) = absurd h

      at : (is_open_for s.sessions x call.client ≡ true) ⊎ SessionEnded history place x → (is_open_for t.sessions x call.client ≡ true) ⊎ SessionEnded history i x
      at (inl h) = let l = knows.upto x call.client h in after (acts.2 x call.client (omega (arith, l)) h)
      at (inr h) = inr (over-later place i x (omega arith) h)

    abbrev Is : Invocation × Answer → Invocation × Answer → Type 0
    Is p q = p ≡ q

    -- the rule's own answer
    abbrev Given : Answer → Type 0
    Given a = Contains (perform i call o t).answers (call, a)

    -- what the entry does is what the rule of its operation does
    abbrev pub Judged : Type 0
    Judged = apply i (entry.Call call o) s ≡ after_change (supersede call s) (perform i call o)

    abbrev ruled : Judged → (a : Answer) → Given a → IsRuled history i call a
    ruled judged a given = record {
      op = o;
      place = place;
      in_time = omega arith;
      own = is;
      judged = subst (λ u. apply (place + 1) (entry.Call call o) u ≡ after_change (supersede call u) (perform (place + 1) call o)) (sym knows.here) judged;
      given = subst (λ u. Contains (perform i call o (supersede call u).state).answers (call, a)) (sym knows.here) given;
    }

    impatient : Judged → Given answer.TimedOut → wish_in o ≡ Some (wish.Within 0) → must_wait call o t ≡ true → IsImpatient history i call
    impatient judged given wished must = record { ruled = ruled judged answer.TimedOut given; at_once = wished; in_vain = subst (λ u. must_wait call o (supersede call u).state ≡ true) (sym knows.here) must }

    beat-over : (x : ℕ) → o ≡ op.Session (session.Beat x) → find nat_cmp t.sessions x ≡ None → SessionEnded history i x
    beat-over x same none = at (used-open x (rw same refl)) where
      no : is_of call.client None ≡ true → ⊥
      no k = cc

      at : (is_open_for t.sessions x call.client ≡ true) ⊎ SessionEnded history i x → SessionEnded history i x
      at (inl h) = absurd (no (is_of-same call.client (find nat_cmp t.sessions x) None none h))
      at (inr h) = h

    rule-cause : Judged → (a : Answer) → IsOfRule call o t a → Given a → HasCause history i call a
    rule-cause j answer.NotOwner h given = ruled j answer.NotOwner given
    rule-cause j (answer.LimitReached n) h given = ruled j (answer.LimitReached n) given
    rule-cause j (answer.NotHeld n) h given = ruled j (answer.NotHeld n) given
    rule-cause j answer.NotInitialized h given = ruled j answer.NotInitialized given
    rule-cause j (answer.TableFull n) h given = ruled j (answer.TableFull n) given
    rule-cause j (answer.BadArgument x) h given = ruled j (answer.BadArgument x) given
    rule-cause j (answer.SessionExpired x) h given = beat-over x h.0 h.1
    rule-cause j answer.TimedOut h given = inl (impatient j given h.0 h.1)
    rule-cause j (answer.WaitCancelled n) h given = absurd h
    rule-cause j (answer.Stale n) h given = absurd h
    rule-cause j answer.ObjectDestroyed h given = absurd h
    rule-cause j (answer.GroupDestroyed g) h given = absurd h
    rule-cause j answer.OwnershipLost h given = absurd h
    rule-cause j (answer.Indeterminate by) h given = absurd h
    rule-cause j a h given = tt

    gone-cause : (ob : Option Object) → object_of o ≡ ob → names_gone t ob ≡ true → HasCause history i call answer.ObjectDestroyed
    gone-cause None same h = absurd (no h) where
      no : false ≡ true → ⊥
      no k = cc
    gone-cause (Some key) same h = at (acts.4 key h) where
      here : Contains history (entry.Call call o)
      here = get-contains history place (entry.Call call o) is

      at : (is_gone s key ≡ true) ⊎ ⊥ → HasCause history i call answer.ObjectDestroyed
      at (inl g) = destroyed-cause i key call o here same (destroyed-later place i key (omega arith) (knows.gone key g))
      at (inr g) = absurd g

    -- an answer of the outcome
    abbrev OfOutcome : Reply → Type 0
    OfOutcome (Answered a) = Given a → HasCause history i call a
    OfOutcome (Waits w) = Unit {0}

    of-replies : Judged → (r : Reply) → RepliesSo call o t r → OfOutcome r
    of-replies j (Answered a) h = rule-cause j a h
    of-replies j (Waits w) h = tt

    outcome-cause : Judged → OfOutcome (outcome i call o t).reply
    outcome-cause j = cases (λ (r : Outcome). OfOutcome r.reply) (names_gone t (object_of o)) _ _ (λ h given. gone-cause (object_of o) refl h) (λ h. of-replies j (rule i call o t).reply (rule-replies i call o t))

    -- after the entry
    last-state : Judged → state_before history (place + 1) ≡ (perform i call o t).state
    last-state j = state-then history place (entry.Call call o) is ∙ ap (λ (u : GroupState). (apply (place + 1) (entry.Call call o) u).state) knows.here ∙ ap (λ (r : Applied). r.state) j

    answered-now : Judged → (a : Answer) → Contains (perform i call o t).answers (call, a) → IsGivenAt history (place + 1) call a
    answered-now j a h = given-of history place (entry.Call call o) call a is (subst (λ (u : GroupState). Contains (apply (place + 1) (entry.Call call o) u).answers (call, a)) (sym knows.here)
        (subst (λ (r : Applied). Contains r.answers (call, a)) (sym j) (Contains-append_right (told (supersede call s).ended) (perform i call o t).answers (call, a) h)))

    -- a session that is open once the older waits ended was open before
    was-open : (x : ℕ) → is_open t x ≡ true → is_open s x ≡ true
    was-open x h = at (find nat_cmp t.sessions x) refl h where
      at : (r : Option SessionRow) → find nat_cmp t.sessions x ≡ r → is_some r ≡ true → is_open s x ≡ true
      at None e k = absurd (no_true (sym k))
      at (Some row) e k = let opened : is_open_for t.sessions x row.client ≡ true = is_of-same row.client (Some row) (find nat_cmp t.sessions x) (sym e) (client-itself row.client) in
          let l = (supersede-by place call (λ x. ⊥) (λ key. ⊥) o s).3 knows.upto x row.client opened in
          open-some row.client (find nat_cmp s.sessions x) ((grows-supersede i call s).opened x row.client (omega (arith, l)) opened)

    closed-here : Judged → (x : ℕ) → ClosesNow o t x → SessionEnded history (place + 1) x
    closed-here j x h = record {
      entry = entry.Call call o;
      place = place;
      in_time = omega arith;
      there = is;
      ends = h.0;
      before = subst (λ (u : GroupState). is_open u x ≡ true) (sym knows.here) (was-open x h.1);
      after = subst (λ (u : GroupState). is_open u x ≡ false) (sym (last-state j)) (closes-now i call o t x h);
    }

    destroyed-here : Judged → (key : Object) → DestroysNow o (outcome i call o t).reply key → Destroyed (place + 1) key
    destroyed-here j key h = record { by = call; place = place; in_time = omega arith; there = is ∙ ap (λ (p : Op). Some (entry.Call call p)) h.0; done = answered-now j answer.Ok (performed-told i call o t h.1) }

    later-told : Judged → (c : Invocation) (a : Answer) → Contains (told (outcome i call o t).change.ended) (c, a) → HasCause history i c a
    later-told j c a h = told-causes place (entry.Call call o) is (ClosesNow o t) (DestroysNow o (outcome i call o t).reply) (closed-here j) (destroyed-here j) i t (outcome i call o t).change (λ w there. here-before w (acts.0 w there)) (outcome-by i call o t) asked-t c a h

    full-cause : (c : Change) (w : Waiter) (so : Option ℕ) (x : Invocation) (a : Answer) → Contains (settle_wait so call w c.state).answers (x, a)
        → (Contains (settle_wait so call w c.state).answers (call, answer.TableFull most) → HasCause history i call (answer.TableFull most)) → HasCause history i x a
    full-cause c w so x a = either (λ (r : Applied). Contains r.answers (x, a) → (Contains r.answers (call, answer.TableFull most) → HasCause history i call (answer.TableFull most)) → HasCause history i x a)
        (stands call c.state.waiters) _ _ (λ h f. absurd (no-element (x, a) h))
        (either (λ (r : Applied). Contains r.answers (x, a) → (Contains r.answers (call, answer.TableFull most) → HasCause history i call (answer.TableFull most)) → HasCause history i x a)
        (nat_lt (length c.state.waiters) most) _ _ (λ h f. absurd (no-element (x, a) h))
        (λ h f. subst (λ (y : Invocation × Answer). HasCause history i y.0 y.1) (sym (one-is (call, answer.TableFull most) (x, a) h)) (f (at-head (call, answer.TableFull most) []))))

    settle-cause : Judged → (r : Reply) → OfOutcome r → (so : Option ℕ) → ((a : Answer) → Contains (settle so call r (outcome i call o t).change).answers (call, a) → Given a) → (x : Invocation) (a : Answer)
        → Contains (settle so call r (outcome i call o t).change).answers (x, a) → HasCause history i x a
    settle-cause j (Answered b) own so gives x a h = at (one-only (call, b) (x, a) (told (outcome i call o t).change.ended) h) where
      at : Is (x, a) (call, b) ⊎ Contains (told (outcome i call o t).change.ended) (x, a) → HasCause history i x a
      at (inl k) = subst (λ (y : Invocation × Answer). HasCause history i y.0 y.1) (sym k) (own (gives b (at-head (call, b) (told (outcome i call o t).change.ended))))
      at (inr k) = later-told j x a k
    settle-cause j (Waits w) own so gives x a h = at (Contains-append_cases (told (outcome i call o t).change.ended) (settle_wait so call w (outcome i call o t).change.state).answers (x, a) h) where
      at : Contains (told (outcome i call o t).change.ended) (x, a) ⊎ Contains (settle_wait so call w (outcome i call o t).change.state).answers (x, a) → HasCause history i x a
      at (inl k) = later-told j x a k
      at (inr k) = full-cause (outcome i call o t).change w so x a k (λ g. ruled j (answer.TableFull most) (gives (answer.TableFull most) (Contains-append_right (told (outcome i call o t).change.ended) (settle_wait so call w (outcome i call o t).change.state).answers (call, answer.TableFull most) g)))

    perform-cause : Judged → (x : Invocation) (a : Answer) → Contains (perform i call o t).answers (x, a) → HasCause history i x a
    perform-cause j x a h = settle-cause j (outcome i call o t).reply (outcome-cause j) (session_in o) (λ b g. g) x a h

    -- by the memory
    grows-t : Grows i s t
    grows-t = grows-supersede i call s

    told-t : Told i (past ++ told (supersede call s).ended) t
    told-t = walk_supersede i (λ s c. (past : List (Invocation × Answer)) → Told i past s → Told i (past ++ told c.ended) c.state) (tells_closed i) call s past knows.answers

    again-cause : (x : ℕ) (row : MemoryRow) → find holder_cmp t.memory (x, call.thread.0) ≡ Some row → is_open_for t.sessions x call.client ≡ true → row.number ≡ call.number → (c : Invocation) (a : Answer) → Contains (give_again call row.answer) (c, a) → HasCause history i c a
    again-cause x row there opened same c a h = given row.answer refl h where
      before : (b : Answer) → Contains past (call, b) ⊎ Contains (told (supersede call s).ended) (call, b) → HasCause history i call b
      before b (inl k) = cause-later place i call b (omega arith) (knows.caused call b k)
      before b (inr k) = first-told call b k

      given : (r : Option Answer) → row.answer ≡ r → Contains (give_again call r) (c, a) → HasCause history i c a
      given None r_is h = absurd (no-element (c, a) h)
      given (Some b) r_is h = subst (λ (y : Invocation × Answer). HasCause history i y.0 y.1) (sym (one-is (call, b) (c, a) h))
          (before b (Contains-append_cases past (told (supersede call s).ended) (call, b)
          (subst (λ n. Contains (past ++ told (supersede call s).ended) (record { client = call.client; thread = call.thread; number = n }, b)) same ((told-t.memory x call.thread.0 row there).1 b r_is call.client opened))))

    stale-cause : (x : ℕ) (row : MemoryRow) → session_in o ≡ Some x → find holder_cmp t.memory (x, call.thread.0) ≡ Some row → is_open_for t.sessions x call.client ≡ true → call.number < row.number → HasCause history i call (answer.Stale row.number)
    stale-cause x row names there opened less = let old = acts.5 (x, call.thread.0) row there in
        let below : x < i = subst (λ so. IsBelow i so) names ord.0 in
        let was : is_open_for s.sessions x call.client ≡ true = grows-t.opened x call.client below opened in
        let by = knows.memory x call.thread.0 old.0 old.1 call.client was in
        (place, omega arith, (record { client = call.client; thread = call.thread; number = old.0.number }, by.0, by.1, refl, refl, old.2, less))

    -- where this comes to the rule, so does the entry
    abbrev pub Leads : Applied → Type 0
    Leads r = r ≡ perform i call o t → Judged

    memory-cause : (x : ℕ) (r : Option MemoryRow) → session_in o ≡ Some x → find holder_cmp t.memory (x, call.thread.0) ≡ r → is_open_for t.sessions x call.client ≡ true → Leads (by_memory i call o r t)
        → (c : Invocation) (a : Answer) → Contains (by_memory i call o r t).answers (c, a) → HasCause history i c a
    memory-cause x None names there opened leads c a = perform-cause (leads refl) c a
    memory-cause x (Some row) names there opened leads c a = cases (λ (r : Applied). Leads r → Contains r.answers (c, a) → HasCause history i c a) (row.number == call.number) _ _
        (λ same l h. again-cause x row there opened (same_number row.number call.number same) c a h)
        (λ apart. cases (λ (r : Applied). Leads r → Contains r.answers (c, a) → HasCause history i c a) (nat_lt call.number row.number) _ _
        (λ lower l h. subst (λ (y : Invocation × Answer). HasCause history i y.0 y.1) (sym (one-is (call, answer.Stale row.number) (c, a) h)) (stale-cause x row names there opened (less call.number row.number lower)))
        (λ less l h. perform-cause (l refl) c a h)) leads

    expired-cause : (x : ℕ) → session_in o ≡ Some x → is_open_for t.sessions x call.client ≡ false → HasCause history i call (answer.SessionExpired x)
    expired-cause x names closed = at (used-open x (names-used o x names)) where
      at : (is_open_for t.sessions x call.client ≡ true) ⊎ SessionEnded history i x → SessionEnded history i x
      at (inl h) = absurd (no_true (sym h ∙ closed))
      at (inr h) = h

    session-cause : (so : Option ℕ) → session_in o ≡ so → Leads (by_session i call o so t) → (c : Invocation) (a : Answer) → Contains (by_session i call o so t).answers (c, a) → HasCause history i c a
    session-cause None names leads c a = perform-cause (leads refl) c a
    session-cause (Some x) names leads c a = cases (λ (r : Applied). Leads r → Contains r.answers (c, a) → HasCause history i c a) (is_open_for t.sessions x call.client) _ _
        (λ opened l h. memory-cause x (find holder_cmp t.memory (x, call.thread.0)) names refl opened l c a h)
        (λ closed l h. subst (λ (y : Invocation × Answer). HasCause history i y.0 y.1) (sym (one-is (call, answer.SessionExpired x) (c, a) h)) (expired-cause x names closed)) leads

    -- where this comes to what the rule does after the older waits ended, so does the entry
    abbrev pub LeadsOn : Applied → Type 0
    LeadsOn r = r ≡ after_change (supersede call s) (perform i call o) → Judged

    with-first : LeadsOn (after_change (supersede call s) (by_session i call o (session_in o))) → Leads (by_session i call o (session_in o) t)
    with-first leads e = leads (ap (λ (r : Applied). record { state = r.state; answers = told (supersede call s).ended ++ r.answers }) e)

    call-cause : LeadsOn (apply_call i call o s) → (c : Invocation) (a : Answer) → Contains (apply_call i call o s).answers (c, a) → HasCause history i c a
    call-cause leads c a = cases (λ (r : Applied). LeadsOn r → Contains r.answers (c, a) → HasCause history i c a) (s.destroyed_group.0 == 0) _ _
        (λ alive l h. at l (Contains-append_cases (told (supersede call s).ended) (by_session i call o (session_in o) t).answers (c, a) h))
        (λ dead l h. subst (λ (y : Invocation × Answer). HasCause history i y.0 y.1) (sym (one-is (call, answer.GroupDestroyed s.destroyed_group) (c, a) h)) (stands-later place i _ (omega arith) (knows.destroyed dead))) leads
      where
        at : LeadsOn (after_change (supersede call s) (by_session i call o (session_in o))) → Contains (told (supersede call s).ended) (c, a) ⊎ Contains (by_session i call o (session_in o) t).answers (c, a) → HasCause history i c a
        at l (inl h) = first-told c a h
        at l (inr h) = session-cause (session_in o) refl (with-first l) c a h

    pub entry-cause : (c : Invocation) (a : Answer) → Contains (apply i (entry.Call call o) s).answers (c, a) → HasCause history i c a
    entry-cause c a = either (λ (r : Applied). LeadsOn r → Contains r.answers (c, a) → HasCause history i c a) (is_elsewhere o) _ _ (λ l h. absurd (no-element (c, a) h)) call-cause_at (λ e. e) where
      call-cause_at : LeadsOn (apply_call i call o s) → Contains (apply_call i call o s).answers (c, a) → HasCause history i c a
      call-cause_at l h = call-cause l c a h

  -- every entry
  members-cause : (place : ℕ) (call : Option Invocation) (c : Invocation) (a : Answer) → Contains (members_answer call) (c, a) → HasCause history (place + 1) c a
  members-cause place None c a h = absurd (no-element (c, a) h)
  members-cause place (Some call) c a h = subst (λ (y : Invocation × Answer). HasCause history (place + 1) y.0 y.1) (sym (one-is (call, answer.Ok) (c, a) h)) tt

  -- an expiry closes the sessions that it names with the version that they have
  expired-here : (place : ℕ) (pairs : List (ℕ × ℕ)) → slice_get history place ≡ Some (entry.SessionsExpired pairs) → (s : GroupState) → state_before history place ≡ s → (x : ℕ) → Expires pairs s x → SessionEnded history (place + 1) x
  expired-here place pairs is s here x h = record {
    entry = entry.SessionsExpired pairs;
    place = place;
    in_time = omega arith;
    there = is;
    ends = unchanged-among s.sessions pairs x h;
    before = subst (λ (u : GroupState). is_open u x ≡ true) (sym here) (unchanged-open s.sessions pairs x h);
    after = subst (λ (u : GroupState). is_open u x ≡ false) (sym (state-then history place (entry.SessionsExpired pairs) is))
        (subst (λ (u : GroupState). is_open (apply (place + 1) (entry.SessionsExpired pairs) u).state x ≡ false) (sym here) (closed-none (place + 1) (unchanged_since s.sessions pairs) s x h));
  }

  any-cause : (place : ℕ) (e : Entry) → slice_get history place ≡ Some e → (past : List (Invocation × Answer)) (s : GroupState) → Knows place past s → SessionsAreOwn history → IsOrderlyAt (place + 1) e s → RoundsWithin (2 ^ 62 - 1) s.latches
      → (c : Invocation) (a : Answer) → Contains (apply (place + 1) e s).answers (c, a) → HasCause history (place + 1) c a
  any-cause place e is past s knows owns ord within c a = by e is ord where
    were : (w : Waiter) → Contains s.waiters w → Contains (state_before history place).waiters w
    were w h = subst (λ (u : GroupState). Contains u.waiters w) (sym knows.here) h

    nothing : (x : ℕ) → ⊥ → SessionEnded history (place + 1) x
    nothing x k = absurd k

    nobody : (key : Object) → ⊥ → Destroyed (place + 1) key
    nobody key k = absurd k

    by : (e : Entry) → slice_get history place ≡ Some e → IsOrderlyAt (place + 1) e s → Contains (apply (place + 1) e s).answers (c, a) → HasCause history (place + 1) c a
    by entry.Empty is ord h = absurd (no-element (c, a) h)
    by (entry.Call call o) is ord h = entry-cause place call o is past s knows owns ord within c a h
    by (entry.SessionsExpired pairs) is ord h = told-causes place (entry.SessionsExpired pairs) is (Expires pairs s) (λ key. ⊥) (expired-here place pairs is s knows.here) nobody
        (place + 1) s (close (place + 1) (unchanged_since s.sessions pairs) s) were (expire-by (λ key. ⊥) (place + 1) pairs s) knows.asked c a h
    by (entry.WaitsExpired calls) is ord h = told-causes place (entry.WaitsExpired calls) is (λ x. ⊥) (λ key. ⊥) nothing nobody
        (place + 1) s (serve_left (for_each time_out calls s)) were (time_out-by (λ x. ⊥) (λ key. ⊥) (place + 1) calls s) knows.asked c a h
    by (entry.Members call plan members) is ord h = members-cause place call c a h
    by (entry.Destroy group) is ord h = told-causes place (entry.Destroy group) is (λ x. ⊥) (λ key. ⊥) nothing nobody
        (place + 1) (record s { destroyed_group = if s.destroyed_group.0 == 0 then group else s.destroyed_group })
        (end_all (λ w. true) (λ w. answer.GroupDestroyed group) (record s { destroyed_group = if s.destroyed_group.0 == 0 then group else s.destroyed_group })) were
        (destroy-by (λ x. ⊥) (λ key. ⊥) (place + 1) group (record s { destroyed_group = if s.destroyed_group.0 == 0 then group else s.destroyed_group })) knows.asked c a h
    by (entry.Destroyed group) is ord h = absurd (no-element (c, a) h)
    by (entry.Moved group at members) is ord h = absurd (no-element (c, a) h)
    by (entry.Left member) is ord h = absurd (no-element (c, a) h)

  within-le : (a b : ℕ) (rows : List (List ℕ × LatchRow)) → a ≤ b → RoundsWithin a rows → RoundsWithin b rows
  within-le a b rows l h = λ k d m. let x = h k d m in omega arith

  told-later : (i : ℕ) (past : List (Invocation × Answer)) (s : GroupState) → Told i past s → Told (i + 1) past s
  told-later i past s h = record {
    waiters = λ w there m. let x = h.waiters w there m in let l = x.0 in (omega arith, x.1);
    memory = λ x thread row there. let y = h.memory x thread row there in let l = y.0 in (omega arith, y.1);
  }

  module _ (place : ℕ) (e : Entry) (is : slice_get history place ≡ Some e) (past : List (Invocation × Answer)) (s : GroupState) (knows : Knows place past s) (owns : SessionsAreOwn history) (ord : IsOrderlyAt (place + 1) e s) (few : place < 2 ^ 62) where
    abbrev j : ℕ
    j = place + 1

    abbrev u : GroupState
    u = (apply (place + 1) e s).state

    within-now : RoundsWithin (2 ^ 62 - 1) s.latches
    within-now = within-le place (2 ^ 62 - 1) s.latches (omega (arith, few)) knows.rounds

    after : After (place + 1) e s (apply (place + 1) e s).state
    after = after-apply (place + 1) e s

    grows : Grows (place + 1) s (apply (place + 1) e s).state
    grows = grows-apply (place + 1) e s within-now

    one : suc place ≡ place + 1
    one = omega arith

    state-now : state_before history (place + 1) ≡ (apply (place + 1) e s).state
    state-now = state-then history place e is ∙ ap (λ (v : GroupState). (apply (place + 1) e v).state) knows.here

    gone-next : (key : Object) → GoneByEntry (place + 1) e s key → Destroyed j key
    gone-next key (inl h) = destroyed-later place j key (omega arith) (knows.gone key h)
    gone-next key (inr h) = record {
      by = h.0;
      place = place;
      in_time = omega arith;
      there = is ∙ ap Some h.1;
      done = given-of history place e h.0 answer.Ok is (subst (λ (v : GroupState). Contains (apply (place + 1) e v).answers (h.0, answer.Ok)) (sym knows.here) h.2);
    }

    destroyed-next : (u.destroyed_group ≡ s.destroyed_group) ⊎ (e ≡ entry.Destroy u.destroyed_group) → (u.destroyed_group.0 == 0) ≡ false → StandsBy history j (entry.Destroy u.destroyed_group)
    destroyed-next (inl same) h = subst (λ (g : GroupId). StandsBy history j (entry.Destroy g)) (sym same) (stands-later place j _ (omega arith) (knows.destroyed (subst (λ (g : GroupId). (g.0 == 0) ≡ false) same h)))
    destroyed-next (inr same) h = stands-as place e is _ same

    closed-by : (x : ℕ) → Closes e x → EndsSession e x
    closed-by x (inl h) = subst (λ (f : Entry). EndsSession f x) (sym h.1) refl
    closed-by x (inr h) = subst (λ (f : Entry). EndsSession f x) (sym h.1) h.2

    ended-next : (x : ℕ) (client : ClientId) → is_open_for s.sessions x client ≡ true → find nat_cmp u.sessions x ≡ None → Closes e x → SessionEnded history j x
    ended-next x client h none k = record {
      entry = e;
      place = place;
      in_time = omega arith;
      there = is;
      ends = closed-by x k;
      before = subst (λ (v : GroupState). is_open v x ≡ true) (sym knows.here) (open-some client (find nat_cmp s.sessions x) h);
      after = subst (λ (v : GroupState). is_open v x ≡ false) (sym state-now) (subst (λ (r : Option SessionRow). is_some r ≡ false) (sym none) refl);
    }

    -- a session that is still there is still this client's
    kept-next : (x : ℕ) (client : ClientId) → x < place + 1 → is_open_for s.sessions x client ≡ true → (row : SessionRow) → find nat_cmp u.sessions x ≡ Some row → is_open_for u.sessions x client ≡ true
    kept-next x client l h row there = let now_open : is_open_for u.sessions x row.client ≡ true = is_of-same row.client (Some row) (find nat_cmp u.sessions x) (sym there) (client-itself row.client) in
        let same : row.client ≡ client = is_of-one row.client client (find nat_cmp s.sessions x) (grows.opened x row.client l now_open) h in
        subst (λ c. is_open_for u.sessions x c ≡ true) same now_open

    stay-next : (x : ℕ) (client : ClientId) → (is_open_for s.sessions x client ≡ true) ⊎ SessionEnded history place x → (is_open_for u.sessions x client ≡ true) ⊎ SessionEnded history j x
    stay-next x client (inl h) = let l = knows.upto x client h in by (find nat_cmp u.sessions x) refl (after.stay x client (omega (arith, l)) h) (omega (arith, l)) where
      by : (r : Option SessionRow) → find nat_cmp u.sessions x ≡ r → (is_open_for u.sessions x client ≡ true) ⊎ Closes e x → x < place + 1 → (is_open_for u.sessions x client ≡ true) ⊎ SessionEnded history j x
      by r there (inl k) below = inl k
      by None there (inr k) below = inr (ended-next x client h there k)
      by (Some row) there (inr k) below = inl (kept-next x client below h row there)
    stay-next x client (inr h) = inr (over-later place j x (omega arith) h)

    sessions-next : (x : ℕ) (client : ClientId) → WasOpenFor history j x client → (is_open_for u.sessions x client ≡ true) ⊎ SessionEnded history j x
    sessions-next x client h = by (nat_lt h.moment j) refl where
      at_last : (m : ℕ) → nat_lt m j ≡ false → m ≤ j → m ≡ j
      at_last m f l = grind (arith, nat_tests)

      at_first : (m : ℕ) → nat_lt m j ≡ true → m ≤ place
      at_first m f = grind (arith, nat_tests)

      by : (b : Bool) → nat_lt h.moment j ≡ b → (is_open_for u.sessions x client ≡ true) ⊎ SessionEnded history j x
      by true f = stay-next x client (knows.sessions x client (record { moment = h.moment; before = at_first h.moment f; is_open = h.is_open }))
      by false f = inl (subst (λ v. is_open_for v.sessions x client ≡ true) state-now (subst (λ m. is_open_for (state_before history m).sessions x client ≡ true) (at_last h.moment f h.before) h.is_open))

    upto-next : SessionsUpTo j u
    upto-next = after.upto (λ x client h. let l = knows.upto x client h in omega (arith, l))

    memory-next : (x thread : ℕ) (row : MemoryRow) → IsOldRow s (x, thread) row ⊎ IsOwnRow e s (x, thread) row → (y : ℕ) → y ≡ x → y < j → (client : ClientId) → is_open_for u.sessions x client ≡ true
        → (o : Op) × StandsBy history j (entry.Call (record { client = client; thread = record { 0 = thread }; number = row.number }) o)
    memory-next x thread row (inl h) y same below client opened = let l : x < j = omega (arith, same, below) in
        let by = knows.memory x thread h.0 h.1 client (grows.opened x client l opened) in
        (by.0, stands-later place j _ (omega arith) (subst (λ n. StandsBy history place (entry.Call (record { client = client; thread = record { 0 = thread }; number = n }) by.0)) h.2 by.1))
    memory-next x thread row (inr h) y same below client opened = let l : x < j = omega (arith, same, below) in
        let was : is_open_for s.sessions x client ≡ true = grows.opened x client l opened in
        let mine : is_open_for s.sessions x h.0.client ≡ true = (grows-supersede j h.0 s).opened x h.0.client l h.6 in
        let own : client ≡ h.0.client = is_of-one client h.0.client (find nat_cmp s.sessions x) was mine in
        (h.1, subst (λ (c : Invocation). StandsBy history j (entry.Call c h.1)) (λ k. record { client = sym own k; thread = record { 0 = h.4 k }; number = h.5 k }) (stands-as place e is _ h.2))

    told-now : Told (place + 1) (past ++ (apply (place + 1) e s).answers) (apply (place + 1) e s).state
    told-now = told-apply (place + 1) past e s ord within-now knows.answers

    causes-now : (c : Invocation) (a : Answer) → Contains (apply (place + 1) e s).answers (c, a) → HasCause history (place + 1) c a
    causes-now = any-cause place e is past s knows owns ord within-now

    pub knows-next : Knows (place + 1) (past ++ (apply (place + 1) e s).answers) (apply (place + 1) e s).state
    knows-next = record {
      here = state-now;
      rounds = subst (λ n. RoundsWithin n u.latches) one (within-apply j place e s knows.rounds);
      answers = told-later j _ u told-now;
      caused = λ c a h. caused c a (Contains-append_cases past (apply (place + 1) e s).answers (c, a) h);
      asked = asked-apply history j e s (get-contains history place e is) knows.asked;
      gone = λ key h. gone-next key (gone-after (place + 1) e s key h);
      destroyed = destroyed-next after.destroyed;
      sessions = sessions-next;
      upto = upto-next;
      memory = λ x thread row there client opened. memory-next x thread row (after.memory (x, thread) row there) x refl (told-now.memory x thread row there).0 client opened;
    }
      where
        caused : (c : Invocation) (a : Answer) → Contains past (c, a) ⊎ Contains (apply (place + 1) e s).answers (c, a) → HasCause history (place + 1) c a
        caused c a (inl h) = cause-later place (place + 1) c a (omega arith) (knows.caused c a h)
        caused c a (inr h) = causes-now c a h

  knows-none : Knows 0 [] empty
  knows-none = record {
    here = refl;
    rounds = All-nil (λ (r : LatchRow). r.round ≤ 0);
    answers = record { waiters = λ w h. absurd (no-element w h); memory = λ x thread row h. absurd (no_row row h) };
    caused = λ call a h. absurd (no-element (call, a) h);
    asked = λ w h. absurd (no-element w h);
    gone = λ key h. absurd (false_true h);
    destroyed = λ h. absurd (no_true h);
    sessions = λ x client h. absurd (no_open x client h);
    upto = λ x client h. absurd (false_true h);
    memory = λ x thread row h. absurd (no_row row h);
  }
    where
      no_row : (row : MemoryRow) → None ≡ Some row → ⊥
      no_row row k = cc

      false_true : false ≡ true → ⊥
      false_true k = cc

      none-open : (m x : ℕ) (client : ClientId) → m ≤ 0 → is_open_for (state_before history m).sessions x client ≡ true → ⊥
      none-open m x client l h = let e : m ≡ 0 = omega (arith, l) in false_true (subst (λ n. is_open_for (state_before history n).sessions x client ≡ true) e h)

      no_open : (x : ℕ) (client : ClientId) → WasOpenFor history 0 x client → ⊥
      no_open x client h = none-open h.moment x client h.before h.is_open

  -- what holds at each place
  module _ (orderly : IsOrderly history) (owns : SessionsAreOwn history) where
    knows-at : (place : ℕ) → place ≤ length history → (past : List (Invocation × Answer)) × Knows place past (state_before history place)
    knows-at zero l = ([], knows-none)
    knows-at (suc n) l = next (knows-at n (omega (arith, l))) (entry-there n history (omega (arith, l))) where
      entry-there : (n : ℕ) (es : List Entry) → n < length es → (e : Entry) × (slice_get es n ≡ Some e)
      entry-there n [] l = absurd (omega (arith, l))
      entry-there zero (e ∷ es) l = (e, refl)
      entry-there (suc n) (e ∷ es) l = entry-there n es (omega (arith, l))

      few : n < 2 ^ 62
      few = let f = orderly.few in omega (arith, f, l)

      one-more : n + 1 ≡ suc n
      one-more = omega arith

      next : ((past : List (Invocation × Answer)) × Knows n past (state_before history n)) → ((e : Entry) × (slice_get history n ≡ Some e)) → (past : List (Invocation × Answer)) × Knows (suc n) past (state_before history (suc n))
      next k x = let s = state_before history n in
          let y = knows-next n x.0 x.1 k.0 (state_before history n) k.1 owns (orderly-at n 1 (n + 1) history x.0 empty (omega arith) x.1 orderly.entries) few in
          (k.0 ++ (apply (n + 1) x.0 (state_before history n)).answers, subst (λ m. Knows m (k.0 ++ (apply (n + 1) x.0 (state_before history n)).answers) (state_before history m)) one-more (subst (Knows (n + 1) (k.0 ++ (apply (n + 1) x.0 (state_before history n)).answers)) (sym y.here) y))

    -- each answer that the entry at a place gives has its cause at the entry's index or before
    pub have-causes : (place : ℕ) (x : Applied) (call : Invocation) (a : Answer) → slice_get (run 1 history empty) place ≡ Some x → Contains x.answers (call, a) → HasCause history (place + 1) call a
    have-causes place x call a got there = let r = run-entry place 1 history empty x got in
        let l = get-in history place r.0 r.1 in
        let k = knows-at place (omega (arith, l)) in
        let f = orderly.few in
        let given : x ≡ apply (place + 1) r.0 (state_before history place) = run-gives place 1 (place + 1) history r.0 empty x (omega arith) r.1 got in
        causes-now place r.0 r.1 k.0 (state_before history place) k.1 owns (orderly-at place 1 (place + 1) history r.0 empty (omega arith) r.1 orderly.entries) (omega (arith, l, f)) call a
        (subst (λ (y : Applied). Contains y.answers (call, a)) given there)

    pub all-have-causes : AllHaveCauses history
    all-have-causes index call a h = let g = given-by history index call a h in
        subst (λ n. HasCause history n call a) (sym g.index_is) (have-causes g.place (apply (g.place + 1) g.entry (state_before history g.place)) call a (by-states history g.place g.entry g.there) g.told)
