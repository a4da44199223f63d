-- What threads work on: of the calls, requests, ends and returns so far, those of each thread.
use Rattle.std.proofs.Common.{◌≡◌, ℕ, ◌+◌, ◌<◌, ◌≤◌, ◌⊎◌, inl, inr, Bool, true, false, List, [], ◌∷◌, ◌++◌, Some, None, Option, sym, subst, ap, ◌∙◌, arith, length, le_trans}
use Rattle.std.specs.Prelude.{Contains, slice_get}
use Rattle.std.proofs.lemmas.List.Elements.{Contains-append_left, Contains-push_cases}
use Rattle.cp_base.specs.Identifiers.{replay_id}
use Rattle.cp_base.specs.declared.identifier.ClientId.{ClientId}
use Rattle.cp_base.specs.declared.identifier.ClientNo.{ClientNo}
use Rattle.cp_base.specs.declared.identifier.Invocation.{Invocation}
use Rattle.cp_base.specs.declared.identifier.ThreadNo.{ThreadNo}
use Rattle.cp_answers.specs.declared.answer.Answer.TheVariants as answer
use Rattle.cp_ops.specs.declared.op.Op.{Op}
use Rattle.cp_ops.specs.declared.op.Op.TheVariants as op
use Rattle.cp_ops.specs.declared.session_op.SessionOp.TheVariants as session
use Rattle.cp_events.specs.declared.effects.Ending.TheVariants as ending
use Rattle.cp_events.specs.declared.plan.Plan.{Plan}
use Rattle.cp_group_causes.proofs.Lists.{get-contains}
use Rattle.cp_client_rules.specs.declared.rows.Pending.{Pending}
use Rattle.cp_client_rules.specs.declared.rows.Task.{Task}
use Rattle.cp_client_rules.specs.declared.rows.Task.TheVariants as task
use Rattle.cp_client_rules.specs.declared.rows.Thread.{Thread}
use Rattle.cp_client_rules.specs.Asking.{wish_of}
use Rattle.cp_client_rules.specs.Calls.{deadline_of, patience}
use Rattle.cp_world_rules.specs.Rows.{Called, End, Moved, Request, Returned}
use Rattle.cp_client_rules.specs.Ticks.{own_thread}
use Rattle.cp_world_rules.specs.World.{client_of}
use Rattle.cp_world_rules.specs.Requests.{MayAsk}
use Rattle.cp_world_rules.specs.Returns.{request_of}
use Rattle.cp_world_rules.specs.Laws.{is_for_itself}
use Rattle.cp_world_rules.proofs.Lists.{get-append, one-there}
use Rattle.cp_world_rules.proofs.GroupLaws.{prepares}

pub record Book : Type 0 where
  pub calls : List Called
  pub requests : List Request
  pub ends : List End
  pub returned : List Returned
  pub moves : List Moved

pub replay-same : (x y : ClientNo) → replay_id x ≡ replay_id y → x ≡ y
replay-same x y e = ap (λ c. client_of (record { client = c; thread = record { 0 = 0 }; number = 0 })) e

-- A request is over: an answer ended it, or its call has returned. A client's own thread may go on to its next beat before.
pub data OverIn (requests : List Request) (ends : List End) (returned : List Returned) (call : Invocation) : Type 0 where
  was_ended : (e : End) → Contains ends e → e.call ≡ call → OverIn requests ends returned call
  was_returned : (r : Returned) → Contains returned r → request_of r ≡ call → OverIn requests ends returned call
  has_gone_on : (q : Request) → Contains requests q → call.thread ≡ own_thread → q.call.client ≡ call.client → q.call.thread ≡ call.thread → call.number < q.call.number → OverIn requests ends returned call

pub over-request : (requests : List Request) (q0 : Request) (ends : List End) (returned : List Returned) (call : Invocation) → OverIn requests ends returned call → OverIn (requests ++ q0 ∷ []) ends returned call
over-request requests q0 ends returned call (was_ended e there same) = was_ended e there same
over-request requests q0 ends returned call (was_returned r there same) = was_returned r there same
over-request requests q0 ends returned call (has_gone_on q there own client thread less) = has_gone_on q (Contains-append_left requests (q0 ∷ []) q there) own client thread less

pub over-end : (requests : List Request) (ends : List End) (e0 : End) (returned : List Returned) (call : Invocation) → OverIn requests ends returned call → OverIn requests (ends ++ e0 ∷ []) returned call
over-end requests ends e0 returned call (was_ended e there same) = was_ended e (Contains-append_left ends (e0 ∷ []) e there) same
over-end requests ends e0 returned call (was_returned r there same) = was_returned r there same
over-end requests ends e0 returned call (has_gone_on q there own client thread less) = has_gone_on q there own client thread less

pub over-return : (requests : List Request) (ends : List End) (returned : List Returned) (r0 : Returned) (call : Invocation) → OverIn requests ends returned call → OverIn requests ends (returned ++ r0 ∷ []) call
over-return requests ends returned r0 call (was_ended e there same) = was_ended e there same
over-return requests ends returned r0 call (was_returned r there same) = was_returned r (Contains-append_left returned (r0 ∷ []) r there) same
over-return requests ends returned r0 call (has_gone_on q there own client thread less) = has_gone_on q there own client thread less

abbrev pub Owns : ClientNo → ThreadNo → Invocation → Type 0
Owns me t call = (call.client ≡ replay_id me) × (call.thread ≡ t)

abbrev pub is_beat : Op → Bool
is_beat (op.Session (session.Beat s)) = true
is_beat o = false

-- the call that a thread made last by an event
pub record IsLast (calls : List Called) (me : ClientNo) (t : ThreadNo) (number : ℕ) (c : Called) : Type 0 where
  pub began : Contains calls c
  pub client_is : c.client ≡ me
  pub thread_is : c.thread ≡ t
  pub by_then : c.event ≤ number
  pub latest : (d : Called) → Contains calls d → d.client ≡ me → d.thread ≡ t → d.event ≤ number → d.event ≤ c.event

-- a call of the thread that began behind one event, and by another
pub record Between (calls : List Called) (client : ClientId) (t : ThreadNo) (after by : ℕ) : Type 0 where
  pub call : Called
  pub began : Contains calls call
  pub client_is : client ≡ replay_id call.client
  pub thread_is : t ≡ call.thread
  pub later : after < call.event
  pub in_time : call.event ≤ by

-- two requests of a thread are not both for one call itself
pub data Apart (calls : List Called) (a b : Request) : Type 0 where
  first_prepares : prepares a.op ≡ true → Apart calls a b
  second_prepares : prepares b.op ≡ true → Apart calls a b
  first_beats : is_beat a.op ≡ true → Apart calls a b
  second_beats : is_beat b.op ≡ true → Apart calls a b
  other_call : Between calls a.call.client a.call.thread a.event b.event → Apart calls a b

-- a beat, or of a later call
abbrev pub IsOther : List Called → ℕ → Request → Type 0
IsOther calls event q = (is_beat q.op ≡ true) ⊎ Between calls q.call.client q.call.thread event q.event

-- why a call returns: an answer ended its request, or it asked nothing, or its deadline is past
pub data Tells (ends : List End) (moves : List Moved) (r : Returned) (c : Called) : Type 0 where
  by_answer : (e : End) → Contains ends e → e.event ≡ r.event → e.call ≡ request_of r → (r.what.ending ≡ ending.Answered e.answer) ⊎ (r.what.ending ≡ ending.Answered answer.OwnershipLost) → Tells ends moves r c
  at_once : c.event ≡ r.event → r.what.ending ≡ ending.Answered answer.Ok → Tells ends moves r c
  past : (m : Moved) (wish : ℕ) → Contains moves m → m.event ≡ r.event → m.client ≡ r.client → wish_of c.op ≡ Some wish → c.clock + patience + wish ≤ m.clock → Tells ends moves r c

tells-end : (ends : List End) (e0 : End) (moves : List Moved) (r : Returned) (c : Called) → Tells ends moves r c → Tells (ends ++ e0 ∷ []) moves r c
tells-end ends e0 moves r c (by_answer e there at call is) = by_answer e (Contains-append_left ends (e0 ∷ []) e there) at call is
tells-end ends e0 moves r c (at_once at is) = at_once at is
tells-end ends e0 moves r c (past m wish there at mine bounded late) = past m wish there at mine bounded late

tells-move : (ends : List End) (moves : List Moved) (m0 : Moved) (r : Returned) (c : Called) → Tells ends moves r c → Tells ends (moves ++ m0 ∷ []) r c
tells-move ends moves m0 r c (by_answer e there at call is) = by_answer e there at call is
tells-move ends moves m0 r c (at_once at is) = at_once at is
tells-move ends moves m0 r c (past m wish there at mine bounded late) = past m wish (Contains-append_left moves (m0 ∷ []) m there) at mine bounded late

module _ (plan : Plan) where
  abbrev pub IsSourcedBy : List Called → Request → Type 0
  IsSourcedBy calls q = ((c : Called) × IsLast calls c.client c.thread q.event c × Owns c.client c.thread q.call × MayAsk plan c.op q.op) ⊎ (is_beat q.op ≡ true)

  -- a request of this number
  abbrev pub IsAsked : List Request → Returned → Called → Request → Type 0
  IsAsked requests r c q = Contains requests q × Owns r.client r.what.thread q.call × (q.call.number ≡ r.what.number) × (c.event ≤ q.event) × (q.event ≤ r.event) × MayAsk plan c.op q.op

  -- the call asked nothing, and the number of its return lies between those of the thread's requests
  abbrev pub AsksNone : List Request → List Called → Returned → Called → Type 0
  AsksNone requests calls r c = (r.what.ending ≡ ending.Answered answer.Ok) × ((q : Request) → Contains requests q → Owns r.client r.what.thread q.call → c.event ≤ q.event → IsOther calls c.event q)
      × ((q : Request) → Contains requests q → Owns r.client r.what.thread q.call → (q.event < r.event → q.call.number < r.what.number) × (r.event < q.event → r.what.number < q.call.number))

  -- the number of a return is that of the last request of its call
  pub record IsNumbered (b : Book) (r : Returned) (c : Called) : Type 0 where
    pub greatest : (q : Request) → Contains b.requests q → Owns r.client r.what.thread q.call → c.event ≤ q.event → (q.call.number ≤ r.what.number) ⊎ IsOther b.calls c.event q
    pub asked : ((q : Request) × IsAsked b.requests r c q) ⊎ AsksNone b.requests b.calls r c

  pub record BookOk (b : Book) (now : ℕ) : Type 0 where
    pub requests_now : (q : Request) → Contains b.requests q → q.event ≤ now
    pub calls_now : (c : Called) → Contains b.calls c → c.event ≤ now
    pub returned_now : (r : Returned) → Contains b.returned r → r.event ≤ now
    pub one_call : (c d : Called) → Contains b.calls c → Contains b.calls d → c.event ≡ d.event → c ≡ d
    pub sourced : (q : Request) → Contains b.requests q → IsSourcedBy b.calls q
    pub itself_once : (j k : ℕ) (x y : Request) → j < k → slice_get b.requests j ≡ Some x → slice_get b.requests k ≡ Some y → x.call.client ≡ y.call.client → x.call.thread ≡ y.call.thread → Apart b.calls x y
    pub of_call : (r : Returned) → Contains b.returned r → (c : Called) × IsLast b.calls r.client r.what.thread r.event c × IsNumbered b r c × Tells b.ends b.moves r c
    pub once : (j k : ℕ) (x y : Returned) → j < k → slice_get b.returned j ≡ Some x → slice_get b.returned k ≡ Some y → x.client ≡ y.client → x.what.thread ≡ y.what.thread
        → Between b.calls (replay_id x.client) x.what.thread x.event y.event
    pub ends_once : (j k : ℕ) (x y : End) → j < k → slice_get b.ends j ≡ Some x → slice_get b.ends k ≡ Some y → x.call ≡ y.call → ⊥

  -- the thread works on this call; it has asked for the call itself, or only for what it needs
  pub record Works (b : Book) (me : ClientNo) (t : ThreadNo) (c : Called) (itself : Bool) : Type 0 where
    pub began : Contains b.calls c
    pub client_is : c.client ≡ me
    pub thread_is : c.thread ≡ t
    pub latest : (d : Called) → Contains b.calls d → d.client ≡ me → d.thread ≡ t → d.event ≤ c.event
    pub not_returned : (r : Returned) → Contains b.returned r → r.client ≡ me → r.what.thread ≡ t → r.event < c.event
    pub needs : itself ≡ false → (q : Request) → Contains b.requests q → Owns me t q.call → c.event ≤ q.event → prepares q.op ≡ true

  -- the request is of the call, or a beat, which has no deadline
  abbrev pub TaskWorks : Book → ClientNo → ThreadNo → Request → Bool → Option ℕ → Task → Type 0
  TaskWorks b me t q itself deadline (task.Calls o) = (c : Called) × (c.op ≡ o) × Works b me t c itself × (c.event ≤ q.event) × MayAsk plan o q.op × (deadline ≡ deadline_of c.clock (wish_of o))
  TaskWorks b me t q itself deadline (task.Beats s) = deadline ≡ None

  abbrev pub of_thread : ClientNo → ThreadNo → ℕ → Invocation
  of_thread me t number = record { client = replay_id me; thread = t; number = number }

  pub record IsOpen (b : Book) (me : ClientNo) (t : ThreadNo) (number : ℕ) (p : Pending) : Type 0 where
    pub asked : Request
    pub there : Contains b.requests asked
    pub call_is : asked.call ≡ of_thread me t number
    pub not_ended : (e : End) → Contains b.ends e → e.call ≡ of_thread me t number → ⊥
    pub not_told : (r : Returned) → Contains b.returned r → request_of r ≡ of_thread me t number → ⊥
    pub works : TaskWorks b me t asked (is_for_itself p.purpose) p.deadline p.task

  -- the request that is open
  abbrev pub IsNow : Thread → Request → Type 0
  IsNow row q = (p : Pending) × (row.pending ≡ Some p) × (q.call.number ≡ row.number)

  pub record ThreadOk (b : Book) (me : ClientNo) (t : ThreadNo) (row : Thread) : Type 0 where
    pub open_ok : (p : Pending) → row.pending ≡ Some p → IsOpen b me t row.number p
    pub numbers : (q : Request) → Contains b.requests q → Owns me t q.call → q.call.number ≤ row.number
    pub ended : (e : End) → Contains b.ends e → Owns me t e.call → e.call.number ≤ row.number
    pub told : (r : Returned) → Contains b.returned r → r.client ≡ me → r.what.thread ≡ t → r.what.number ≤ row.number
    pub overs : (q : Request) → Contains b.requests q → Owns me t q.call → IsNow row q ⊎ OverIn b.requests b.ends b.returned q.call

-- ---- a row more

abbrev pub with_call : Book → Called → Book
with_call b c = record b { calls = b.calls ++ c ∷ [] }

abbrev pub with_request : Book → Request → Book
with_request b q = record b { requests = b.requests ++ q ∷ [] }

abbrev pub with_end : Book → End → Book
with_end b e = record b { ends = b.ends ++ e ∷ [] }

abbrev pub with_return : Book → Returned → Book
with_return b r = record b { returned = b.returned ++ r ∷ [] }

abbrev pub with_move : Book → Moved → Book
with_move b m = record b { moves = b.moves ++ m ∷ [] }

between-on : (calls : List Called) (c0 : Called) (client : ClientId) (t : ThreadNo) (after by : ℕ) → Between calls client t after by → Between (calls ++ c0 ∷ []) client t after by
between-on calls c0 client t after by h = record { call = h.call; began = Contains-append_left calls (c0 ∷ []) h.call h.began; client_is = h.client_is; thread_is = h.thread_is; later = h.later; in_time = h.in_time }

apart-on : (calls : List Called) (c0 : Called) (x y : Request) → Apart calls x y → Apart (calls ++ c0 ∷ []) x y
apart-on calls c0 x y (first_prepares h) = first_prepares h
apart-on calls c0 x y (second_prepares h) = second_prepares h
apart-on calls c0 x y (first_beats h) = first_beats h
apart-on calls c0 x y (second_beats h) = second_beats h
apart-on calls c0 x y (other_call h) = other_call (between-on calls c0 x.call.client x.call.thread x.event y.event h)

other-on : (calls : List Called) (c0 : Called) (event : ℕ) (q : Request) → IsOther calls event q → IsOther (calls ++ c0 ∷ []) event q
other-on calls c0 event q (inl h) = inl h
other-on calls c0 event q (inr h) = inr (between-on calls c0 q.call.client q.call.thread event q.event h)

-- a call of a later event
pub last-on : (calls : List Called) (c0 : Called) (me : ClientNo) (t : ThreadNo) (number : ℕ) (c : Called) → number < c0.event → IsLast calls me t number c → IsLast (calls ++ c0 ∷ []) me t number c
last-on calls c0 me t number c l h = record {
  began = Contains-append_left calls (c0 ∷ []) c h.began;
  client_is = h.client_is;
  thread_is = h.thread_is;
  by_then = h.by_then;
  latest = λ d there mine thread by. at d (Contains-push_cases calls c0 d there) mine thread by;
}
  where
    at : (d : Called) → Contains calls d ⊎ (c0 ≡ d) → d.client ≡ me → d.thread ≡ t → d.event ≤ number → d.event ≤ c.event
    at d (inl there) mine thread by = h.latest d there mine thread by
    at d (inr same) mine thread by = let e = ap (λ (x : Called). x.event) same in absurd (omega (arith, e, by, l))

module _ (plan : Plan) (b : Book) where
  -- events go on
  pub book-later : (now later : ℕ) → now ≤ later → BookOk plan b now → BookOk plan b later
  book-later now later l h = record {
    requests_now = λ q there. le_trans (h.requests_now q there) l;
    calls_now = λ c there. le_trans (h.calls_now c there) l;
    returned_now = λ r there. le_trans (h.returned_now r there) l;
    one_call = h.one_call;
    sourced = h.sourced;
    itself_once = h.itself_once;
    of_call = h.of_call;
    once = h.once;
    ends_once = h.ends_once;
  }

  -- a call, in an event of its own
  module _ (c0 : Called) (before : ℕ) (later : before < c0.event) (h : BookOk plan b before) where
    sourced-call : (q : Request) → q.event ≤ before → IsSourcedBy plan b.calls q → IsSourcedBy plan (b.calls ++ c0 ∷ []) q
    sourced-call q l (inl x) = inl (x.0, last-on b.calls c0 x.0.client x.0.thread q.event x.0 (omega (arith, l, later)) x.1, x.2, x.3)
    sourced-call q l (inr x) = inr x

    numbered-call : (r : Returned) (c : Called) → IsNumbered plan b r c → IsNumbered plan (with_call b c0) r c
    numbered-call r c n = record { greatest = λ q there mine at. big q (n.greatest q there mine at); asked = asks n.asked } where
      big : (q : Request) → (q.call.number ≤ r.what.number) ⊎ IsOther b.calls c.event q → (q.call.number ≤ r.what.number) ⊎ IsOther (b.calls ++ c0 ∷ []) c.event q
      big q (inl x) = inl x
      big q (inr x) = inr (other-on b.calls c0 c.event q x)

      asks : ((q : Request) × IsAsked plan b.requests r c q) ⊎ AsksNone plan b.requests b.calls r c
          → ((q : Request) × IsAsked plan b.requests r c q) ⊎ AsksNone plan b.requests (b.calls ++ c0 ∷ []) r c
      asks (inl x) = inl x
      asks (inr x) = inr (x.0, (λ q there mine at. other-on b.calls c0 c.event q (x.1 q there mine at)), x.2)

    same-call : (c d : Called) → Contains b.calls c ⊎ (c0 ≡ c) → Contains b.calls d ⊎ (c0 ≡ d) → c.event ≡ d.event → c ≡ d
    same-call c d (inl x) (inl y) e = h.one_call c d x y e
    same-call c d (inl x) (inr y) e = let l = h.calls_now c x in let f = ap (λ (z : Called). z.event) y in absurd (omega (arith, l, f, e, later))
    same-call c d (inr x) (inl y) e = let l = h.calls_now d y in let f = ap (λ (z : Called). z.event) x in absurd (omega (arith, l, f, e, later))
    same-call c d (inr x) (inr y) e = sym x ∙ y

    call-now : (c : Called) → Contains b.calls c ⊎ (c0 ≡ c) → c.event ≤ c0.event
    call-now c (inl x) = let l = h.calls_now c x in omega (arith, l, later)
    call-now c (inr x) = let f = ap (λ (z : Called). z.event) x in omega (arith, f)

    pub book-call : BookOk plan (with_call b c0) c0.event
    book-call = record {
      requests_now = λ q there. let l = h.requests_now q there in omega (arith, l, later);
      calls_now = λ c there. call-now c (Contains-push_cases b.calls c0 c there);
      returned_now = λ r there. let l = h.returned_now r there in omega (arith, l, later);
      one_call = λ c d x y e. same-call c d (Contains-push_cases b.calls c0 c x) (Contains-push_cases b.calls c0 d y) e;
      sourced = λ q there. sourced-call q (h.requests_now q there) (h.sourced q there);
      itself_once = λ j k x y l at_j at_k e f. apart-on b.calls c0 x y (h.itself_once j k x y l at_j at_k e f);
      of_call = λ r there. let x = h.of_call r there in let l = h.returned_now r there in (x.0, last-on b.calls c0 r.client r.what.thread r.event x.0 (omega (arith, l, later)) x.1, numbered-call r x.0 x.2, x.3);
      once = λ j k x y l at_j at_k e f. between-on b.calls c0 (replay_id x.client) x.what.thread x.event y.event (h.once j k x y l at_j at_k e f);
      ends_once = h.ends_once;
    }

  -- a request
  module _ (now : ℕ) (q0 : Request) (h : BookOk plan b now) (at_now : q0.event ≡ now) (source : IsSourcedBy plan b.calls q0)
      (apart : (x : Request) → Contains b.requests x → x.call.client ≡ q0.call.client → x.call.thread ≡ q0.call.thread → Apart b.calls x q0)
      (other : (r : Returned) (c : Called) → Contains b.returned r → IsLast b.calls r.client r.what.thread r.event c → Owns r.client r.what.thread q0.call → IsOther b.calls c.event q0)
      (behind : (r : Returned) → Contains b.returned r → Owns r.client r.what.thread q0.call → r.what.number < q0.call.number)
    where
      request-now : (q : Request) → Contains b.requests q ⊎ (q0 ≡ q) → q.event ≤ now
      request-now q (inl x) = h.requests_now q x
      request-now q (inr x) = let f = ap (λ (z : Request). z.event) x in omega (arith, f, at_now)

      sourced-request : (q : Request) → Contains b.requests q ⊎ (q0 ≡ q) → IsSourcedBy plan b.calls q
      sourced-request q (inl x) = h.sourced q x
      sourced-request q (inr x) = subst (IsSourcedBy plan b.calls) x source

      apart-request : (j k : ℕ) (x y : Request) → j < k → ((slice_get b.requests j ≡ Some x) × (j < length b.requests)) ⊎ ((i : ℕ) × (j ≡ length b.requests + i) × (slice_get (q0 ∷ []) i ≡ Some x))
          → ((slice_get b.requests k ≡ Some y) × (k < length b.requests)) ⊎ ((i : ℕ) × (k ≡ length b.requests + i) × (slice_get (q0 ∷ []) i ≡ Some y)) → x.call.client ≡ y.call.client → x.call.thread ≡ y.call.thread → Apart b.calls x y
      apart-request j k x y l (inl u) (inl v) e f = h.itself_once j k x y l u.0 v.0 e f
      apart-request j k x y l (inl u) (inr v) e f = let same = (one-there q0 v.0 y v.2).1 in
          subst (Apart b.calls x) same (apart x (get-contains b.requests j x u.0) (e ∙ ap (λ (z : Request). z.call.client) (sym same)) (f ∙ ap (λ (z : Request). z.call.thread) (sym same)))
      apart-request j k x y l (inr u) (inl v) e f = let p = u.1 in let q = v.1 in absurd (omega (arith, p, q, l))
      apart-request j k x y l (inr u) (inr v) e f = let p = u.1 in let q = v.1 in let m = (one-there q0 u.0 x u.2).0 in let n = (one-there q0 v.0 y v.2).0 in absurd (omega (arith, p, q, m, n, l))

      numbered-request : (r : Returned) (c : Called) → Contains b.returned r → IsLast b.calls r.client r.what.thread r.event c → IsNumbered plan b r c → IsNumbered plan (with_request b q0) r c
      numbered-request r c there last n = record { greatest = λ q in_q mine at. big q (Contains-push_cases b.requests q0 q in_q) mine at; asked = asks n.asked } where
        big : (q : Request) → Contains b.requests q ⊎ (q0 ≡ q) → Owns r.client r.what.thread q.call → c.event ≤ q.event → (q.call.number ≤ r.what.number) ⊎ IsOther b.calls c.event q
        big q (inl x) mine at = n.greatest q x mine at
        big q (inr x) mine at = inr (subst (IsOther b.calls c.event) x (other r c there last (subst (λ (z : Request). Owns r.client r.what.thread z.call) (sym x) mine)))

        none : ((q : Request) → Contains b.requests q → Owns r.client r.what.thread q.call → c.event ≤ q.event → IsOther b.calls c.event q) → (q : Request) → Contains b.requests q ⊎ (q0 ≡ q) → Owns r.client r.what.thread q.call → c.event ≤ q.event → IsOther b.calls c.event q
        none f q (inl x) mine at = f q x mine at
        none f q (inr x) mine at = subst (IsOther b.calls c.event) x (other r c there last (subst (λ (z : Request). Owns r.client r.what.thread z.call) (sym x) mine))

        around : ((q : Request) → Contains b.requests q → Owns r.client r.what.thread q.call → (q.event < r.event → q.call.number < r.what.number) × (r.event < q.event → r.what.number < q.call.number))
            → (q : Request) → Contains b.requests q ⊎ (q0 ≡ q) → Owns r.client r.what.thread q.call → (q.event < r.event → q.call.number < r.what.number) × (r.event < q.event → r.what.number < q.call.number)
        around f q (inl x) mine = f q x mine
        around f q (inr x) mine = let e = ap (λ (z : Request). z.event) x in let m = h.returned_now r there in
            ((λ l. absurd (omega (arith, e, m, l, at_now))), λ l. subst (λ (z : Request). r.what.number < z.call.number) x (behind r there (subst (λ (z : Request). Owns r.client r.what.thread z.call) (sym x) mine)))

        asks : ((q : Request) × IsAsked plan b.requests r c q) ⊎ AsksNone plan b.requests b.calls r c
            → ((q : Request) × IsAsked plan (b.requests ++ q0 ∷ []) r c q) ⊎ AsksNone plan (b.requests ++ q0 ∷ []) b.calls r c
        asks (inl x) = inl (x.0, (Contains-append_left b.requests (q0 ∷ []) x.0 x.1.0, x.1.1, x.1.2, x.1.3, x.1.4, x.1.5))
        asks (inr x) = inr (x.0, (λ q in_q mine at. none x.1 q (Contains-push_cases b.requests q0 q in_q) mine at), λ q in_q mine. around x.2 q (Contains-push_cases b.requests q0 q in_q) mine)

      pub book-request : BookOk plan (with_request b q0) now
      book-request = record {
        requests_now = λ q there. request-now q (Contains-push_cases b.requests q0 q there);
        calls_now = h.calls_now;
        returned_now = h.returned_now;
        one_call = h.one_call;
        sourced = λ q there. sourced-request q (Contains-push_cases b.requests q0 q there);
        itself_once = λ j k x y l at_j at_k e f. apart-request j k x y l (get-append b.requests (q0 ∷ []) j x at_j) (get-append b.requests (q0 ∷ []) k y at_k) e f;
        of_call = λ r there. let x = h.of_call r there in (x.0, x.1, numbered-request r x.0 there x.1 x.2, x.3);
        once = h.once;
        ends_once = h.ends_once;
      }

  -- an end
  pub book-end : (now : ℕ) (e0 : End) → BookOk plan b now → ((e : End) → Contains b.ends e → e.call ≡ e0.call → ⊥) → BookOk plan (with_end b e0) now
  book-end now e0 h new = record {
    requests_now = h.requests_now;
    calls_now = h.calls_now;
    returned_now = h.returned_now;
    one_call = h.one_call;
    sourced = h.sourced;
    itself_once = h.itself_once;
    of_call = λ r there. let x = h.of_call r there in (x.0, x.1, record { greatest = x.2.greatest; asked = x.2.asked }, tells-end b.ends e0 b.moves r x.0 x.3);
    once = h.once;
    ends_once = λ j k x y l at_j at_k e. at j k x y l (get-append b.ends (e0 ∷ []) j x at_j) (get-append b.ends (e0 ∷ []) k y at_k) e;
  }
    where
      at : (j k : ℕ) (x y : End) → j < k → ((slice_get b.ends j ≡ Some x) × (j < length b.ends)) ⊎ ((i : ℕ) × (j ≡ length b.ends + i) × (slice_get (e0 ∷ []) i ≡ Some x))
          → ((slice_get b.ends k ≡ Some y) × (k < length b.ends)) ⊎ ((i : ℕ) × (k ≡ length b.ends + i) × (slice_get (e0 ∷ []) i ≡ Some y)) → x.call ≡ y.call → ⊥
      at j k x y l (inl u) (inl v) e = h.ends_once j k x y l u.0 v.0 e
      at j k x y l (inl u) (inr v) e = let same = (one-there e0 v.0 y v.2).1 in new x (get-contains b.ends j x u.0) (e ∙ ap (λ (z : End). z.call) (sym same))
      at j k x y l (inr u) (inl v) e = let p = u.1 in let q = v.1 in absurd (omega (arith, p, q, l))
      at j k x y l (inr u) (inr v) e = let p = u.1 in let q = v.1 in let m = (one-there e0 u.0 x u.2).0 in let n = (one-there e0 v.0 y v.2).0 in absurd (omega (arith, p, q, m, n, l))

  -- a return
  module _ (now : ℕ) (r0 : Returned) (h : BookOk plan b now) (at_now : r0.event ≡ now) (c0 : Called) (last : IsLast b.calls r0.client r0.what.thread r0.event c0) (numbered : IsNumbered plan b r0 c0) (tells : Tells b.ends b.moves r0 c0)
      (earlier : (x : Returned) → Contains b.returned x → x.client ≡ r0.client → x.what.thread ≡ r0.what.thread → Between b.calls (replay_id x.client) x.what.thread x.event r0.event)
    where
      return-now : (r : Returned) → Contains b.returned r ⊎ (r0 ≡ r) → r.event ≤ now
      return-now r (inl x) = h.returned_now r x
      return-now r (inr x) = let f = ap (λ (z : Returned). z.event) x in omega (arith, f, at_now)

      abbrev HasCall : Returned → Type 0
      HasCall r = (c : Called) × IsLast b.calls r.client r.what.thread r.event c × IsNumbered plan (with_return b r0) r c × Tells b.ends b.moves r c

      call-of : (r : Returned) → Contains b.returned r ⊎ (r0 ≡ r) → HasCall r
      call-of r (inl there) = let x = h.of_call r there in (x.0, x.1, record { greatest = x.2.greatest; asked = x.2.asked }, x.3)
      call-of r (inr same) = subst HasCall same (c0, last, record { greatest = numbered.greatest; asked = numbered.asked }, tells)

      once-more : (j k : ℕ) (x y : Returned) → j < k → ((slice_get b.returned j ≡ Some x) × (j < length b.returned)) ⊎ ((i : ℕ) × (j ≡ length b.returned + i) × (slice_get (r0 ∷ []) i ≡ Some x))
          → ((slice_get b.returned k ≡ Some y) × (k < length b.returned)) ⊎ ((i : ℕ) × (k ≡ length b.returned + i) × (slice_get (r0 ∷ []) i ≡ Some y)) → x.client ≡ y.client → x.what.thread ≡ y.what.thread
          → Between b.calls (replay_id x.client) x.what.thread x.event y.event
      once-more j k x y l (inl u) (inl v) e f = h.once j k x y l u.0 v.0 e f
      once-more j k x y l (inl u) (inr v) e f = let same = (one-there r0 v.0 y v.2).1 in
          subst (λ (z : Returned). Between b.calls (replay_id x.client) x.what.thread x.event z.event) same (earlier x (get-contains b.returned j x u.0) (e ∙ ap (λ (z : Returned). z.client) (sym same)) (f ∙ ap (λ (z : Returned). z.what.thread) (sym same)))
      once-more j k x y l (inr u) (inl v) e f = let p = u.1 in let q = v.1 in absurd (omega (arith, p, q, l))
      once-more j k x y l (inr u) (inr v) e f = let p = u.1 in let q = v.1 in let m = (one-there r0 u.0 x u.2).0 in let n = (one-there r0 v.0 y v.2).0 in absurd (omega (arith, p, q, m, n, l))

      pub book-return : BookOk plan (with_return b r0) now
      book-return = record {
        requests_now = h.requests_now;
        calls_now = h.calls_now;
        returned_now = λ r there. return-now r (Contains-push_cases b.returned r0 r there);
        one_call = h.one_call;
        sourced = h.sourced;
        itself_once = h.itself_once;
        of_call = λ r there. call-of r (Contains-push_cases b.returned r0 r there);
        once = λ j k x y l at_j at_k e f. once-more j k x y l (get-append b.returned (r0 ∷ []) j x at_j) (get-append b.returned (r0 ∷ []) k y at_k) e f;
        ends_once = h.ends_once;
      }

  -- a clock that moved
  pub book-move : (now : ℕ) (m0 : Moved) → BookOk plan b now → BookOk plan (with_move b m0) now
  book-move now m0 h = record {
    requests_now = h.requests_now;
    calls_now = h.calls_now;
    returned_now = h.returned_now;
    one_call = h.one_call;
    sourced = h.sourced;
    itself_once = h.itself_once;
    of_call = λ r there. let x = h.of_call r there in (x.0, x.1, record { greatest = x.2.greatest; asked = x.2.asked }, tells-move b.ends b.moves m0 r x.0 x.3);
    once = h.once;
    ends_once = h.ends_once;
  }

  -- ---- what threads are left as they are

  module _ (x : ClientNo) (y : ThreadNo) where
    works-move : (m0 : Moved) (c : Called) (itself : Bool) → Works plan b x y c itself → Works plan (with_move b m0) x y c itself
    works-move m0 c itself h = record { began = h.began; client_is = h.client_is; thread_is = h.thread_is; latest = h.latest; not_returned = h.not_returned; needs = h.needs }

    task-move : (m0 : Moved) (q : Request) (itself : Bool) (d : Option ℕ) (w : Task) → TaskWorks plan b x y q itself d w → TaskWorks plan (with_move b m0) x y q itself d w
    task-move m0 q itself d (task.Calls o) h = (h.0, h.1, works-move m0 h.0 itself h.2, h.3, h.4, h.5)
    task-move m0 q itself d (task.Beats s) h = h

    pub thread-move : (m0 : Moved) (row : Thread) → ThreadOk plan b x y row → ThreadOk plan (with_move b m0) x y row
    thread-move m0 row h = record {
      open_ok = λ p is. let o = h.open_ok p is in record { asked = o.asked; there = o.there; call_is = o.call_is; not_ended = o.not_ended; not_told = o.not_told; works = task-move m0 o.asked (is_for_itself p.purpose) p.deadline p.task o.works };
      numbers = h.numbers;
      ended = h.ended;
      told = h.told;
      overs = h.overs;
    }

    works-call : (c0 c : Called) (itself : Bool) → (c0.client ≡ x → c0.thread ≡ y → ⊥) → Works plan b x y c itself → Works plan (with_call b c0) x y c itself
    works-call c0 c itself off h = record { began = Contains-append_left b.calls (c0 ∷ []) c h.began; client_is = h.client_is; thread_is = h.thread_is; latest = λ d there mine thread. at d (Contains-push_cases b.calls c0 d there) mine thread; not_returned = h.not_returned; needs = h.needs } where
      at : (d : Called) → Contains b.calls d ⊎ (c0 ≡ d) → d.client ≡ x → d.thread ≡ y → d.event ≤ c.event
      at d (inl there) mine thread = h.latest d there mine thread
      at d (inr same) mine thread = absurd (off (ap (λ (z : Called). z.client) same ∙ mine) (ap (λ (z : Called). z.thread) same ∙ thread))

    task-call : (c0 : Called) (q : Request) (itself : Bool) (d : Option ℕ) (w : Task) → (c0.client ≡ x → c0.thread ≡ y → ⊥) → TaskWorks plan b x y q itself d w → TaskWorks plan (with_call b c0) x y q itself d w
    task-call c0 q itself d (task.Calls o) off h = (h.0, h.1, works-call c0 h.0 itself off h.2, h.3, h.4, h.5)
    task-call c0 q itself d (task.Beats s) off h = h

    pub thread-call : (c0 : Called) (row : Thread) → (c0.client ≡ x → c0.thread ≡ y → ⊥) → ThreadOk plan b x y row → ThreadOk plan (with_call b c0) x y row
    thread-call c0 row off h = record {
      open_ok = λ p is. let o = h.open_ok p is in record { asked = o.asked; there = o.there; call_is = o.call_is; not_ended = o.not_ended; not_told = o.not_told; works = task-call c0 o.asked (is_for_itself p.purpose) p.deadline p.task off o.works };
      numbers = h.numbers;
      ended = h.ended;
      told = h.told;
      overs = h.overs;
    }

    pub works-request : (q0 : Request) (c : Called) (itself : Bool) → (Owns x y q0.call → (itself ≡ false → prepares q0.op ≡ true)) → Works plan b x y c itself → Works plan (with_request b q0) x y c itself
    works-request q0 c itself may h = record { began = h.began; client_is = h.client_is; thread_is = h.thread_is; latest = h.latest; not_returned = h.not_returned; needs = λ e q there mine at. all q (Contains-push_cases b.requests q0 q there) e mine at } where
      all : (q : Request) → Contains b.requests q ⊎ (q0 ≡ q) → itself ≡ false → Owns x y q.call → c.event ≤ q.event → prepares q.op ≡ true
      all q (inl there) e mine at = h.needs e q there mine at
      all q (inr same) e mine at = subst (λ (z : Request). prepares z.op ≡ true) same (may (subst (λ (z : Request). Owns x y z.call) (sym same) mine) e)

    task-request : (q0 q : Request) (itself : Bool) (d : Option ℕ) (w : Task) → (Owns x y q0.call → ⊥) → TaskWorks plan b x y q itself d w → TaskWorks plan (with_request b q0) x y q itself d w
    task-request q0 q itself d (task.Calls o) off h = (h.0, h.1, works-request q0 h.0 itself (λ mine e. absurd (off mine)) h.2, h.3, h.4, h.5)
    task-request q0 q itself d (task.Beats s) off h = h

    pub thread-request : (q0 : Request) (row : Thread) → (Owns x y q0.call → ⊥) → ThreadOk plan b x y row → ThreadOk plan (with_request b q0) x y row
    thread-request q0 row off h = record {
      open_ok = λ p is. let o = h.open_ok p is in record { asked = o.asked; there = Contains-append_left b.requests (q0 ∷ []) o.asked o.there; call_is = o.call_is; not_ended = o.not_ended; not_told = o.not_told; works = task-request q0 o.asked (is_for_itself p.purpose) p.deadline p.task off o.works };
      numbers = λ q there mine. at q (Contains-push_cases b.requests q0 q there) mine;
      ended = h.ended;
      told = h.told;
      overs = λ q there mine. over q (Contains-push_cases b.requests q0 q there) mine;
    }
      where
        still : (q : Request) → IsNow plan row q ⊎ OverIn b.requests b.ends b.returned q.call → IsNow plan row q ⊎ OverIn (b.requests ++ q0 ∷ []) b.ends b.returned q.call
        still q (inl n) = inl n
        still q (inr o) = inr (over-request b.requests q0 b.ends b.returned q.call o)

        over : (q : Request) → Contains b.requests q ⊎ (q0 ≡ q) → Owns x y q.call → IsNow plan row q ⊎ OverIn (b.requests ++ q0 ∷ []) b.ends b.returned q.call
        over q (inl there) mine = still q (h.overs q there mine)
        over q (inr same) mine = absurd (off (subst (λ (z : Request). Owns x y z.call) (sym same) mine))

        at : (q : Request) → Contains b.requests q ⊎ (q0 ≡ q) → Owns x y q.call → q.call.number ≤ row.number
        at q (inl there) mine = h.numbers q there mine
        at q (inr same) mine = absurd (off (subst (λ (z : Request). Owns x y z.call) (sym same) mine))

    pub works-end : (e0 : End) (c : Called) (itself : Bool) → Works plan b x y c itself → Works plan (with_end b e0) x y c itself
    works-end e0 c itself h = record { began = h.began; client_is = h.client_is; thread_is = h.thread_is; latest = h.latest; not_returned = h.not_returned; needs = h.needs }

    task-end : (e0 : End) (q : Request) (itself : Bool) (d : Option ℕ) (w : Task) → TaskWorks plan b x y q itself d w → TaskWorks plan (with_end b e0) x y q itself d w
    task-end e0 q itself d (task.Calls o) h = (h.0, h.1, works-end e0 h.0 itself h.2, h.3, h.4, h.5)
    task-end e0 q itself d (task.Beats s) h = h

    pub thread-end : (e0 : End) (row : Thread) → (Owns x y e0.call → ⊥) → ThreadOk plan b x y row → ThreadOk plan (with_end b e0) x y row
    thread-end e0 row off h = record {
      open_ok = λ p is. let o = h.open_ok p is in record { asked = o.asked; there = o.there; call_is = o.call_is; not_ended = λ e there same. not_ended o.not_ended e (Contains-push_cases b.ends e0 e there) same; not_told = o.not_told; works = task-end e0 o.asked (is_for_itself p.purpose) p.deadline p.task o.works };
      numbers = h.numbers;
      ended = λ e there mine. at e (Contains-push_cases b.ends e0 e there) mine;
      told = h.told;
      overs = λ q there mine. still q (h.overs q there mine);
    }
      where
        still : (q : Request) → IsNow plan row q ⊎ OverIn b.requests b.ends b.returned q.call → IsNow plan row q ⊎ OverIn b.requests (b.ends ++ e0 ∷ []) b.returned q.call
        still q (inl n) = inl n
        still q (inr o) = inr (over-end b.requests b.ends e0 b.returned q.call o)

        at : (e : End) → Contains b.ends e ⊎ (e0 ≡ e) → Owns x y e.call → e.call.number ≤ row.number
        at e (inl there) mine = h.ended e there mine
        at e (inr same) mine = absurd (off (subst (λ (z : End). Owns x y z.call) (sym same) mine))

        not_ended : ((e : End) → Contains b.ends e → e.call ≡ of_thread plan x y row.number → ⊥) → (e : End) → Contains b.ends e ⊎ (e0 ≡ e) → e.call ≡ of_thread plan x y row.number → ⊥
        not_ended f e (inl there) same = f e there same
        not_ended f e (inr is) same = let all : e0.call ≡ of_thread plan x y row.number = ap (λ (z : End). z.call) is ∙ same in off (ap (λ (z : Invocation). z.client) all, ap (λ (z : Invocation). z.thread) all)

    works-return : (r0 : Returned) (c : Called) (itself : Bool) → (r0.client ≡ x → r0.what.thread ≡ y → ⊥) → Works plan b x y c itself → Works plan (with_return b r0) x y c itself
    works-return r0 c itself off h = record { began = h.began; client_is = h.client_is; thread_is = h.thread_is; latest = h.latest; not_returned = λ r there mine thread. at r (Contains-push_cases b.returned r0 r there) mine thread; needs = h.needs } where
      at : (r : Returned) → Contains b.returned r ⊎ (r0 ≡ r) → r.client ≡ x → r.what.thread ≡ y → r.event < c.event
      at r (inl there) mine thread = h.not_returned r there mine thread
      at r (inr same) mine thread = absurd (off (ap (λ (z : Returned). z.client) same ∙ mine) (ap (λ (z : Returned). z.what.thread) same ∙ thread))

    task-return : (r0 : Returned) (q : Request) (itself : Bool) (d : Option ℕ) (w : Task) → (r0.client ≡ x → r0.what.thread ≡ y → ⊥) → TaskWorks plan b x y q itself d w → TaskWorks plan (with_return b r0) x y q itself d w
    task-return r0 q itself d (task.Calls o) off h = (h.0, h.1, works-return r0 h.0 itself off h.2, h.3, h.4, h.5)
    task-return r0 q itself d (task.Beats s) off h = h

    pub thread-return : (r0 : Returned) (row : Thread) → (r0.client ≡ x → r0.what.thread ≡ y → ⊥) → ThreadOk plan b x y row → ThreadOk plan (with_return b r0) x y row
    thread-return r0 row off h = record {
      open_ok = λ p is. let o = h.open_ok p is in record { asked = o.asked; there = o.there; call_is = o.call_is; not_ended = o.not_ended; not_told = λ r there same. not_told o.not_told r (Contains-push_cases b.returned r0 r there) same; works = task-return r0 o.asked (is_for_itself p.purpose) p.deadline p.task off o.works };
      numbers = h.numbers;
      ended = h.ended;
      told = λ r there mine thread. at r (Contains-push_cases b.returned r0 r there) mine thread;
      overs = λ q there mine. still q (h.overs q there mine);
    }
      where
        still : (q : Request) → IsNow plan row q ⊎ OverIn b.requests b.ends b.returned q.call → IsNow plan row q ⊎ OverIn b.requests b.ends (b.returned ++ r0 ∷ []) q.call
        still q (inl n) = inl n
        still q (inr o) = inr (over-return b.requests b.ends b.returned r0 q.call o)

        at : (r : Returned) → Contains b.returned r ⊎ (r0 ≡ r) → r.client ≡ x → r.what.thread ≡ y → r.what.number ≤ row.number
        at r (inl there) mine thread = h.told r there mine thread
        at r (inr same) mine thread = absurd (off (ap (λ (z : Returned). z.client) same ∙ mine) (ap (λ (z : Returned). z.what.thread) same ∙ thread))

        not_told : ((r : Returned) → Contains b.returned r → request_of r ≡ of_thread plan x y row.number → ⊥) → (r : Returned) → Contains b.returned r ⊎ (r0 ≡ r) → request_of r ≡ of_thread plan x y row.number → ⊥
        not_told f r (inl there) same = f r there same
        not_told f r (inr is) same = let all : request_of r0 ≡ of_thread plan x y row.number = ap request_of is ∙ same in
            off (replay-same r0.client x (ap (λ (z : Invocation). z.client) all)) (ap (λ (z : Invocation). z.thread) all)
