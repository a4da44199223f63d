-- What a client does is allowed: requests.
use Rattle.std.proofs.Common.{◌≡◌, ℕ, ◌+◌, ◌<◌, ◌≤◌, ◌⊎◌, inl, inr, Bool, true, false, List, [], ◌∷◌, ◌++◌, Some, None, Option, refl, sym, subst, ap, ◌∙◌, arith, length, map, le_refl, le_trans, zero, suc}
use Rattle.std.specs.Prelude.{All, Contains, slice_get}
use Rattle.std.specs.Ordering.{nat_cmp}
use Rattle.std.specs.BTreeMap.{is_at}
use Rattle.std.proofs.lemmas.List.Elements.{Contains-append_cases, Contains-append_left, Contains-append_right}
use Rattle.cp_base.specs.Identifiers.{replay_id}
use Rattle.cp_base.specs.declared.identifier.ClientNo.{ClientNo}
use Rattle.cp_base.specs.declared.identifier.Invocation.{Invocation}
use Rattle.cp_base.specs.declared.identifier.ThreadNo.{ThreadNo}
use Rattle.cp_base.proofs.Tests.{none_some, same_some, no_false}
use Rattle.cp_answers.specs.declared.answer.Answer.{Answer}
use Rattle.cp_answers.specs.declared.answer.Answer.TheVariants as answer
use Rattle.cp_object_ops.specs.declared.latch_op.LatchOp.TheVariants as latch
use Rattle.cp_ops.specs.declared.op.Op.{Op}
use Rattle.cp_ops.specs.declared.op.Op.TheVariants as op
use Rattle.cp_ops.specs.declared.session_op.SessionOp.TheVariants as session
use Rattle.cp_events.specs.declared.effects.Ending.TheVariants as ending
use Rattle.cp_events.specs.declared.effects.Return.{Return}
use Rattle.cp_events.specs.declared.object.Object.{Object}
use Rattle.cp_events.specs.declared.plan.Plan.{Plan}
use Rattle.cp_events.specs.declared.user_op.LatchCall.TheVariants as latch_call
use Rattle.cp_events.specs.declared.user_op.LockCall.TheVariants as lock_call
use Rattle.cp_events.specs.declared.user_op.SemCall.TheVariants as sem_call
use Rattle.cp_events.specs.declared.user_op.UserOp.{UserOp}
use Rattle.cp_events.specs.declared.user_op.UserOp.TheVariants as user
use Rattle.cp_group_state.specs.Rows.{find}
use Rattle.cp_group_state.specs.GroupState.{GroupState}
use Rattle.cp_group_state.specs.History.{IsReached}
use Rattle.cp_group_state.specs.Protected.{down_in}
use Rattle.cp_group_state.proofs.Keyed.{equal_is, find-put_same, find-put_other, number_key}
use Rattle.cp_group_causes.proofs.Lists.{at-head, get-contains, map-in, mapped, no-element, one-is}
use Rattle.cp_client_rules.specs.declared.rows.HoldRecord.{HoldRecord}
use Rattle.cp_client_rules.specs.declared.rows.OwnSession.{OwnSession}
use Rattle.cp_client_rules.specs.declared.rows.Pending.{Pending}
use Rattle.cp_client_rules.specs.declared.rows.Purpose.TheVariants as purpose
use Rattle.cp_client_rules.specs.declared.rows.Task.TheVariants as task
use Rattle.cp_client_rules.specs.declared.rows.Thread.{Thread}
use Rattle.cp_client_rules.specs.Asking.{Need, Nothing, HoldingSession, ItsSession, SessionToClose, Round, group_of, need_of, op_of, wish_of}
use Rattle.cp_client_rules.specs.Clients.{Asked, Client, Did, LockKey, ask, id_of, lock_cmp, next_request, or_new, session_in_group, thread_at, with_thread}
use Rattle.cp_client_rules.specs.Calls.{Call, ask_itself, by_need, call_client, closing, deadline_of, go_on, holding_session, in_session, or_own, pending_of}
use Rattle.cp_world_rules.specs.Rows.{Request}
use Rattle.cp_world_rules.specs.World.{World, begins_now, client_at, ends_now, note}
use Rattle.cp_world_rules.specs.Requests.{MayAsk, needs_session}
use Rattle.cp_world_rules.specs.Answers.{lets_go_on}
use Rattle.cp_world_rules.proofs.Desks.{is_beat}
use Rattle.cp_world_rules.proofs.Lists.{get-append, rows-find}
use Rattle.cp_world_rules.proofs.Ledgers.{ClientOk, Extends, HoldOk, IsSourced, Knows, Ledger, OpenedIn, PendingOk, TaskOk, ToldBy, by_call, client-on, ledger_of, lock_key, return_call, uses_session}
use Rattle.cp_world_rules.proofs.Good.{AnsweredBy, Good, UsesOwn}
use Rattle.cp_world_rules.proofs.Does.{DidOk, DistinctAsked, RisesAsked}

-- the ledger with what a step asks and ends
abbrev pub with_step : World → List Asked → List (Invocation × Answer) → Ledger
with_step w asked ended = record {
  history = w.history;
  requests = w.requests ++ map (begins_now w) asked;
  ends = w.ends ++ map (ends_now w) ended;
  calls = w.calls;
  moves = w.moves;
  now = w.shown.number;
}

-- A client in the midst of a step, which has asked so much: all but what it ends and returns.
pub record Midway (plan : Plan) (w : World) (me : ClientNo) (c : Client) (asked : List Asked) (ended : List (Invocation × Answer)) : Type 0 where
  pub client : ClientOk plan (with_step w asked ended) me c
  pub rises : (t : ThreadNo) → (thread_at (client_at w me) t).number ≤ (thread_at c t).number
  pub fresh : (x : Asked) → Contains asked x → (x.call.client ≡ replay_id me) × ((thread_at (client_at w me) x.call.thread).number < x.call.number) × (x.call.number ≤ (thread_at c x.call.thread).number)
  pub distinct : DistinctAsked asked
  pub rising : RisesAsked asked
  pub legal : (x : Asked) → Contains asked x → UsesOwn w.history x.call.client x.op × IsReached w.state (down_in x.op)
  pub sources : (x : Asked) → Contains asked x → IsSourced plan (ledger_of w) (begins_now w x)

thread-same : (x t : ThreadNo) → is_at (nat_cmp x.0) t.0 ≡ true → x ≡ t
thread-same x t e = ap (λ n. record { 0 = n }) (number_key.same x.0 t.0 (equal_is _ e))

pub thread-cases : (P : ThreadNo → Thread → Type 0) (c : Client) (t : ThreadNo) (row : Thread) → P t row → ((x : ThreadNo) → P x (thread_at c x)) → (x : ThreadNo) → P x (thread_at (with_thread c t row) x)
thread-cases P c t row mine others x = by (is_at (nat_cmp x.0) t.0) refl where
  by : (b : Bool) → is_at (nat_cmp x.0) t.0 ≡ b → P x (thread_at (with_thread c t row) x)
  by true e = subst (λ y. P y (thread_at (with_thread c t row) y)) (sym (thread-same x t e)) (subst (λ o. P t (or_new o)) (sym (find-put_same nat_cmp number_key c.threads t.0 row)) mine)
  by false e = subst (λ o. P x (or_new o)) (sym (find-put_other nat_cmp number_key c.threads t.0 x.0 row e)) (others x)

-- what a thread's row says of its pending request
abbrev pub PendingAt : Plan → Ledger → ClientNo → ThreadNo → Thread → Type 0
PendingAt plan l me t row = (now : Pending) → row.pending ≡ Some now → PendingOk plan l me t row.number now

none-pending : (plan : Plan) (l : Ledger) (me : ClientNo) (t : ThreadNo) (number : ℕ) → PendingAt plan l me t (record { number = number; pending = None })
none-pending plan l me t number now e = absurd (no e) where
  no : None ≡ Some now → ⊥
  no k = cc

-- what a step asks more
step-more : (w : World) (asked more : List Asked) (ended : List (Invocation × Answer)) → Extends (with_step w asked ended) (with_step w (asked ++ more) ended)
step-more w asked more ended = record { history = λ s client h. h; requests = λ r h. at r (Contains-append_cases w.requests (map (begins_now w) asked) r h); ends = λ e h. h; calls = λ c h. h; moves = λ c h. h; now = le_refl w.shown.number } where
  at : (r : Request) → Contains w.requests r ⊎ Contains (map (begins_now w) asked) r → Contains (w.requests ++ map (begins_now w) (asked ++ more)) r
  at r (inl h) = Contains-append_left w.requests (map (begins_now w) (asked ++ more)) r h
  at r (inr h) = let x = mapped (begins_now w) asked r h in
      subst (Contains (w.requests ++ map (begins_now w) (asked ++ more))) (sym x.2) (Contains-append_right w.requests (map (begins_now w) (asked ++ more)) (begins_now w x.0) (map-in (begins_now w) (asked ++ more) x.0 (Contains-append_left asked more x.0 x.1)))

pub nothing-yet : (w : World) (ended : List (Invocation × Answer)) → Extends (ledger_of w) (with_step w [] ended)
nothing-yet w ended = record { history = λ s client h. h; requests = λ r h. Contains-append_left w.requests [] r h; ends = λ e h. Contains-append_left w.ends _ e h; calls = λ c h. h; moves = λ c h. h; now = le_refl w.shown.number }

module _ (plan : Plan) (w : World) (me : ClientNo) (asked : List Asked) (ended : List (Invocation × Answer)) where
  rises-in : (t : ThreadNo) (n : ℕ) (o : Option Pending) (c : Client) → (thread_at c t).number ≤ n → (x : ThreadNo) → (thread_at c x).number ≤ (thread_at (with_thread c t (record { number = n; pending = o })) x).number
  rises-in t n o c more x = thread-cases (λ y row. (thread_at c y).number ≤ row.number) c t (record { number = n; pending = o }) more (λ y. le_refl (thread_at c y).number) x

  -- a thread without a pending request, its number as it was or greater
  pub idle-midway : (t : ThreadNo) (n : ℕ) (c : Client) → (thread_at c t).number ≤ n → Midway plan w me c asked ended → Midway plan w me (with_thread c t (record { number = n; pending = None })) asked ended
  idle-midway t n c more m = record {
    client = record { own = m.client.own; held = m.client.held; pending = thread-cases (PendingAt plan (with_step w asked ended) me) c t (record { number = n; pending = None }) (none-pending plan (with_step w asked ended) me t n) m.client.pending };
    rises = λ x. le_trans (m.rises x) (rises-in t n None c more x);
    fresh = λ x h. let f = m.fresh x h in (f.0, f.1, le_trans f.2 (rises-in t n None c more x.call.thread));
    distinct = m.distinct;
    rising = m.rising;
    legal = m.legal;
    sources = m.sources;
  }

  -- other sessions and hold records
  pub records-midway : (c : Client) (sessions : List (ℕ × OwnSession)) (holds : List (LockKey × HoldRecord)) → All (λ (e : ℕ × OwnSession). OpenedIn w.history e.1.id (replay_id me)) sessions
      → All (λ (e : LockKey × HoldRecord). HoldOk (with_step w asked ended) me e.0 e.1) holds → Midway plan w me c asked ended → Midway plan w me (record c { sessions = sessions; holds = holds }) asked ended
  records-midway c sessions holds own held m = record { client = record { own = own; held = held; pending = m.client.pending }; rises = m.rises; fresh = m.fresh; distinct = m.distinct; rising = m.rising; legal = m.legal; sources = m.sources }

  -- a request
  module _ (t : ThreadNo) (now : Pending) (o : Op) (c : Client) (m : Midway plan w me c asked ended) where
    abbrev pub new_asked : Asked
    new_asked = record { group = now.group; call = next_request (replay_id me) t c; op = o }

    abbrev pub new_row : Thread
    new_row = record { number = (thread_at c t).number + 1; pending = Some now }

    mine : (thread_at c t).number + 1 ≤ (thread_at (with_thread c t new_row) t).number
    mine = subst (λ x. (thread_at c t).number + 1 ≤ (or_new x).number) (sym (find-put_same nat_cmp number_key c.threads t.0 new_row)) (le_refl ((thread_at c t).number + 1))

    grows : (x : ThreadNo) → (thread_at c x).number ≤ (thread_at (with_thread c t new_row) x).number
    grows = rises-in t ((thread_at c t).number + 1) (Some now) c (omega arith)

    same : {x : Pending} → Some now ≡ Some x → now ≡ x
    same e = cc

    fresh-all : (x : Asked) → Contains asked x ⊎ Contains (new_asked ∷ []) x → (x.call.client ≡ replay_id me) × ((thread_at (client_at w me) x.call.thread).number < x.call.number) × (x.call.number ≤ (thread_at (with_thread c t new_row) x.call.thread).number)
    fresh-all x (inl h) = let f = m.fresh x h in (f.0, f.1, le_trans f.2 (grows x.call.thread))
    fresh-all x (inr h) = subst (λ (y : Asked). (y.call.client ≡ replay_id me) × ((thread_at (client_at w me) y.call.thread).number < y.call.number) × (y.call.number ≤ (thread_at (with_thread c t new_row) y.call.thread).number)) (sym (one-is new_asked x h))
        (refl, (let l = m.rises t in omega (arith, l)), mine)

    apart : (x : Asked) → Contains asked x → x.call ≡ new_asked.call → ⊥
    apart x h e = let f = m.fresh x h in let l : x.call.number ≤ (thread_at c x.call.thread).number = f.2 in
        let k : new_asked.call.number ≤ (thread_at c t).number = subst (λ (y : Invocation). y.number ≤ (thread_at c y.thread).number) e l in absurd (omega (arith, k))

    only : (k : ℕ) (x : Asked) → slice_get (new_asked ∷ []) k ≡ Some x → (k ≡ 0) × (new_asked ≡ x)
    only zero x e = (refl, some e) where
      some : Some new_asked ≡ Some x → new_asked ≡ x
      some k = cc
    only (suc k) x e = absurd (no e) where
      no : None ≡ Some x → ⊥
      no f = cc

    distinct-all : DistinctAsked (asked ++ new_asked ∷ [])
    distinct-all j k a b at_j at_k e = by (get-append asked (new_asked ∷ []) j a at_j) (get-append asked (new_asked ∷ []) k b at_k) where
      by : ((slice_get asked j ≡ Some a) × (j < length asked)) ⊎ ((i : ℕ) × (j ≡ length asked + i) × (slice_get (new_asked ∷ []) i ≡ Some a))
          → ((slice_get asked k ≡ Some b) × (k < length asked)) ⊎ ((i : ℕ) × (k ≡ length asked + i) × (slice_get (new_asked ∷ []) i ≡ Some b)) → j ≡ k
      by (inl x) (inl y) = m.distinct j k a b x.0 y.0 e
      by (inl x) (inr y) = let z = only y.0 b y.2 in absurd (apart a (get-contains asked j a x.0) (e ∙ ap (λ (q : Asked). q.call) (sym z.1)))
      by (inr x) (inl y) = let z = only x.0 a x.2 in absurd (apart b (get-contains asked k b y.0) (sym e ∙ ap (λ (q : Asked). q.call) (sym z.1)))
      by (inr x) (inr y) = let p = (only x.0 a x.2).0 in let q = (only y.0 b y.2).0 in let f = x.1 in let g = y.1 in omega (arith, p, q, f, g)

    rising-all : RisesAsked (asked ++ new_asked ∷ [])
    rising-all j k a b l at_j at_k client same_thread = by (get-append asked (new_asked ∷ []) j a at_j) (get-append asked (new_asked ∷ []) k b at_k) where
      by : ((slice_get asked j ≡ Some a) × (j < length asked)) ⊎ ((i : ℕ) × (j ≡ length asked + i) × (slice_get (new_asked ∷ []) i ≡ Some a))
          → ((slice_get asked k ≡ Some b) × (k < length asked)) ⊎ ((i : ℕ) × (k ≡ length asked + i) × (slice_get (new_asked ∷ []) i ≡ Some b)) → a.call.number < b.call.number
      by (inl x) (inl y) = m.rising j k a b l x.0 y.0 client same_thread
      by (inl x) (inr y) = let z = (only y.0 b y.2).1 in let f = (m.fresh a (get-contains asked j a x.0)).2 in
          let n : a.call.number ≤ (thread_at c t).number = subst (λ (u : ThreadNo). a.call.number ≤ (thread_at c u).number) (same_thread ∙ ap (λ (q : Asked). q.call.thread) (sym z)) f in
          let i : b.call.number ≡ (thread_at c t).number + 1 = ap (λ (q : Asked). q.call.number) (sym z) in omega (arith, n, i)
      by (inr x) (inl y) = let f = x.1 in let g = y.1 in absurd (omega (arith, f, g, l))
      by (inr x) (inr y) = let p = (only x.0 a x.2).0 in let q = (only y.0 b y.2).0 in let f = x.1 in let g = y.1 in absurd (omega (arith, p, q, f, g, l))

    pub ask-midway : PendingOk plan (with_step w (asked ++ new_asked ∷ []) ended) me t ((thread_at c t).number + 1) now → UsesOwn w.history (replay_id me) o × IsReached w.state (down_in o) → IsSourced plan (ledger_of w) (begins_now w new_asked)
        → Midway plan w me (ask (replay_id me) t now o c).client (asked ++ new_asked ∷ []) ended
    ask-midway pends legal source = let known = client-on (with_step w asked ended) (with_step w (asked ++ new_asked ∷ []) ended) (step-more w asked (new_asked ∷ []) ended) plan me c m.client in record {
      client = record {
        own = known.own;
        held = known.held;
        pending = thread-cases (PendingAt plan (with_step w (asked ++ new_asked ∷ []) ended) me) c t new_row (λ x e. subst (PendingOk plan (with_step w (asked ++ new_asked ∷ []) ended) me t ((thread_at c t).number + 1)) (same e) pends) known.pending;
      };
      rises = λ x. le_trans (m.rises x) (grows x);
      fresh = λ x h. fresh-all x (Contains-append_cases asked (new_asked ∷ []) x h);
      distinct = distinct-all;
      rising = rising-all;
      legal = λ x h. legal-all x (Contains-append_cases asked (new_asked ∷ []) x h);
      sources = λ x h. sources-all x (Contains-append_cases asked (new_asked ∷ []) x h);
    }
      where
        legal-all : (x : Asked) → Contains asked x ⊎ Contains (new_asked ∷ []) x → UsesOwn w.history x.call.client x.op × IsReached w.state (down_in x.op)
        legal-all x (inl h) = m.legal x h
        legal-all x (inr h) = subst (λ (y : Asked). UsesOwn w.history y.call.client y.op × IsReached w.state (down_in y.op)) (sym (one-is new_asked x h)) legal

        sources-all : (x : Asked) → Contains asked x ⊎ Contains (new_asked ∷ []) x → IsSourced plan (ledger_of w) (begins_now w x)
        sources-all x (inl h) = m.sources x h
        sources-all x (inr h) = subst (λ (y : Asked). IsSourced plan (ledger_of w) (begins_now w y)) (sym (one-is new_asked x h)) source

    -- the request is known from now on
    pub known-now : Knows (with_step w (asked ++ new_asked ∷ []) ended) (next_request (replay_id me) t c) o
    known-now = (begins_now w new_asked, Contains-append_right w.requests (map (begins_now w) (asked ++ new_asked ∷ [])) (begins_now w new_asked) (map-in (begins_now w) (asked ++ new_asked ∷ []) new_asked (Contains-append_right asked (new_asked ∷ []) new_asked (at-head new_asked []))), refl, refl)

-- operations of calls
op-uses : (plan : Plan) (w : World) (me : ClientNo) (o : UserOp) (s round : ℕ) → (uses_session (need_of o) ≡ true → OpenedIn w.history s (replay_id me)) → UsesOwn w.history (replay_id me) (op_of plan o s round)
op-uses plan w me (user.Lock object lock_call.Lock) s round h x is = subst (λ y. OpenedIn w.history y (replay_id me)) (sym (one-is s x is)) (h refl)
op-uses plan w me (user.Lock object (lock_call.Try ms)) s round h x is = subst (λ y. OpenedIn w.history y (replay_id me)) (sym (one-is s x is)) (h refl)
op-uses plan w me (user.Lock object lock_call.Unlock) s round h x is = subst (λ y. OpenedIn w.history y (replay_id me)) (sym (one-is s x is)) (h refl)
op-uses plan w me (user.Lock object lock_call.Owner) s round h x is = absurd (no-element x is)
op-uses plan w me (user.Sem object (sem_call.Init n)) s round h x is = absurd (no-element x is)
op-uses plan w me (user.Sem object (sem_call.Acquire n)) s round h x is = subst (λ y. OpenedIn w.history y (replay_id me)) (sym (one-is s x is)) (h refl)
op-uses plan w me (user.Sem object (sem_call.Try n ms)) s round h x is = subst (λ y. OpenedIn w.history y (replay_id me)) (sym (one-is s x is)) (h refl)
op-uses plan w me (user.Sem object (sem_call.Release n)) s round h x is = subst (λ y. OpenedIn w.history y (replay_id me)) (sym (one-is s x is)) (h refl)
op-uses plan w me (user.Sem object sem_call.Available) s round h x is = absurd (no-element x is)
op-uses plan w me (user.Sem object sem_call.Drain) s round h x is = subst (λ y. OpenedIn w.history y (replay_id me)) (sym (one-is s x is)) (h refl)
op-uses plan w me (user.Sem object (sem_call.Increase n)) s round h x is = subst (λ y. OpenedIn w.history y (replay_id me)) (sym (one-is s x is)) (h refl)
op-uses plan w me (user.Sem object (sem_call.Reduce n)) s round h x is = subst (λ y. OpenedIn w.history y (replay_id me)) (sym (one-is s x is)) (h refl)
op-uses plan w me (user.Long object o) s round h x is = absurd (no-element x is)
op-uses plan w me (user.Ref object o) s round h x is = absurd (no-element x is)
op-uses plan w me (user.Jsem object o) s round h x is = absurd (no-element x is)
op-uses plan w me (user.Latch object o) s round h x is = absurd (no-element x is)
op-uses plan w me (user.Map object o) s round h x is = absurd (no-element x is)
op-uses plan w me (user.Destroy which object) s round h x is = absurd (no-element x is)
op-uses plan w me (user.CloseSession name) s round h x is = subst (λ y. OpenedIn w.history y (replay_id me)) (sym (one-is s x is)) (h refl)
op-uses plan w me (user.Group o) s round h x is = absurd (no-element x is)
op-uses plan w me (user.Member o) s round h x is = absurd (no-element x is)
op-uses plan w me (user.Change o) s round h x is = absurd (no-element x is)

-- a round 0 is always reached
op-reached : (plan : Plan) (o : UserOp) (s : ℕ) (t : GroupState) → IsReached t (down_in (op_of plan o s 0))
op-reached plan (user.Latch object (latch_call.Set n)) s t = tt
op-reached plan (user.Latch object latch_call.Down) s t = inr (omega arith)
op-reached plan (user.Latch object latch_call.Count) s t = tt
op-reached plan (user.Latch object (latch_call.Await ms)) s t = tt
op-reached plan (user.Long object o) s t = tt
op-reached plan (user.Ref object o) s t = tt
op-reached plan (user.Lock object o) s t = tt
op-reached plan (user.Sem object o) s t = tt
op-reached plan (user.Jsem object o) s t = tt
op-reached plan (user.Map object o) s t = tt
op-reached plan (user.Destroy which object) s t = tt
op-reached plan (user.CloseSession name) s t = tt
op-reached plan (user.Group o) s t = tt
op-reached plan (user.Member o) s t = tt
op-reached plan (user.Change o) s t = tt

-- only a countdown needs a round
abbrev pub asks_round : Need → Option (List ℕ)
asks_round (Round name) = Some name
asks_round Nothing = None
asks_round (HoldingSession name) = None
asks_round ItsSession = None
asks_round SessionToClose = None

abbrev pub CountsDown : UserOp → List ℕ → Type 0
CountsDown o name = (object : Object) × (object.name ≡ name) × (o ≡ user.Latch object latch_call.Down)

round-need : (o : UserOp) (name : List ℕ) → asks_round (need_of o) ≡ Some name → CountsDown o name
round-need (user.Latch object latch_call.Down) name e = (object, same_some e, refl)
round-need (user.Latch object (latch_call.Set n)) name e = absurd (none_some e)
round-need (user.Latch object latch_call.Count) name e = absurd (none_some e)
round-need (user.Latch object (latch_call.Await ms)) name e = absurd (none_some e)
round-need (user.Lock object lock_call.Lock) name e = absurd (none_some e)
round-need (user.Lock object (lock_call.Try ms)) name e = absurd (none_some e)
round-need (user.Lock object lock_call.Unlock) name e = absurd (none_some e)
round-need (user.Lock object lock_call.Owner) name e = absurd (none_some e)
round-need (user.Sem object (sem_call.Init n)) name e = absurd (none_some e)
round-need (user.Sem object (sem_call.Acquire n)) name e = absurd (none_some e)
round-need (user.Sem object (sem_call.Try n ms)) name e = absurd (none_some e)
round-need (user.Sem object (sem_call.Release n)) name e = absurd (none_some e)
round-need (user.Sem object sem_call.Available) name e = absurd (none_some e)
round-need (user.Sem object sem_call.Drain) name e = absurd (none_some e)
round-need (user.Sem object (sem_call.Increase n)) name e = absurd (none_some e)
round-need (user.Sem object (sem_call.Reduce n)) name e = absurd (none_some e)
round-need (user.Long object o) name e = absurd (none_some e)
round-need (user.Ref object o) name e = absurd (none_some e)
round-need (user.Jsem object o) name e = absurd (none_some e)
round-need (user.Map object o) name e = absurd (none_some e)
round-need (user.Destroy which object) name e = absurd (none_some e)
round-need (user.CloseSession n) name e = absurd (none_some e)
round-need (user.Group o) name e = absurd (none_some e)
round-need (user.Member o) name e = absurd (none_some e)
round-need (user.Change o) name e = absurd (none_some e)

-- a call goes on
module _ (plan : Plan) (w : World) (me : ClientNo) (ended : List (Invocation × Answer)) (call : Call) (c : Client) (m : Midway plan w me c [] ended) (begun : TaskOk (ledger_of w) me call.thread call.deadline (task.Calls call.op)) where
  abbrev pub Fine : Did → Type 0
  Fine d = Midway plan w me d.client d.asked ended

  sourced : (now : Pending) (o : Op) → MayAsk plan call.op o → IsSourced plan (ledger_of w) (begins_now w (record { group = now.group; call = next_request (replay_id me) call.thread c; op = o }))
  sourced now o may = inl (begun.0, begun.1, ap replay_id (sym begun.2), sym begun.3, begun.6, subst (λ x. MayAsk plan x o) (sym begun.4) may)

  pub itself-fine : (s round : ℕ) → (uses_session (need_of call.op) ≡ true → OpenedIn w.history s (replay_id me)) → IsReached w.state (down_in (op_of plan call.op s round)) → Fine (ask_itself plan (replay_id me) call s round c)
  itself-fine s round opened reached = ask-midway plan w me [] ended call.thread (pending_of call (purpose.ForItself s)) (op_of plan call.op s round) c m
      (record { of_task = begun; for_purpose = ((round, known-now plan w me [] ended call.thread (pending_of call (purpose.ForItself s)) (op_of plan call.op s round) c m), opened) })
      (op-uses plan w me call.op s round opened, reached) (sourced (pending_of call (purpose.ForItself s)) (op_of plan call.op s round) (inl (s, round, refl)))

  session-fine : (so : Option ℕ) → needs_session (need_of call.op) ≡ true → ((s : ℕ) → so ≡ Some s → OpenedIn w.history s (replay_id me)) → Fine (in_session plan (replay_id me) call so c)
  session-fine None needs opened = ask-midway plan w me [] ended call.thread (pending_of call purpose.ForSession) (op.Session session.Open) c m
      (record { of_task = begun; for_purpose = (needs, known-now plan w me [] ended call.thread (pending_of call purpose.ForSession) (op.Session session.Open) c m) })
      (λ s is. absurd (no-element s is), tt) (sourced (pending_of call purpose.ForSession) (op.Session session.Open) (inr (inl (needs, refl))))
  session-fine (Some s) needs opened = itself-fine s 0 (λ n. opened s refl) (op-reached plan call.op s w.state)

  closing-fine : (so : Option ℕ) → need_of call.op ≡ SessionToClose → ((s : ℕ) → so ≡ Some s → OpenedIn w.history s (replay_id me)) → Fine (closing plan (replay_id me) call so c)
  closing-fine None is opened = idle-midway plan w me [] ended call.thread ((thread_at c call.thread).number + 1) c (omega arith) m
  closing-fine (Some s) is opened = itself-fine s 0 (λ n. opened s refl) (op-reached plan call.op s w.state)

  own-opened : (g : ℕ) (so : Option OwnSession) → find nat_cmp c.sessions g ≡ so → (s : ℕ) → id_of so ≡ Some s → OpenedIn w.history s (replay_id me)
  own-opened g None is s e = absurd (none_some e)
  own-opened g (Some own) is s e = subst (λ y. OpenedIn w.history y (replay_id me)) (same_some e) (rows-find nat_cmp number_key (λ k (x : OwnSession). OpenedIn w.history x.id (replay_id me)) c.sessions g own is m.client.own)

  hold-opened : (name : List ℕ) (h : Option HoldRecord) → find lock_cmp c.holds (call.thread.0, call.group.0, name) ≡ h → (s : ℕ) → or_own h (session_in_group c call.group) ≡ Some s → OpenedIn w.history s (replay_id me)
  hold-opened name None is s e = own-opened call.group.0 (find nat_cmp c.sessions call.group.0) refl s e
  hold-opened name (Some h) is s e = subst (λ y. OpenedIn w.history y (replay_id me)) (same_some e) (rows-find lock_cmp lock_key (λ k (x : HoldRecord). HoldOk (with_step w [] ended) me k x) c.holds (call.thread.0, call.group.0, name) h is m.client.held).0

  need-fine : (need : Need) → need_of call.op ≡ need → Fine (by_need plan (replay_id me) need call c)
  need-fine Nothing is = itself-fine 0 0 (λ n. absurd (no (sym (ap uses_session is) ∙ n))) (op-reached plan call.op 0 w.state) where
    no : false ≡ true → ⊥
    no e = cc
  need-fine (HoldingSession name) is = session-fine (holding_session call name c) (ap needs_session is) (hold-opened name (find lock_cmp c.holds (call.thread.0, call.group.0, name)) refl)
  need-fine ItsSession is = session-fine (session_in_group c call.group) (ap needs_session is) (own-opened call.group.0 (find nat_cmp c.sessions call.group.0) refl)
  need-fine SessionToClose is = closing-fine (session_in_group c call.group) is (own-opened call.group.0 (find nat_cmp c.sessions call.group.0) refl)
  need-fine (Round name) is = let down = round-need call.op name (ap asks_round is) in
      ask-midway plan w me [] ended call.thread (pending_of call purpose.ForRound) (op.Latch name latch.Round) c m
      (record {
        of_task = begun;
        for_purpose = (
          down.0,
          down.2,
          subst (λ n. Knows (with_step w ([] ++ (record { group = call.group; call = next_request (replay_id me) call.thread c; op = op.Latch name latch.Round }) ∷ []) ended) (next_request (replay_id me) call.thread c) (op.Latch n latch.Round)) (sym down.1)
              (known-now plan w me [] ended call.thread (pending_of call purpose.ForRound) (op.Latch name latch.Round) c m),
        );
      })
      (λ s used. absurd (no-element s used), tt) (sourced (pending_of call purpose.ForRound) (op.Latch name latch.Round) (inr (inr (name, is, refl))))

  pub go_on-fine : Fine (go_on plan (replay_id me) call c)
  go_on-fine = need-fine (need_of call.op) refl

  -- no request is ended by going on
  session-ends : (so : Option ℕ) → (in_session plan (replay_id me) call so c).ended ≡ []
  session-ends None = refl
  session-ends (Some s) = refl

  closing-ends : (so : Option ℕ) → (closing plan (replay_id me) call so c).ended ≡ []
  closing-ends None = refl
  closing-ends (Some s) = refl

  need-ends : (need : Need) → (by_need plan (replay_id me) need call c).ended ≡ []
  need-ends Nothing = refl
  need-ends (HoldingSession name) = session-ends (holding_session call name c)
  need-ends ItsSession = session-ends (session_in_group c call.group)
  need-ends SessionToClose = closing-ends (session_in_group c call.group)
  need-ends (Round name) = refl

  -- and none returns, but where there is no session to close
  session-returns : (so : Option ℕ) → (in_session plan (replay_id me) call so c).returns ≡ []
  session-returns None = refl
  session-returns (Some s) = refl

  pub needing-returns : needs_session (need_of call.op) ≡ true → (go_on plan (replay_id me) call c).returns ≡ []
  needing-returns = by (need_of call.op) where
    no : false ≡ true → ⊥
    no e = cc

    by : (need : Need) → needs_session need ≡ true → (by_need plan (replay_id me) need call c).returns ≡ []
    by Nothing n = absurd (no n)
    by (HoldingSession name) n = session-returns (holding_session call name c)
    by ItsSession n = session-returns (session_in_group c call.group)
    by SessionToClose n = absurd (no n)
    by (Round name) n = absurd (no n)

-- a step whose ends and returns are known is allowed
pub did : (plan : Plan) (w : World) (me : ClientNo) (d : Did) → Midway plan w me d.client d.asked d.ended → ((x : Invocation × Answer) → Contains d.ended x → AnsweredBy w.requests w.history w.shown.number (length w.history) x.0 x.1)
    → ((r : Return) → Contains d.returns r → ToldBy (ledger_of (note me d w)) w.shown.number me r)
    → ((x : Invocation × Answer) (q : Request) → Contains d.ended x → Contains w.requests q → q.call ≡ x.0 → lets_go_on q.op x.1 ≡ false → (is_beat q.op ≡ true) ⊎ ((r : Return) × Contains d.returns r × (return_call me r ≡ x.0))) → DidOk plan w me d
did plan w me d m ended returns all = record { client = m.client; rises = m.rises; fresh = m.fresh; distinct = m.distinct; rising = m.rising; legal = m.legal; ended = ended; sources = m.sources; returns = returns; all_returned = all }

pub midway-now : (plan : Plan) (w : World) (me : ClientNo) (ended : List (Invocation × Answer)) → Good plan w → Midway plan w me (client_at w me) [] ended
midway-now plan w me ended good = record {
  client = client-on (ledger_of w) (with_step w [] ended) (nothing-yet w ended) plan me (client_at w me) (good.clients me);
  rises = λ t. le_refl (thread_at (client_at w me) t).number;
  fresh = λ x h. absurd (no-element x h);
  distinct = λ j k a b at_j. absurd (none_some at_j);
  rising = λ j k a b l at_j. absurd (none_some at_j);
  legal = λ x h. absurd (no-element x h);
  sources = λ x h. absurd (no-element x h);
}

-- only a `session close` has a session to close
abbrev pub is_closing : Need → Bool
is_closing SessionToClose = true
is_closing Nothing = false
is_closing (HoldingSession name) = false
is_closing ItsSession = false
is_closing (Round name) = false

closing-need : (o : UserOp) → is_closing (need_of o) ≡ true → (name : Option (List ℕ)) × (o ≡ user.CloseSession name)
closing-need (user.CloseSession n) e = (n, refl)
closing-need (user.Latch object latch_call.Down) e = absurd (no_false e)
closing-need (user.Latch object (latch_call.Set n)) e = absurd (no_false e)
closing-need (user.Latch object latch_call.Count) e = absurd (no_false e)
closing-need (user.Latch object (latch_call.Await ms)) e = absurd (no_false e)
closing-need (user.Lock object lock_call.Lock) e = absurd (no_false e)
closing-need (user.Lock object (lock_call.Try ms)) e = absurd (no_false e)
closing-need (user.Lock object lock_call.Unlock) e = absurd (no_false e)
closing-need (user.Lock object lock_call.Owner) e = absurd (no_false e)
closing-need (user.Sem object (sem_call.Init n)) e = absurd (no_false e)
closing-need (user.Sem object (sem_call.Acquire n)) e = absurd (no_false e)
closing-need (user.Sem object (sem_call.Try n ms)) e = absurd (no_false e)
closing-need (user.Sem object (sem_call.Release n)) e = absurd (no_false e)
closing-need (user.Sem object sem_call.Available) e = absurd (no_false e)
closing-need (user.Sem object sem_call.Drain) e = absurd (no_false e)
closing-need (user.Sem object (sem_call.Increase n)) e = absurd (no_false e)
closing-need (user.Sem object (sem_call.Reduce n)) e = absurd (no_false e)
closing-need (user.Long object o) e = absurd (no_false e)
closing-need (user.Ref object o) e = absurd (no_false e)
closing-need (user.Jsem object o) e = absurd (no_false e)
closing-need (user.Map object o) e = absurd (no_false e)
closing-need (user.Destroy which object) e = absurd (no_false e)
closing-need (user.Group o) e = absurd (no_false e)
closing-need (user.Member o) e = absurd (no_false e)
closing-need (user.Change o) e = absurd (no_false e)

-- a call begins: its row stands already
pub call-ok : (plan : Plan) (w : World) (me : ClientNo) (t : ThreadNo) (o : UserOp) → Good plan w → Contains w.calls (record { event = w.shown.number; client = me; thread = t; op = o; clock = (client_at w me).clock })
    → DidOk plan w me (call_client plan (replay_id me) t o (client_at w me))
call-ok plan w me t o good there = did plan w me (call_client plan (replay_id me) t o (client_at w me)) (subst (λ ended. Midway plan w me (go_on plan (replay_id me) call c).client (go_on plan (replay_id me) call c).asked ended) (sym ends) (go_on-fine plan w me [] call c m begun))
    (λ x h. absurd (no-element x (subst (λ xs. Contains xs x) ends h)))
    (λ r h. returns (need_of o) (closing-need o) r h)
    (λ x q h. absurd (no-element x (subst (λ xs. Contains xs x) ends h)))
  where
    c : Client
    c = client_at w me

    call : Call
    call = record { thread = t; group = group_of o; op = o; deadline = deadline_of (client_at w me).clock (wish_of o) }

    m : Midway plan w me (client_at w me) [] []
    m = midway-now plan w me [] good

    begun : TaskOk (ledger_of w) me t (deadline_of (client_at w me).clock (wish_of o)) (task.Calls o)
    begun = (record { event = w.shown.number; client = me; thread = t; op = o; clock = (client_at w me).clock }, there, refl, refl, refl, refl, le_refl w.shown.number)

    ends : (go_on plan (replay_id me) (record { thread = t; group = group_of o; op = o; deadline = deadline_of (client_at w me).clock (wish_of o) }) (client_at w me)).ended ≡ []
    ends = need-ends plan w me [] (record { thread = t; group = group_of o; op = o; deadline = deadline_of (client_at w me).clock (wish_of o) }) (client_at w me) m begun (need_of o)

    closed : (name : Option (List ℕ)) → o ≡ user.CloseSession name → (so : Option ℕ) → (r : Return) → Contains (closing plan (replay_id me) (record { thread = t; group = group_of o; op = o; deadline = deadline_of (client_at w me).clock (wish_of o) }) so (client_at w me)).returns r
        → ToldBy (ledger_of (note me (call_client plan (replay_id me) t o (client_at w me)) w)) w.shown.number me r
    closed name is None r h = subst (ToldBy (ledger_of (note me (call_client plan (replay_id me) t o (client_at w me)) w)) w.shown.number me) (sym (one-is (record { thread = t; number = (thread_at (client_at w me) t).number + 1; ending = ending.Answered answer.Ok }) r h))
        (by_call (record { event = w.shown.number; client = me; thread = t; op = o; clock = (client_at w me).clock }) name there refl refl refl is refl)
    closed name is (Some s) r h = absurd (no-element r h)

    returns : (need : Need) → (is_closing need ≡ true → (name : Option (List ℕ)) × (o ≡ user.CloseSession name)) → (r : Return) → Contains (by_need plan (replay_id me) need (record { thread = t; group = group_of o; op = o; deadline = deadline_of (client_at w me).clock (wish_of o) }) (client_at w me)).returns r
        → ToldBy (ledger_of (note me (call_client plan (replay_id me) t o (client_at w me)) w)) w.shown.number me r
    returns Nothing f r h = absurd (no-element r h)
    returns (HoldingSession name) f r h = absurd (no-element r (subst (λ rs. Contains rs r) (session-returns plan w me [] call (client_at w me) m begun (holding_session call name (client_at w me))) h))
    returns ItsSession f r h = absurd (no-element r (subst (λ rs. Contains rs r) (session-returns plan w me [] call (client_at w me) m begun (session_in_group (client_at w me) (group_of o))) h))
    returns SessionToClose f r h = let x = f refl in closed x.0 x.1 (session_in_group (client_at w me) (group_of o)) r h
    returns (Round name) f r h = absurd (no-element r h)
