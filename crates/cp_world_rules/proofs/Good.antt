-- The invariant of the world, and that a commit keeps it.
use Rattle.std.proofs.Common.{◌≡◌, ℕ, ◌+◌, ◌<◌, ◌≤◌, ◌⊎◌, inl, inr, true, false, List, [], ◌∷◌, ◌++◌, Some, None, Option, refl, sym, subst, ap, ◌∙◌, arith, length, le_refl, le_trans, zero, suc}
use Rattle.std.specs.Prelude.{Contains, slice_get, unsigned_abs}
use Rattle.std.proofs.lemmas.List.{length_push}
use Rattle.std.proofs.lemmas.List.Elements.{Contains-append_cases}
use Rattle.cp_base.specs.Identifiers.{replay_id}
use Rattle.cp_base.specs.declared.identifier.ClientId.{ClientId}
use Rattle.cp_base.specs.declared.identifier.ClientNo.{ClientNo}
use Rattle.cp_base.specs.declared.identifier.Invocation.{Invocation}
use Rattle.cp_answers.specs.declared.answer.Answer.{Answer}
use Rattle.cp_answers.specs.declared.answer.Answer.TheVariants as answer
use Rattle.cp_base.proofs.Tests.{none_some, same_some}
use Rattle.cp_ops.specs.declared.entry.Entry.{Entry}
use Rattle.cp_ops.specs.declared.entry.Entry.TheVariants as entry
use Rattle.cp_object_ops.specs.declared.latch_op.LatchOp.TheVariants as latch
use Rattle.cp_ops.specs.declared.op.Op.{Op}
use Rattle.cp_ops.specs.declared.op.Op.TheVariants as op
use Rattle.cp_ops.specs.declared.session_op.SessionOp.TheVariants as session
use Rattle.cp_events.specs.declared.plan.Plan.{Plan}
use Rattle.cp_group_state.specs.declared.rows.Waiter.{Waiter}
use Rattle.cp_group_state.specs.Sessions.{is_open_for}
use Rattle.cp_group_state.specs.GroupState.{GroupState, empty}
use Rattle.cp_group_state.specs.Apply.{Applied, apply, run}
use Rattle.cp_group_state.specs.History.{IsBelow, IsOrderlyAt, IsOrderlyFrom, IsReached, sessions_in_call, sessions_in_op}
use Rattle.cp_group_state.specs.Protected.{down_in, session_in}
use Rattle.cp_group_state.specs.Invariants.{IsOrdered}
use Rattle.cp_group_state.proofs.Ordered.{order-apply}
use Rattle.cp_group_causes.specs.Moments.{WasOpenFor, session_used, state_before}
use Rattle.cp_group_causes.proofs.Lists.{at-head, at-tail, get-in, get-last, get-left}
use Rattle.cp_group_causes.proofs.Acts.{SessionsUpTo}
use Rattle.cp_group_causes.proofs.After.{after-apply}
use Rattle.cp_group_causes.proofs.Caused.{names-used}
use Rattle.cp_client_rules.specs.Clients.{Asked, thread_at}
use Rattle.cp_world_rules.specs.Rows.{Committed, End, Request, Returned, entries_of}
use Rattle.cp_world_rules.specs.Requests.{NumbersRise}
use Rattle.cp_world_rules.specs.Entries.{NamesOwnSessions}
use Rattle.cp_world_rules.specs.Answers.{lets_go_on}
use Rattle.cp_world_rules.specs.Returns.{request_of}
use Rattle.cp_world_rules.proofs.Desks.{is_beat}
use Rattle.cp_world_rules.specs.World.{World, client_at, client_of, commit, commit_all}
use Rattle.cp_world_rules.proofs.Lists.{after-one_more, all_after, entries-length, entries-more, get-append, moment-last, one-there, orderly-one_more, run-length, run-one_more}
use Rattle.cp_world_rules.proofs.Rounds.{Capped, rounds-applied}
use Rattle.cp_world_rules.proofs.GroupLaws.{StepSound, Tells, call-applied, prepares, tells-plain}
use Rattle.cp_world_rules.proofs.Ledgers.{ClientOk, Extends, IsSourced, OpenedIn, ToldBy, client-on, ledger_of, opened-on, source-on, told-on, was-on}

-- The call's own entry, committed not before its request began.
pub record Entered (requests : List Request) (history : List Committed) (now : ℕ) (call : Invocation) (o : Op) : Type 0 where
  pub request : Request
  pub begun : Contains requests request
  pub mine : request.call ≡ call
  pub op_is : request.op ≡ o
  pub p : ℕ
  pub own : Committed
  pub own_at : slice_get history p ≡ Some own
  pub own_is : own.entry ≡ entry.Call call o
  pub begins : request.event ≤ own.event
  pub by_now : own.event ≤ now
  pub longer : request.length ≤ p

-- An answer that the fold of the history gave to the call, at its entry or after it.
pub record AnsweredBy (requests : List Request) (history : List Committed) (now until : ℕ) (call : Invocation) (a : Answer) : Type 0 where
  pub o : Op
  pub entered : Entered requests history now call o
  pub q : ℕ
  pub giving : Committed
  pub step : Applied
  pub giving_at : slice_get history q ≡ Some giving
  pub step_at : slice_get (run 1 (entries_of history) empty) q ≡ Some step
  pub told : Contains step.answers (call, a)
  pub order : entered.p ≤ q
  pub commits : entered.own.event ≤ giving.event
  pub by_then : giving.event ≤ now
  pub in_length : q < until

-- what an answer to a preparing request still tells
abbrev pub Fits : List Committed → GroupState → ClientId → Op → Answer → Type 0
Fits history s client (op.Session session.Open) (answer.Session id) = OpenedIn history id client
Fits history s client (op.Latch name latch.Round) (answer.Value r) = IsReached s (Some (name, unsigned_abs r))
Fits history s client o a = Unit {0}

pub record Given (w : World) (call : Invocation) (a : Answer) : Type 0 where
  pub answered : AnsweredBy w.requests w.history w.shown.number (length w.history) call a
  pub fits : Fits w.history w.state call.client answered.o a

-- the sessions that an operation names
in-call : (so : Option ℕ) (s : ℕ) → so ≡ Some s → Contains (sessions_in_call so) s
in-call None s e = absurd (none_some e)
in-call (Some t) s e = subst (λ x. Contains (t ∷ []) x) (same_some e) (at-head t [])

pub used-in : (o : Op) (s : ℕ) → session_used o ≡ Some s → Contains (sessions_in_op o) s
used-in (op.Session session.Open) s e = absurd (none_some e)
used-in (op.Session (session.Beat t)) s e = subst (λ x. Contains (t ∷ []) x) (same_some e) (at-head t [])
used-in (op.Session (session.Close t)) s e = absurd (none_some e)
used-in o s e = in-call (session_in o) s e

-- the sessions that an operation names were opened for the client
abbrev pub UsesOwn : List Committed → ClientId → Op → Type 0
UsesOwn history client o = (s : ℕ) → Contains (sessions_in_op o) s → OpenedIn history s client

-- a request that may be committed
pub record IsReady (w : World) (a : Asked) : Type 0 where
  pub request : Request
  pub begun : Contains w.requests request
  pub mine : request.call ≡ a.call
  pub op_is : request.op ≡ a.op
  pub by_now : request.event ≤ w.shown.number
  pub no_longer : request.length ≤ length w.history
  pub uses : UsesOwn w.history a.call.client a.op
  pub reached : IsReached w.state (down_in a.op)

-- no request has the call of another
abbrev pub Distinct : List Request → Type 0
Distinct rs = (j k : ℕ) (a b : Request) → slice_get rs j ≡ Some a → slice_get rs k ≡ Some b → a.call ≡ b.call → j ≡ k

-- an answer that ended a request without letting its call go on was returned then, if the request is no beat
abbrev pub IsReturned : List Returned → ℕ → Invocation → Op → Type 0
IsReturned returned now call o = (is_beat o ≡ true) ⊎ ((r : Returned) × Contains returned r × (r.event ≡ now) × (request_of r ≡ call))

abbrev pub AllReturned : List Request → List End → List Returned → Type 0
AllReturned requests ends returned = (q : Request) (e : End) → Contains requests q → Contains ends e → q.call ≡ e.call → lets_go_on q.op e.answer ≡ false → IsReturned returned e.event e.call q.op

pub record Good (plan : Plan) (w : World) : Type 0 where
  pub state : all_after 1 (entries_of w.history) empty ≡ w.state
  pub ordered : IsOrdered w.state
  pub orderly : IsOrderlyFrom 1 (entries_of w.history) empty
  pub own : NamesOwnSessions (entries_of w.history)
  pub named : (place : ℕ) (call : Invocation) (o : Op) (s : ℕ) → slice_get (entries_of w.history) place ≡ Some (entry.Call call o) → Contains (sessions_in_op o) s → s ≤ place
  pub upto : SessionsUpTo (length w.history) w.state
  pub rounds : Capped w.state
  pub waiters : (x : Waiter) → Contains w.state.waiters x → (o : Op) × Entered w.requests w.history w.shown.number x.call o × (prepares o ≡ false)
  pub queue : (a : Invocation × Answer) → Contains w.queue a → Given w a.0 a.1
  pub ends : (e : End) → Contains w.ends e → AnsweredBy w.requests w.history e.event e.length e.call e.answer
  pub ended_by_now : (e : End) → Contains w.ends e → e.event ≤ w.shown.number
  pub clients_are : (r : Request) → Contains w.requests r → r.call.client ≡ replay_id (client_of r.call)
  pub numbers : (r : Request) → Contains w.requests r → r.call.number ≤ (thread_at (client_at w (client_of r.call)) r.call.thread).number
  pub distinct : Distinct w.requests
  pub rising : NumbersRise w.requests
  pub entered : (place : ℕ) (c : Committed) → slice_get w.history place ≡ Some c → (r : Request) × Contains w.requests r × (c.entry ≡ entry.Call r.call r.op) × (r.event ≤ c.event) × (r.length ≤ place)
  pub sources : (r : Request) → Contains w.requests r → IsSourced plan (ledger_of w) r
  pub returns : (r : Returned) → Contains w.returns r → ToldBy (ledger_of w) r.event r.client r.what
  pub clients : (me : ClientNo) → ClientOk plan (ledger_of w) me (client_at w me)
  pub all_returned : AllReturned w.requests w.ends w.returns

-- what stays when the history and events go on
abbrev pub entered-on : (rs : List Request) (history more : List Committed) (now later : ℕ) (call : Invocation) (o : Op) → now ≤ later → Entered rs history now call o → Entered rs (history ++ more) later call o
entered-on rs history more now later call o l h = record { request = h.request; begun = h.begun; mine = h.mine; op_is = h.op_is; p = h.p; own = h.own; own_at = get-left history more h.p h.own h.own_at; own_is = h.own_is; begins = h.begins; by_now = le_trans h.by_now l; longer = h.longer }

abbrev pub answered-on : (rs : List Request) (history : List Committed) (c : Committed) (now until later : ℕ) (call : Invocation) (a : Answer) → until ≤ later → AnsweredBy rs history now until call a
    → AnsweredBy rs (history ++ c ∷ []) now later call a
answered-on rs history c now until later call a l h = record {
  o = h.o;
  entered = entered-on rs history (c ∷ []) now now call h.o (le_refl now) h.entered;
  q = h.q;
  giving = h.giving;
  step = h.step;
  giving_at = get-left history (c ∷ []) h.q h.giving h.giving_at;
  step_at = subst (λ es. slice_get (run 1 es empty) h.q ≡ Some h.step) (sym (entries-more history (c ∷ [])))
      (subst (λ xs. slice_get xs h.q ≡ Some h.step) (sym (run-one_more 1 (1 + length (entries_of history)) (entries_of history) c.entry empty refl)) (get-left (run 1 (entries_of history) empty) _ h.q h.step h.step_at));
  told = h.told;
  order = h.order;
  commits = h.commits;
  by_then = h.by_then;
  in_length = le_trans h.in_length l;
}

reached-on : (s t : GroupState) → ((name : List ℕ) (round : ℕ) → IsReached s (Some (name, round)) → IsReached t (Some (name, round))) → (down : Option (List ℕ × ℕ)) → IsReached s down → IsReached t down
reached-on s t keep None h = tt
reached-on s t keep (Some down) h = keep down.0 down.1 h

fits-on : (history more : List Committed) (s t : GroupState) (client : ClientId) → ((name : List ℕ) (round : ℕ) → IsReached s (Some (name, round)) → IsReached t (Some (name, round))) → (o : Op) (a : Answer) → Fits history s client o a → Fits (history ++ more) t client o a
fits-on history more s t client keep (op.Session session.Open) (answer.Session id) h = opened-on history more id client h
fits-on history more s t client keep (op.Latch name latch.Round) (answer.Value r) h = keep name (unsigned_abs r) h
fits-on history more s t client keep o a h = tt

-- a session that is named is below the index
below-own : (n : ℕ) (history : List Committed) (client : ClientId) (o : Op) → n ≡ length history + 1 → UsesOwn history client o → IsBelow n (session_in o)
below-own n history client o h uses = at (session_in o) refl where
  at : (so : Option ℕ) → session_in o ≡ so → IsBelow n so
  at None is = tt
  at (Some s) is = let opened = uses s (used-in o s (names-used o s is)) in let l = opened.within in omega (arith, h, l)

module _ (plan : Plan) (w : World) (a : Asked) (good : Good plan w) (ready : IsReady w a) where
  abbrev pub index : ℕ
  index = length w.history + 1

  abbrev pub here : Committed
  here = record { event = w.shown.number; entry = entry.Call a.call a.op }

  abbrev pub done : Applied
  done = apply (length w.history + 1) (entry.Call a.call a.op) w.state

  sound : StepSound a.call a.op w.state done
  sound = call-applied index a.call a.op w.state good.ordered.sessions

  size : length (w.history ++ here ∷ []) ≡ index
  size = length_push w.history here

  plain-size : length (entries_of w.history) ≡ length w.history
  plain-size = entries-length w.history

  state-here : all_after 1 (entries_of w.history ++ entry.Call a.call a.op ∷ []) empty ≡ done.state
  state-here = after-one_more 1 index (entries_of w.history) (entry.Call a.call a.op) empty (omega (arith, plain-size)) ∙ ap (λ s. (apply index (entry.Call a.call a.op) s).state) good.state

  orderly-here : IsOrderlyFrom 1 (entries_of w.history ++ entry.Call a.call a.op ∷ []) empty
  orderly-here = orderly-one_more 1 index (entries_of w.history) (entry.Call a.call a.op) empty (omega (arith, plain-size)) good.orderly
      (subst (IsOrderlyAt index (entry.Call a.call a.op)) (sym good.state) (below-own index w.history a.call.client a.op refl ready.uses, ready.reached))

  -- sessions
  own-here : NamesOwnSessions (entries_of w.history ++ entry.Call a.call a.op ∷ [])
  own-here place call o s is used = at (get-append (entries_of w.history) (entry.Call a.call a.op ∷ []) place (entry.Call call o) is) where
    same_call : {c d : Invocation} {p q : Op} → entry.Call c p ≡ entry.Call d q → c ≡ d
    same_call e = cc

    same_op : {c d : Invocation} {p q : Op} → entry.Call c p ≡ entry.Call d q → p ≡ q
    same_op e = cc

    last : (k : ℕ) → slice_get (entry.Call a.call a.op ∷ []) k ≡ Some (entry.Call call o) → (k ≡ 0) × (entry.Call a.call a.op ≡ entry.Call call o)
    last zero e = (refl, some e) where
      some : Some (entry.Call a.call a.op) ≡ Some (entry.Call call o) → entry.Call a.call a.op ≡ entry.Call call o
      some k = cc
    last (suc k) e = absurd (no e) where
      no : None ≡ Some (entry.Call call o) → ⊥
      no x = cc

    new : place ≡ length w.history → entry.Call a.call a.op ≡ entry.Call call o → WasOpenFor (entries_of w.history ++ entry.Call a.call a.op ∷ []) place s call.client
    new at_end same = let opened = ready.uses s (subst (λ p. Contains (sessions_in_op p) s) (sym (same_op same)) used) in
        subst (λ (c : Invocation). WasOpenFor (entries_of w.history ++ entry.Call a.call a.op ∷ []) place s c.client) (same_call same)
        (subst (λ n. WasOpenFor (entries_of w.history ++ entry.Call a.call a.op ∷ []) n s a.call.client) (sym at_end)
        (was-on (entries_of w.history) (entry.Call a.call a.op ∷ []) (length w.history) s a.call.client (omega (arith, plain-size)) opened.was))

    at : ((slice_get (entries_of w.history) place ≡ Some (entry.Call call o)) × (place < length (entries_of w.history))) ⊎ ((k : ℕ) × (place ≡ length (entries_of w.history) + k) × (slice_get (entry.Call a.call a.op ∷ []) k ≡ Some (entry.Call call o)))
        → WasOpenFor (entries_of w.history ++ entry.Call a.call a.op ∷ []) place s call.client
    at (inl h) = let l = h.1 in was-on (entries_of w.history) (entry.Call a.call a.op ∷ []) place s call.client (omega (arith, l)) (good.own place call o s h.0 used)
    at (inr h) = let e = last h.0 h.2 in let p = h.1 in let z = e.0 in new (omega (arith, p, z, plain-size)) e.1

  named-here : (place : ℕ) (call : Invocation) (o : Op) (s : ℕ) → slice_get (entries_of w.history ++ entry.Call a.call a.op ∷ []) place ≡ Some (entry.Call call o) → Contains (sessions_in_op o) s → s ≤ place
  named-here place call o s is used = at (get-append (entries_of w.history) (entry.Call a.call a.op ∷ []) place (entry.Call call o) is) where
    same_op : {c d : Invocation} {p q : Op} → entry.Call c p ≡ entry.Call d q → p ≡ q
    same_op e = cc

    at : ((slice_get (entries_of w.history) place ≡ Some (entry.Call call o)) × (place < length (entries_of w.history))) ⊎ ((k : ℕ) × (place ≡ length (entries_of w.history) + k) × (slice_get (entry.Call a.call a.op ∷ []) k ≡ Some (entry.Call call o))) → s ≤ place
    at (inl h) = good.named place call o s h.0 used
    at (inr h) = let e = one-there (entry.Call a.call a.op) h.0 (entry.Call call o) h.2 in let p = h.1 in
        let opened = ready.uses s (subst (λ q. Contains (sessions_in_op q) s) (sym (same_op e.1)) used) in let l = opened.within in omega (arith, p, l, plain-size)

  upto-here : SessionsUpTo index done.state
  upto-here = (after-apply index (entry.Call a.call a.op) w.state).upto (λ x client h. let l = good.upto x client h in omega (arith, l))

  opened-here : (id : ℕ) (client : ClientId) → is_open_for done.state.sessions id client ≡ true → OpenedIn (w.history ++ here ∷ []) id client
  opened-here id client h = record {
    within = let l = upto-here id client h in omega (arith, l, size);
    was = record {
      moment = length (w.history ++ here ∷ []);
      before = le_refl (length (w.history ++ here ∷ []));
      is_open = subst (λ t. is_open_for t.sessions id client ≡ true) (sym now) h;
    };
  }
    where
      now : state_before (entries_of (w.history ++ here ∷ [])) (length (w.history ++ here ∷ [])) ≡ done.state
      now = moment-last (length (w.history ++ here ∷ [])) 1 (entries_of (w.history ++ here ∷ [])) empty (sym (entries-length (w.history ++ here ∷ []))) ∙ (ap (λ es. all_after 1 es empty) (entries-more w.history (here ∷ [])) ∙ state-here)

  keeps-rounds : Capped done.state × ((name : List ℕ) (round : ℕ) → IsReached w.state (Some (name, round)) → IsReached done.state (Some (name, round)))
  keeps-rounds = rounds-applied index a.call a.op w.state good.rounds

  own-entered : Entered w.requests (w.history ++ here ∷ []) w.shown.number a.call a.op
  own-entered = record { request = ready.request; begun = ready.begun; mine = ready.mine; op_is = ready.op_is; p = length w.history; own = here; own_at = get-last w.history here; own_is = refl; begins = ready.by_now; by_now = le_refl w.shown.number; longer = ready.no_longer }

  step-here : slice_get (run 1 (entries_of (w.history ++ here ∷ [])) empty) (length w.history) ≡ Some done
  step-here = subst (λ es. slice_get (run 1 es empty) (length w.history) ≡ Some done) (sym (entries-more w.history (here ∷ [])))
      (subst (λ xs. slice_get xs (length w.history) ≡ Some done) (sym (run-one_more 1 index (entries_of w.history) (entry.Call a.call a.op) empty (omega (arith, plain-size))))
      (subst (λ s. slice_get (run 1 (entries_of w.history) empty ++ apply index (entry.Call a.call a.op) s ∷ []) (length w.history) ≡ Some done) (sym good.state)
      (subst (λ k. slice_get (run 1 (entries_of w.history) empty ++ done ∷ []) k ≡ Some done) (run-length 1 (entries_of w.history) empty ∙ plain-size) (get-last (run 1 (entries_of w.history) empty) done))))

  abbrev pub committed : World
  committed = commit a w

  new-waiter : (x : Waiter) → Contains w.state.waiters x ⊎ ((x.call ≡ a.call) × (prepares a.op ≡ false)) → (p : Op) × Entered w.requests (w.history ++ here ∷ []) w.shown.number x.call p × (prepares p ≡ false)
  new-waiter x (inl h) = let r = good.waiters x h in (r.0, entered-on w.requests w.history (here ∷ []) w.shown.number w.shown.number x.call r.0 (le_refl w.shown.number) r.1, r.2)
  new-waiter x (inr h) = (a.op, subst (λ c. Entered w.requests (w.history ++ here ∷ []) w.shown.number c a.op) (sym h.0) own-entered, h.1)

  fits-told : (client : ClientId) (o : Op) (x : Answer) → Tells done.state client o x → Fits (w.history ++ here ∷ []) done.state client o x
  fits-told client (op.Session session.Open) (answer.Session id) h = opened-here id client h
  fits-told client (op.Latch name latch.Round) (answer.Value r) h = h
  fits-told client o x h = tt

  -- an answer of this entry, of a call that was entered
  new-answer : (x : Invocation × Answer) (p : Op) → Contains done.answers x → (e : Entered w.requests (w.history ++ here ∷ []) w.shown.number x.0 p) → Tells done.state x.0.client p x.1 → Given (commit a w) x.0 x.1
  new-answer x p told e tells = record {
    answered = record {
      o = p;
      entered = e;
      q = length w.history;
      giving = here;
      step = done;
      giving_at = get-last w.history here;
      step_at = step-here;
      told = told;
      order = let l = get-in (w.history ++ here ∷ []) e.p e.own e.own_at in omega (arith, l, size);
      commits = e.by_now;
      by_then = le_refl w.shown.number;
      in_length = omega (arith, size);
    };
    fits = fits-told x.0.client p x.1 tells;
  }

  pub given-later : (x : Invocation × Answer) → Given w x.0 x.1 → Given (commit a w) x.0 x.1
  given-later x g = record {
    answered = answered-on w.requests w.history here w.shown.number (length w.history) (length (w.history ++ here ∷ [])) x.0 x.1 (omega (arith, size)) g.answered;
    fits = fits-on w.history (here ∷ []) w.state done.state x.0.client keeps-rounds.1 g.answered.o x.1 g.fits;
  }

  all-answers : (x : Invocation × Answer) → Contains w.queue x ⊎ Contains done.answers x → Given (commit a w) x.0 x.1
  all-answers x (inl h) = given-later x (good.queue x h)
  all-answers x (inr h) = at (sound.1 x h) where
    at : ((v : Waiter) × Contains w.state.waiters v × (v.call ≡ x.0)) ⊎ ((x.0 ≡ a.call) × Tells done.state a.call.client a.op x.1) → Given (commit a w) x.0 x.1
    at (inl k) = let r = good.waiters k.0 k.1 in
        new-answer x r.0 h (subst (λ c. Entered w.requests (w.history ++ here ∷ []) w.shown.number c r.0) k.2 (entered-on w.requests w.history (here ∷ []) w.shown.number w.shown.number k.0.call r.0 (le_refl w.shown.number) r.1))
        (tells-plain done.state x.0.client r.0 x.1 r.2)
    at (inr k) = new-answer x a.op h (subst (λ c. Entered w.requests (w.history ++ here ∷ []) w.shown.number c a.op) (sym k.0) own-entered) (subst (λ (c : Invocation). Tells done.state c.client a.op x.1) (sym k.0) k.1)

  in-history : (place : ℕ) (c : Committed) → ((slice_get w.history place ≡ Some c) × (place < length w.history)) ⊎ ((k : ℕ) × (place ≡ length w.history + k) × (slice_get (here ∷ []) k ≡ Some c))
      → (r : Request) × Contains w.requests r × (c.entry ≡ entry.Call r.call r.op) × (r.event ≤ c.event) × (r.length ≤ place)
  in-history place c (inl h) = good.entered place c h.0
  in-history place c (inr h) = by (one-there here h.0 c h.2).1 where
    by : here ≡ c → (r : Request) × Contains w.requests r × (c.entry ≡ entry.Call r.call r.op) × (r.event ≤ c.event) × (r.length ≤ place)
    by e = (
      ready.request,
      ready.begun,
      ap (λ (x : Committed). x.entry) (sym e) ∙ (ap (λ (c : Invocation). entry.Call c a.op) (sym ready.mine) ∙ ap (λ (p : Op). entry.Call ready.request.call p) (sym ready.op_is)),
      subst (λ (x : Committed). ready.request.event ≤ x.event) e ready.by_now,
      (let l = ready.no_longer in let p = h.1 in omega (arith, l, p)),
    )

  pub ledger-here : Extends (ledger_of w) (ledger_of (commit a w))
  ledger-here = record { history = λ s client h. opened-on w.history (here ∷ []) s client h; requests = λ r h. h; ends = λ e h. h; calls = λ c h. h; moves = λ c h. h; now = le_refl w.shown.number }

  pub ready-later : (b : Asked) → IsReady w b → IsReady (commit a w) b
  ready-later b h = record {
    request = h.request;
    begun = h.begun;
    mine = h.mine;
    op_is = h.op_is;
    by_now = h.by_now;
    no_longer = let l = h.no_longer in omega (arith, l, size);
    uses = λ s used. opened-on w.history (here ∷ []) s b.call.client (h.uses s used);
    reached = reached-on w.state done.state keeps-rounds.1 (down_in b.op) h.reached;
  }

  pub commit-good : Good plan (commit a w)
  commit-good = record {
    state = subst (λ es. all_after 1 es empty ≡ done.state) (sym (entries-more w.history (here ∷ []))) state-here;
    ordered = order-apply index (entry.Call a.call a.op) w.state good.ordered;
    orderly = subst (λ es. IsOrderlyFrom 1 es empty) (sym (entries-more w.history (here ∷ []))) orderly-here;
    own = subst NamesOwnSessions (sym (entries-more w.history (here ∷ []))) own-here;
    named = subst (λ (es : List Entry). (place : ℕ) (call : Invocation) (o : Op) (s : ℕ) → slice_get es place ≡ Some (entry.Call call o) → Contains (sessions_in_op o) s → s ≤ place) (sym (entries-more w.history (here ∷ []))) named-here;
    upto = subst (λ n. SessionsUpTo n done.state) (sym size) upto-here;
    rounds = keeps-rounds.0;
    waiters = λ x h. new-waiter x (sound.0 x h);
    queue = λ x h. all-answers x (Contains-append_cases w.queue done.answers x h);
    ends = λ e h. answered-on w.requests w.history here e.event e.length e.length e.call e.answer (le_refl e.length) (good.ends e h);
    ended_by_now = good.ended_by_now;
    clients_are = good.clients_are;
    numbers = good.numbers;
    distinct = good.distinct;
    rising = good.rising;
    entered = λ place c h. in-history place c (get-append w.history (here ∷ []) place c h);
    sources = λ r h. source-on (ledger_of w) (ledger_of (commit a w)) ledger-here plan r (good.sources r h);
    returns = λ r h. told-on (ledger_of w) (ledger_of (commit a w)) ledger-here r.event r.client r.what (good.returns r h);
    clients = λ me. client-on (ledger_of w) (ledger_of (commit a w)) ledger-here plan me (client_at w me) (good.clients me);
    all_returned = good.all_returned;
  }

-- all requests that are asked are committed
pub commits-good : (plan : Plan) (asked : List Asked) (w : World) → Good plan w → ((a : Asked) → Contains asked a → IsReady w a) → Good plan (commit_all asked w)
commits-good plan [] w good ready = good
commits-good plan (a ∷ asked) w good ready = let one = ready a (at-head a asked) in
    commits-good plan asked (commit a w) (commit-good plan w a good one) (λ b h. ready-later plan w a good one b (ready b (at-tail a b asked h)))

pub commits-given : (plan : Plan) (asked : List Asked) (w : World) → Good plan w → ((a : Asked) → Contains asked a → IsReady w a) → (x : Invocation × Answer) → Given w x.0 x.1 → Given (commit_all asked w) x.0 x.1
commits-given plan [] w good ready x g = g
commits-given plan (a ∷ asked) w good ready x g = let one = ready a (at-head a asked) in
    commits-given plan asked (commit a w) (commit-good plan w a good one) (λ b h. ready-later plan w a good one b (ready b (at-tail a b asked h))) x (given-later plan w a good one x g)
