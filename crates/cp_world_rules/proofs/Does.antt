-- A client's step keeps the invariant.
use Rattle.std.proofs.Common.{◌≡◌, ℕ, ◌+◌, ◌<◌, ◌≤◌, ◌⊎◌, inl, inr, Bool, true, false, List, ◌++◌, Some, refl, sym, subst, ap, ◌∙◌, arith, length, map, le_refl, le_trans}
use Rattle.std.specs.Prelude.{Contains, slice_get}
use Rattle.std.specs.Ordering.{nat_cmp}
use Rattle.std.specs.BTreeMap.{is_at}
use Rattle.std.proofs.lemmas.List.Elements.{Contains-append_left, Contains-append_right, Contains-append_cases}
use Rattle.cp_base.specs.Identifiers.{replay_id}
use Rattle.cp_base.specs.declared.identifier.ClientNo.{ClientNo}
use Rattle.cp_base.specs.declared.identifier.Invocation.{Invocation}
use Rattle.cp_base.specs.declared.identifier.ThreadNo.{ThreadNo}
use Rattle.cp_answers.specs.declared.answer.Answer.{Answer}
use Rattle.cp_ops.specs.declared.op.Op.{Op}
use Rattle.cp_events.specs.declared.effects.Return.{Return}
use Rattle.cp_events.specs.declared.plan.Plan.{Plan}
use Rattle.cp_group_state.specs.History.{IsReached}
use Rattle.cp_group_state.specs.Protected.{down_in}
use Rattle.cp_group_state.proofs.Keyed.{equal_is, find-put_same, find-put_other, number_key}
use Rattle.cp_group_causes.proofs.Lists.{get-contains, map-in, mapped}
use Rattle.cp_client_rules.specs.Clients.{Asked, Client, Did, thread_at}
use Rattle.cp_world_rules.specs.Rows.{Committed, End, Request, Returned}
use Rattle.cp_world_rules.specs.World.{World, begins_now, client_at, client_of, does, ends_now, note, or_new, returns_now}
use Rattle.cp_world_rules.specs.Requests.{NumbersRise}
use Rattle.cp_world_rules.specs.Answers.{lets_go_on}
use Rattle.cp_world_rules.proofs.Desks.{is_beat}
use Rattle.cp_world_rules.proofs.Lists.{get-append, get-map}
use Rattle.cp_world_rules.proofs.Ledgers.{ClientOk, Extends, IsSourced, ToldBy, client-on, ledger_of, return_call, source-on, told-on}
use Rattle.cp_world_rules.proofs.Good.{AnsweredBy, Distinct, Entered, Given, Good, IsReady, IsReturned, UsesOwn, commits-given, commits-good}

-- no request of a step has the call of another
abbrev pub DistinctAsked : List Asked → Type 0
DistinctAsked rs = (j k : ℕ) (a b : Asked) → slice_get rs j ≡ Some a → slice_get rs k ≡ Some b → a.call ≡ b.call → j ≡ k

-- numbers rise along the requests of a step
abbrev pub RisesAsked : List Asked → Type 0
RisesAsked rs = (j k : ℕ) (a b : Asked) → j < k → slice_get rs j ≡ Some a → slice_get rs k ≡ Some b → a.call.client ≡ b.call.client → a.call.thread ≡ b.call.thread → a.call.number < b.call.number

pub record DidOk (plan : Plan) (w : World) (me : ClientNo) (d : Did) : Type 0 where
  pub client : ClientOk plan (ledger_of (note me d w)) me d.client
  pub rises : (t : ThreadNo) → (thread_at (client_at w me) t).number ≤ (thread_at d.client t).number
  pub fresh : (x : Asked) → Contains d.asked x → (x.call.client ≡ replay_id me) × ((thread_at (client_at w me) x.call.thread).number < x.call.number) × (x.call.number ≤ (thread_at d.client x.call.thread).number)
  pub distinct : DistinctAsked d.asked
  pub rising : RisesAsked d.asked
  pub legal : (x : Asked) → Contains d.asked x → UsesOwn w.history x.call.client x.op × IsReached w.state (down_in x.op)
  pub ended : (x : Invocation × Answer) → Contains d.ended x → AnsweredBy w.requests w.history w.shown.number (length w.history) x.0 x.1
  pub sources : (x : Asked) → Contains d.asked x → IsSourced plan (ledger_of w) (begins_now w x)
  pub returns : (r : Return) → Contains d.returns r → ToldBy (ledger_of (note me d w)) w.shown.number me r
  pub all_returned : (x : Invocation × Answer) (q : Request) → Contains d.ended x → Contains w.requests q → q.call ≡ x.0 → lets_go_on q.op x.1 ≡ false → (is_beat q.op ≡ true) ⊎ ((r : Return) × Contains d.returns r × (return_call me r ≡ x.0))

-- requests that are added take nothing away
abbrev pub entered-more : (rs more : List Request) (history : List Committed) (now : ℕ) (call : Invocation) (o : Op) → Entered rs history now call o → Entered (rs ++ more) history now call o
entered-more rs more history now call o h = record { request = h.request; begun = Contains-append_left rs more h.request h.begun; mine = h.mine; op_is = h.op_is; p = h.p; own = h.own; own_at = h.own_at; own_is = h.own_is; begins = h.begins; by_now = h.by_now; longer = h.longer }

abbrev pub answered-more : (rs more : List Request) (history : List Committed) (now until : ℕ) (call : Invocation) (a : Answer) → AnsweredBy rs history now until call a → AnsweredBy (rs ++ more) history now until call a
answered-more rs more history now until call a h = record {
  o = h.o;
  entered = entered-more rs more history now call h.o h.entered;
  q = h.q;
  giving = h.giving;
  step = h.step;
  giving_at = h.giving_at;
  step_at = h.step_at;
  told = h.told;
  order = h.order;
  commits = h.commits;
  by_then = h.by_then;
  in_length = h.in_length;
}

-- the client of a call whose client is known
pub client-of : (call : Invocation) (me : ClientNo) → call.client ≡ replay_id me → client_of call ≡ me
client-of call me e = ap (λ c. client_of (record { client = c; thread = call.thread; number = call.number })) e

module _ (plan : Plan) (w : World) (me : ClientNo) (d : Did) (good : Good plan w) (ok : DidOk plan w me d) where
  abbrev pub new : List Request
  new = map (begins_now w) d.asked

  -- the client itself, or another one
  pub at-client : (P : ClientNo → Client → Type 0) → P me d.client → ((x : ClientNo) → is_at (nat_cmp x.0) me.0 ≡ false → P x (client_at w x)) → (x : ClientNo) → P x (client_at (note me d w) x)
  at-client P mine others x = by (is_at (nat_cmp x.0) me.0) refl where
    by : (b : Bool) → is_at (nat_cmp x.0) me.0 ≡ b → P x (client_at (note me d w) x)
    by true e = let same : x ≡ me = ap (λ n. record { 0 = n }) (number_key.same x.0 me.0 (equal_is _ e)) in
        subst (λ y. P y (client_at (note me d w) y)) (sym same) (subst (λ o. P me (or_new o)) (sym (find-put_same nat_cmp number_key w.clients me.0 d.client)) mine)
    by false e = subst (λ o. P x (or_new o)) (sym (find-put_other nat_cmp number_key w.clients me.0 x.0 d.client e)) (others x e)

  mine-now : client_at (note me d w) me ≡ d.client
  mine-now = ap or_new (find-put_same nat_cmp number_key w.clients me.0 d.client)

  numbers-rise : (x : ClientNo) (t : ThreadNo) → (thread_at (client_at w x) t).number ≤ (thread_at (client_at (note me d w) x) t).number
  numbers-rise x t = at-client (λ y c. (thread_at (client_at w y) t).number ≤ (thread_at c t).number) (ok.rises t) (λ y e. le_refl (thread_at (client_at w y) t).number) x

  new-number : (x : Asked) → Contains d.asked x → x.call.number ≤ (thread_at (client_at (note me d w) (client_of x.call)) x.call.thread).number
  new-number x h = let f = ok.fresh x h in let l : x.call.number ≤ (thread_at d.client x.call.thread).number = f.2 in
      subst (λ y. x.call.number ≤ (thread_at (client_at (note me d w) y) x.call.thread).number) (sym (client-of x.call me f.0)) (subst (λ c. x.call.number ≤ (thread_at c x.call.thread).number) (sym mine-now) l)

  all-numbers : (r : Request) → Contains w.requests r ⊎ Contains new r → r.call.number ≤ (thread_at (client_at (note me d w) (client_of r.call)) r.call.thread).number
  all-numbers r (inl h) = le_trans (good.numbers r h) (numbers-rise (client_of r.call) r.call.thread)
  all-numbers r (inr h) = let x = mapped (begins_now w) d.asked r h in subst (λ (q : Request). q.call.number ≤ (thread_at (client_at (note me d w) (client_of q.call)) q.call.thread).number) (sym x.2) (new-number x.0 x.1)

  all-clients : (r : Request) → Contains w.requests r ⊎ Contains new r → r.call.client ≡ replay_id (client_of r.call)
  all-clients r (inl h) = good.clients_are r h
  all-clients r (inr h) = let x = mapped (begins_now w) d.asked r h in subst (λ (q : Request). q.call.client ≡ replay_id (client_of q.call)) (sym x.2)
      (let f = ok.fresh x.0 x.1 in f.0 ∙ ap replay_id (sym (client-of x.0.call me f.0)))

  -- an old request and a new one are of different calls
  apart : (r : Request) (x : Asked) → Contains w.requests r → Contains d.asked x → r.call ≡ x.call → ⊥
  apart r x old h e = let f = ok.fresh x h in let l : (thread_at (client_at w me) x.call.thread).number < x.call.number = f.1 in
      let n : x.call.number ≤ (thread_at (client_at w (client_of x.call)) x.call.thread).number = subst (λ (c : Invocation). c.number ≤ (thread_at (client_at w (client_of c)) c.thread).number) e (good.numbers r old) in
      let m : x.call.number ≤ (thread_at (client_at w me) x.call.thread).number = subst (λ y. x.call.number ≤ (thread_at (client_at w y) x.call.thread).number) (client-of x.call me f.0) n in absurd (omega (arith, l, m))

  all-distinct : Distinct (w.requests ++ new)
  all-distinct j k a b at_j at_k same = by (get-append w.requests new j a at_j) (get-append w.requests new k b at_k) where
    by : ((slice_get w.requests j ≡ Some a) × (j < length w.requests)) ⊎ ((i : ℕ) × (j ≡ length w.requests + i) × (slice_get new i ≡ Some a))
        → ((slice_get w.requests k ≡ Some b) × (k < length w.requests)) ⊎ ((i : ℕ) × (k ≡ length w.requests + i) × (slice_get new i ≡ Some b)) → j ≡ k
    by (inl x) (inl y) = good.distinct j k a b x.0 y.0 same
    by (inl x) (inr y) = let z = get-map (begins_now w) d.asked y.0 b y.2 in absurd (apart a z.0 (get-contains w.requests j a x.0) (get-contains d.asked y.0 z.0 z.1) (same ∙ ap (λ (q : Request). q.call) z.2))
    by (inr x) (inl y) = let z = get-map (begins_now w) d.asked x.0 a x.2 in absurd (apart b z.0 (get-contains w.requests k b y.0) (get-contains d.asked x.0 z.0 z.1) (sym same ∙ ap (λ (q : Request). q.call) z.2))
    by (inr x) (inr y) = let p = get-map (begins_now w) d.asked x.0 a x.2 in let q = get-map (begins_now w) d.asked y.0 b y.2 in
        let i : x.0 ≡ y.0 = ok.distinct x.0 y.0 p.0 q.0 p.1 q.1 (ap (λ (r : Request). r.call) (sym p.2) ∙ (same ∙ ap (λ (r : Request). r.call) q.2)) in
        let e = x.1 in let f = y.1 in omega (arith, i, e, f)

  all-rising : NumbersRise (w.requests ++ new)
  all-rising j k a b l at_j at_k client thread = by (get-append w.requests new j a at_j) (get-append w.requests new k b at_k) where
    behind : Contains w.requests a → (x : Asked) → Contains d.asked x → b ≡ begins_now w x → a.call.number < b.call.number
    behind there x asked is = let f = ok.fresh x asked in
        let mine : a.call.client ≡ replay_id me = client ∙ (ap (λ (q : Request). q.call.client) is ∙ f.0) in
        let same : a.call.thread ≡ x.call.thread = thread ∙ ap (λ (q : Request). q.call.thread) is in
        let n : a.call.number ≤ (thread_at (client_at w me) a.call.thread).number = subst (λ y. a.call.number ≤ (thread_at (client_at w y) a.call.thread).number) (client-of a.call me mine) (good.numbers a there) in
        let m : a.call.number ≤ (thread_at (client_at w me) x.call.thread).number = subst (λ (t : ThreadNo). a.call.number ≤ (thread_at (client_at w me) t).number) same n in
        let more : (thread_at (client_at w me) x.call.thread).number < x.call.number = f.1 in
        let number : b.call.number ≡ x.call.number = ap (λ (q : Request). q.call.number) is in omega (arith, m, more, number)

    by : ((slice_get w.requests j ≡ Some a) × (j < length w.requests)) ⊎ ((i : ℕ) × (j ≡ length w.requests + i) × (slice_get new i ≡ Some a))
        → ((slice_get w.requests k ≡ Some b) × (k < length w.requests)) ⊎ ((i : ℕ) × (k ≡ length w.requests + i) × (slice_get new i ≡ Some b)) → a.call.number < b.call.number
    by (inl x) (inl y) = good.rising j k a b l x.0 y.0 client thread
    by (inl x) (inr y) = let z = get-map (begins_now w) d.asked y.0 b y.2 in behind (get-contains w.requests j a x.0) z.0 (get-contains d.asked y.0 z.0 z.1) z.2
    by (inr x) (inl y) = let e = x.1 in let f = y.1 in absurd (omega (arith, e, f, l))
    by (inr x) (inr y) = let p = get-map (begins_now w) d.asked x.0 a x.2 in let q = get-map (begins_now w) d.asked y.0 b y.2 in
        let e = x.1 in let f = y.1 in let less : x.0 < y.0 = omega (arith, e, f, l) in
        let r = ok.rising x.0 y.0 p.0 q.0 less p.1 q.1 (ap (λ (z : Request). z.call.client) (sym p.2) ∙ (client ∙ ap (λ (z : Request). z.call.client) q.2)) (ap (λ (z : Request). z.call.thread) (sym p.2) ∙ (thread ∙ ap (λ (z : Request). z.call.thread) q.2)) in
        let m : a.call.number ≡ p.0.call.number = ap (λ (z : Request). z.call.number) p.2 in let n : b.call.number ≡ q.0.call.number = ap (λ (z : Request). z.call.number) q.2 in omega (arith, r, m, n)

  new-ends : (e : End) → Contains w.ends e ⊎ Contains (map (ends_now w) d.ended) e → AnsweredBy (w.requests ++ new) w.history e.event e.length e.call e.answer
  new-ends e (inl h) = answered-more w.requests new w.history e.event e.length e.call e.answer (good.ends e h)
  new-ends e (inr h) = let x = mapped (ends_now w) d.ended e h in
      subst (λ (y : End). AnsweredBy (w.requests ++ new) w.history y.event y.length y.call y.answer) (sym x.2) (answered-more w.requests new w.history w.shown.number (length w.history) x.0.0 x.0.1 (ok.ended x.0 x.1))

  ends-by_now : (e : End) → Contains w.ends e ⊎ Contains (map (ends_now w) d.ended) e → e.event ≤ w.shown.number
  ends-by_now e (inl h) = good.ended_by_now e h
  ends-by_now e (inr h) = let x = mapped (ends_now w) d.ended e h in subst (λ (y : End). y.event ≤ w.shown.number) (sym x.2) (le_refl w.shown.number)

  pub noted : Extends (ledger_of w) (ledger_of (note me d w))
  noted = record { history = λ s client h. h; requests = λ r h. Contains-append_left w.requests new r h; ends = λ e h. Contains-append_left w.ends _ e h; calls = λ c h. h; moves = λ c h. h; now = le_refl w.shown.number }

  new-sources : (r : Request) → Contains w.requests r ⊎ Contains new r → IsSourced plan (ledger_of (note me d w)) r
  new-sources r (inl h) = source-on (ledger_of w) (ledger_of (note me d w)) noted plan r (good.sources r h)
  new-sources r (inr h) = let x = mapped (begins_now w) d.asked r h in subst (IsSourced plan (ledger_of (note me d w))) (sym x.2) (source-on (ledger_of w) (ledger_of (note me d w)) noted plan (begins_now w x.0) (ok.sources x.0 x.1))

  new-returns : (r : Returned) → Contains w.returns r ⊎ Contains (map (returns_now w me) d.returns) r → ToldBy (ledger_of (note me d w)) r.event r.client r.what
  new-returns r (inl h) = told-on (ledger_of w) (ledger_of (note me d w)) noted r.event r.client r.what (good.returns r h)
  new-returns r (inr h) = let x = mapped (returns_now w me) d.returns r h in subst (λ (y : Returned). ToldBy (ledger_of (note me d w)) y.event y.client y.what) (sym x.2) (ok.returns x.0 x.1)

  -- returns
  returned-more : (now : ℕ) (call : Invocation) (o : Op) → IsReturned w.returns now call o → IsReturned (w.returns ++ map (returns_now w me) d.returns) now call o
  returned-more now call o (inl h) = inl h
  returned-more now call o (inr h) = inr (h.0, Contains-append_left w.returns (map (returns_now w me) d.returns) h.0 h.1, h.2, h.3)

  returned-now : (x : Invocation × Answer) (o : Op) → (is_beat o ≡ true) ⊎ ((r : Return) × Contains d.returns r × (return_call me r ≡ x.0)) → IsReturned (w.returns ++ map (returns_now w me) d.returns) w.shown.number x.0 o
  returned-now x o (inl h) = inl h
  returned-now x o (inr h) = inr (returns_now w me h.0, Contains-append_right w.returns (map (returns_now w me) d.returns) (returns_now w me h.0) (map-in (returns_now w me) d.returns h.0 h.1), refl, h.2)

  -- no new request is of a call that was answered
  answered-before : (q : Request) (x : Asked) (now until : ℕ) (call : Invocation) (a : Answer) → AnsweredBy w.requests w.history now until call a → Contains d.asked x → q ≡ begins_now w x → q.call ≡ call → ⊥
  answered-before q x now until call a h there is same = apart h.entered.request x h.entered.begun there (h.entered.mine ∙ (sym same ∙ ap (λ (z : Request). z.call) is))

  all-returned : (q : Request) (e : End) → Contains w.requests q ⊎ Contains new q → Contains w.ends e ⊎ Contains (map (ends_now w) d.ended) e → q.call ≡ e.call → lets_go_on q.op e.answer ≡ false → IsReturned (w.returns ++ map (returns_now w me) d.returns) e.event e.call q.op
  all-returned q e (inl a) (inl b) same fin = returned-more e.event e.call q.op (good.all_returned q e a b same fin)
  all-returned q e (inl a) (inr b) same fin = let x = mapped (ends_now w) d.ended e b in
      subst (λ (y : End). IsReturned (w.returns ++ map (returns_now w me) d.returns) y.event y.call q.op) (sym x.2)
      (returned-now x.0 q.op (ok.all_returned x.0 q x.1 a (same ∙ ap (λ (y : End). y.call) x.2) (subst (λ (y : End). lets_go_on q.op y.answer ≡ false) x.2 fin)))
  all-returned q e (inr a) (inl b) same fin = let x = mapped (begins_now w) d.asked q a in absurd (answered-before q x.0 e.event e.length e.call e.answer (good.ends e b) x.1 x.2 same)
  all-returned q e (inr a) (inr b) same fin = let x = mapped (begins_now w) d.asked q a in let y = mapped (ends_now w) d.ended e b in
      absurd (answered-before q x.0 w.shown.number (length w.history) y.0.0 y.0.1 (ok.ended y.0 y.1) x.1 x.2 (same ∙ ap (λ (z : End). z.call) y.2))

  pub note-good : Good plan (note me d w)
  note-good = record {
    state = good.state;
    ordered = good.ordered;
    orderly = good.orderly;
    own = good.own;
    named = good.named;
    upto = good.upto;
    rounds = good.rounds;
    waiters = λ x h. let r = good.waiters x h in (r.0, entered-more w.requests new w.history w.shown.number x.call r.0 r.1, r.2);
    queue = λ a h. let g = good.queue a h in record { answered = answered-more w.requests new w.history w.shown.number (length w.history) a.0 a.1 g.answered; fits = g.fits };
    ends = λ e h. new-ends e (Contains-append_cases w.ends _ e h);
    ended_by_now = λ e h. ends-by_now e (Contains-append_cases w.ends _ e h);
    clients_are = λ r h. all-clients r (Contains-append_cases w.requests new r h);
    numbers = λ r h. all-numbers r (Contains-append_cases w.requests new r h);
    distinct = all-distinct;
    rising = all-rising;
    entered = λ place c h. let r = good.entered place c h in (r.0, Contains-append_left w.requests new r.0 r.1, r.2, r.3, r.4);
    sources = λ r h. new-sources r (Contains-append_cases w.requests new r h);
    returns = λ r h. new-returns r (Contains-append_cases w.returns _ r h);
    clients = at-client (λ y c. ClientOk plan (ledger_of (note me d w)) y c) ok.client (λ y e. client-on (ledger_of w) (ledger_of (note me d w)) noted plan y (client_at w y) (good.clients y));
    all_returned = λ q e a b. all-returned q e (Contains-append_cases w.requests new q a) (Contains-append_cases w.ends (map (ends_now w) d.ended) e b);
  }

  ready-asked : (a : Asked) → Contains d.asked a → IsReady (note me d w) a
  ready-asked a h = let l = ok.legal a h in record { request = begins_now w a; begun = Contains-append_right w.requests new (begins_now w a) (map-in (begins_now w) d.asked a h); mine = refl; op_is = refl; by_now = le_refl w.shown.number; no_longer = le_refl (length w.history); uses = l.0; reached = l.1 }

  pub does-good : Good plan (does me d w)
  does-good = commits-good plan d.asked (note me d w) note-good ready-asked

  -- an answer that waits stays one
  pub does-given : (x : Invocation × Answer) → Given w x.0 x.1 → Given (does me d w) x.0 x.1
  does-given x g = commits-given plan d.asked (note me d w) note-good ready-asked x (record { answered = answered-more w.requests new w.history w.shown.number (length w.history) x.0 x.1 g.answered; fits = g.fits })
