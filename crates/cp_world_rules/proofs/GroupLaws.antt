-- What an entry of a call does: who is answered, who waits, and what an answer to a preparing request tells.
use Rattle.std.proofs.Common.{◌≡◌, ℕ, ◌⊎◌, inl, inr, Bool, true, false, List, [], ◌∷◌, ◌++◌, map, Some, None, Option, refl, sym, subst, ap, ◌∙◌, length, le_refl}
use Rattle.std.specs.Prelude.{◌==◌, Contains, pos, unsigned_abs, nat_lt}
use Rattle.std.specs.declared.cmp.Ordering.TheVariants.{Less}
use Rattle.std.specs.Ordering.{nat_cmp}
use Rattle.std.specs.List.{filter, AllByRecursion}
use Rattle.std.specs.List.Sorted.{IsStrictlySortedBy}
use Rattle.std.specs.Map.{keys_of}
use Rattle.std.specs.BTreeMap.{is_at}
use Rattle.std.proofs.lemmas.Cmp.{nat_cmp_total}
use Rattle.std.proofs.lemmas.List.Elements.{All-contains, Contains-append_cases, Contains-push_cases}
use Rattle.cp_base.specs.declared.identifier.ClientId.{ClientId}
use Rattle.cp_base.specs.declared.identifier.GroupId.{GroupId}
use Rattle.cp_base.specs.declared.identifier.Invocation.{Invocation}
use Rattle.cp_base.proofs.Tests.{no_true}
use Rattle.cp_answers.specs.declared.answer.Answer.{Answer}
use Rattle.cp_answers.specs.declared.answer.Answer.TheVariants as answer
use Rattle.cp_ops.specs.declared.entry.Entry.TheVariants as entry
use Rattle.cp_op_values.specs.declared.kind.Kind.TheVariants as kind
use Rattle.cp_object_ops.specs.declared.latch_op.LatchOp.{LatchOp}
use Rattle.cp_object_ops.specs.declared.latch_op.LatchOp.TheVariants as latch
use Rattle.cp_ops.specs.declared.op.Op.{Op}
use Rattle.cp_ops.specs.declared.op.Op.TheVariants as op
use Rattle.cp_ops.specs.declared.session_op.SessionOp.{SessionOp}
use Rattle.cp_ops.specs.declared.session_op.SessionOp.TheVariants as session
use Rattle.cp_group_state.specs.declared.rows.MemoryRow.{MemoryRow}
use Rattle.cp_group_state.specs.declared.rows.SemaphoreRow.{SemaphoreRow}
use Rattle.cp_group_state.specs.declared.rows.SessionRow.{SessionRow}
use Rattle.cp_group_state.specs.declared.rows.Waiter.{Waiter}
use Rattle.cp_group_state.specs.Rows.{Object, find, put, has_room, most, object_cmp}
use Rattle.cp_group_state.specs.Waiters.{Ended, stands, first, same_client}
use Rattle.cp_group_state.specs.Sessions.{is_open_for, session_of}
use Rattle.cp_group_state.specs.Latches.{latch_at}
use Rattle.cp_group_state.specs.GroupState.{GroupState}
use Rattle.cp_group_state.specs.Changes.{Change, end_all, for_each, stay}
use Rattle.cp_group_state.specs.Serving.{serve, serve_from}
use Rattle.cp_group_state.specs.declared.outcome.Reply.{Reply}
use Rattle.cp_group_state.specs.declared.outcome.Reply.TheVariants.{Answered, Waits}
use Rattle.cp_group_state.specs.Outcomes.{Outcome}
use Rattle.cp_group_state.specs.Destroying.{is_gone}
use Rattle.cp_group_state.specs.SessionRules.{opened}
use Rattle.cp_group_state.specs.Protected.{session_in}
use Rattle.cp_group_state.specs.Apply.{Applied, apply, apply_call, by_memory, by_session, give_again, is_elsewhere, is_older, join, outcome, perform, remembered, settle, settle_answer, settle_wait, supersede, told}
use Rattle.cp_group_state.specs.History.{IsReached}
use Rattle.cp_group_state.specs.Invariants.{IsRising}
use Rattle.cp_group_state.proofs.Keyed.{client-itself, find-put_same, number_key}
use Rattle.cp_group_state.proofs.Walk.{cases, either}
use Rattle.cp_group_state.proofs.Grows.{is_of-same}
use Rattle.cp_group_state.proofs.Told.{IsOwnWait, own-outcome}
use Rattle.cp_group_causes.proofs.Lists.{at-head, at-tail, mapped, no-element, one-is, one-only}
use Rattle.cp_group_causes.proofs.Acts.{Acts, IsEndedBy, acts-outcome, acts-stays, acts-supersede}

-- the operations that only prepare a call
abbrev pub prepares_latch : LatchOp → Bool
prepares_latch latch.Round = true
prepares_latch l = false

abbrev pub prepares_session : SessionOp → Bool
prepares_session session.Open = true
prepares_session l = false

abbrev pub prepares : Op → Bool
prepares (op.Latch name l) = prepares_latch l
prepares (op.Session l) = prepares_session l
prepares o = false

-- what an answer to a preparing request tells of the state after it
abbrev pub Tells : GroupState → ClientId → Op → Answer → Type 0
Tells s client (op.Session session.Open) (answer.Session id) = is_open_for s.sessions id client ≡ true
Tells s client (op.Latch name latch.Round) (answer.Value r) = IsReached s (Some (name, unsigned_abs r))
Tells s client o a = Unit {0}

pub tells-plain : (s : GroupState) (client : ClientId) (o : Op) (a : Answer) → prepares o ≡ false → Tells s client o a
tells-plain s client (op.Session session.Open) a e = absurd (no_true e)
tells-plain s client (op.Session (session.Beat n)) a e = tt
tells-plain s client (op.Session (session.Close n)) a e = tt
tells-plain s client (op.Latch name latch.Count) a e = tt
tells-plain s client (op.Latch name latch.Round) a e = absurd (no_true e)
tells-plain s client (op.Latch name (latch.Set n)) a e = tt
tells-plain s client (op.Latch name (latch.Down round)) a e = tt
tells-plain s client (op.Latch name (latch.Await ms)) a e = tt
tells-plain s client (op.Long name l) a e = tt
tells-plain s client (op.Ref name l) a e = tt
tells-plain s client (op.Map name l) a e = tt
tells-plain s client (op.Lock name l) a e = tt
tells-plain s client (op.Sem name l) a e = tt
tells-plain s client (op.Jsem name l) a e = tt
tells-plain s client (op.Destroy which name) a e = tt
tells-plain s client (op.Group l) a e = tt
tells-plain s client (op.Member l) a e = tt
tells-plain s client (op.Change l) a e = tt

destroyed-tells : (s : GroupState) (client : ClientId) (o : Op) (g : GroupId) → Tells s client o (answer.GroupDestroyed g)
destroyed-tells s client (op.Session session.Open) g = tt
destroyed-tells s client (op.Session (session.Beat n)) g = tt
destroyed-tells s client (op.Session (session.Close n)) g = tt
destroyed-tells s client (op.Latch name latch.Count) g = tt
destroyed-tells s client (op.Latch name latch.Round) g = tt
destroyed-tells s client (op.Latch name (latch.Set n)) g = tt
destroyed-tells s client (op.Latch name (latch.Down round)) g = tt
destroyed-tells s client (op.Latch name (latch.Await ms)) g = tt
destroyed-tells s client (op.Long name l) g = tt
destroyed-tells s client (op.Ref name l) g = tt
destroyed-tells s client (op.Map name l) g = tt
destroyed-tells s client (op.Lock name l) g = tt
destroyed-tells s client (op.Sem name l) g = tt
destroyed-tells s client (op.Jsem name l) g = tt
destroyed-tells s client (op.Destroy which name) g = tt
destroyed-tells s client (op.Group l) g = tt
destroyed-tells s client (op.Member l) g = tt
destroyed-tells s client (op.Change l) g = tt

-- a call with a session doesn't prepare
session-plain : (o : Op) (x : ℕ) → session_in o ≡ Some x → prepares o ≡ false
session-plain (op.Session l) x e = absurd (no e) where
  no : None ≡ Some x → ⊥
  no k = cc
session-plain (op.Latch name l) x e = absurd (no e) where
  no : None ≡ Some x → ⊥
  no k = cc
session-plain (op.Long name l) x e = refl
session-plain (op.Ref name l) x e = refl
session-plain (op.Map name l) x e = refl
session-plain (op.Lock name l) x e = refl
session-plain (op.Sem name l) x e = refl
session-plain (op.Jsem name l) x e = refl
session-plain (op.Destroy which name) x e = refl
session-plain (op.Group l) x e = refl
session-plain (op.Member l) x e = refl
session-plain (op.Change l) x e = refl

key-in : (es : List (ℕ × SessionRow)) (e : ℕ × SessionRow) → Contains es e → Contains (keys_of es) e.0
key-in [] e there = absurd (no-element e there)
key-in (z ∷ es) e there = by (one-only z e es there) (key-in es e) where
  by : (e ≡ z) ⊎ Contains es e → (Contains es e → Contains (keys_of es) e.0) → Contains (keys_of (z ∷ es)) e.0
  by (inl same) rest = subst (λ (y : ℕ × SessionRow). Contains (keys_of (z ∷ es)) y.0) (sym same) (at-head z.0 (keys_of es))
  by (inr later) rest = at-tail z.0 e.0 (keys_of es) (rest later)

all-below : (b : ℕ) (ks : List ℕ) (k : ℕ) → AllByRecursion (λ y. nat_cmp b y ≡ Less) ks → Contains ks k → nat_cmp b k ≡ Less
all-below b [] k all there = absurd (no-element k there)
all-below b (z ∷ ks) k all there = by (one-only z k ks there) (all-below b ks k all.1) where
  by : (k ≡ z) ⊎ Contains ks k → (Contains ks k → nat_cmp b k ≡ Less) → nat_cmp b k ≡ Less
  by (inl same) rest = subst (λ y. nat_cmp b y ≡ Less) (sym same) all.0
  by (inr later) rest = rest later

-- of rows in order, each is found under its key
member-find : (rows : List (ℕ × SessionRow)) (e : ℕ × SessionRow) → IsRising nat_cmp rows → Contains rows e → find nat_cmp rows e.0 ≡ Some e.1
unfolding IsStrictlySortedBy
member-find [] e h k = absurd (no-element e k)
member-find (x ∷ rows) e h k = at (one-only x e rows k) (member-find rows e h.1) where
  apart : nat_cmp x.0 e.0 ≡ Less → is_at (nat_cmp e.0) x.0 ≡ false
  apart l = rw (nat_cmp_total.antisymm e.0 x.0) (rw l refl)

  at : (e ≡ x) ⊎ Contains rows e → (Contains rows e → find nat_cmp rows e.0 ≡ Some e.1) → find nat_cmp (x ∷ rows) e.0 ≡ Some e.1
  at (inl same) rest = subst (λ (y : ℕ × SessionRow). find nat_cmp (x ∷ rows) y.0 ≡ Some y.1) (sym same) (rw (number_key.here x.0) refl)
  at (inr there) rest = rw (apart (all-below x.0 (keys_of rows) e.0 h.0 (key-in rows e there))) (rest there)

filter-member : (client : ClientId) (rows : List (ℕ × SessionRow)) (e : ℕ × SessionRow) → Contains (filter (λ r. same_client r.1.client client) rows) e → Contains rows e × (same_client e.1.client client ≡ true)
filter-member client [] e h = absurd (no-element e h)
filter-member client (x ∷ rows) e h = let rest = filter-member client rows e in
    cases (λ (rs : List (ℕ × SessionRow)). Contains rs e → Contains (x ∷ rows) e × (same_client e.1.client client ≡ true)) (same_client x.1.client client) _ _
    (λ same k. at same (one-only x e (filter (λ r. same_client r.1.client client) rows) k) rest) (λ apart k. let r = rest k in (at-tail x e rows r.0, r.1)) h
  where
    at : same_client x.1.client client ≡ true → (e ≡ x) ⊎ Contains (filter (λ r. same_client r.1.client client) rows) e → (Contains (filter (λ r. same_client r.1.client client) rows) e → Contains rows e × (same_client e.1.client client ≡ true)) → Contains (x ∷ rows) e × (same_client e.1.client client ≡ true)
    at same (inl k) rest = subst (λ (y : ℕ × SessionRow). Contains (x ∷ rows) y × (same_client y.1.client client ≡ true)) (sym k) (at-head x rows, same)
    at same (inr k) rest = let r = rest k in (at-tail x e rows r.0, r.1)

first-member : {X : Type 0} (xs : List X) (x : X) → first xs ≡ Some x → Contains xs x
first-member [] x h = absurd (no h) where
  no : None ≡ Some x → ⊥
  no k = cc
first-member (y ∷ xs) x h = subst (Contains (y ∷ xs)) (same h) (at-head y xs) where
  same : Some y ≡ Some x → y ≡ x
  same k = cc

-- the client's session is open for it
own-open : (rows : List (ℕ × SessionRow)) (client : ClientId) (e : ℕ × SessionRow) → IsRising nat_cmp rows → session_of rows client ≡ Some e → is_open_for rows e.0 client ≡ true
own-open rows client e rising is = let m = filter-member client rows e (first-member (filter (λ r. same_client r.1.client client) rows) e is) in
    is_of-same client (Some e.1) (find nat_cmp rows e.0) (sym (member-find rows e rising m.0)) m.1

new-open : (rows : List (ℕ × SessionRow)) (i : ℕ) (client : ClientId) → is_open_for (put nat_cmp rows i (record { client = client; version = 0 })) i client ≡ true
new-open rows i client = is_of-same client (Some (record { client = client; version = 0 })) _ (sym (find-put_same nat_cmp number_key rows i (record { client = client; version = 0 }))) (client-itself client)

-- What an entry of a call does to those who wait, and whom it answers.
abbrev pub WaitsSo : Invocation → Op → GroupState → GroupState → Type 0
WaitsSo call o s t = (w : Waiter) → Contains t.waiters w → Contains s.waiters w ⊎ ((w.call ≡ call) × (prepares o ≡ false))

abbrev pub AnswersSo : Invocation → Op → GroupState → Applied → Type 0
AnswersSo call o s r = (a : Invocation × Answer) → Contains r.answers a → ((w : Waiter) × Contains s.waiters w × (w.call ≡ a.0)) ⊎ ((a.0 ≡ call) × Tells r.state call.client o a.1)

abbrev pub StepSound : Invocation → Op → GroupState → Applied → Type 0
StepSound call o s r = WaitsSo call o s r.state × AnswersSo call o s r

told-some : (es : List Ended) (a : Invocation × Answer) → Contains (told es) a → (e : Ended) × Contains es e × (e.waiter.call ≡ a.0)
told-some es a h = let r = mapped (λ (e : Ended). (e.waiter.call, e.answer)) es a h in (r.0, r.1, ap (λ (x : Invocation × Answer). x.0) (sym r.2))

module _ (i : ℕ) (call : Invocation) (o : Op) where
  of-told : (s : GroupState) (c : Change) (t : GroupState) → Acts i (entry.Call call o) s c → (a : Invocation × Answer) → Contains (told c.ended) a → ((w : Waiter) × Contains s.waiters w × (w.call ≡ a.0)) ⊎ ((a.0 ≡ call) × Tells t call.client o a.1)
  of-told s c t f a h = let r = told-some c.ended a h in inl (r.0.waiter, (All-contains (IsEndedBy (entry.Call call o) s) c.ended r.0 f.1 r.1).0, r.2)

  waits-remembered : (so : Option ℕ) (a : Option Answer) (s t : GroupState) → WaitsSo call o s t → WaitsSo call o s (remembered so call a t)
  waits-remembered None a s t h = h
  waits-remembered (Some x) a s t h = h

  -- an own answer, then those of others
  own-sound : (so : Option ℕ) (s : GroupState) (x : Answer) (c : Change) → Acts i (entry.Call call o) s c → Tells (remembered so call (Some x) c.state) call.client o x → StepSound call o s (settle_answer so call x c)
  own-sound so s x c f tells = (waits-remembered so (Some x) s c.state (λ w h. inl (f.0 w h)), λ a h. at a (one-only (call, x) a (told c.ended) h)) where
    at : (a : Invocation × Answer) → (a ≡ (call, x)) ⊎ Contains (told c.ended) a → ((w : Waiter) × Contains s.waiters w × (w.call ≡ a.0)) ⊎ ((a.0 ≡ call) × Tells (remembered so call (Some x) c.state) call.client o a.1)
    at a (inl k) = inr (ap (λ (y : Invocation × Answer). y.0) k, subst (λ (y : Invocation × Answer). Tells (remembered so call (Some x) c.state) call.client o y.1) (sym k) tells)
    at a (inr k) = of-told s c (remembered so call (Some x) c.state) f a k

  -- an answer without a change
  only-sound : (s : GroupState) (x : Answer) → Tells s call.client o x → StepSound call o s (record { state = s; answers = (call, x) ∷ [] })
  only-sound s x tells = (λ w h. inl h, λ a h. let k : a ≡ (call, x) = one-is (call, x) a h in inr (ap (λ (y : Invocation × Answer). y.0) k, subst (λ (y : Invocation × Answer). Tells s call.client o y.1) (sym k) tells))

  silent-sound : (s : GroupState) → StepSound call o s (record { state = s; answers = [] })
  silent-sound s = (λ w h. inl h, λ a h. absurd (no-element a h))

  again-sound : (s : GroupState) (x : Option Answer) → prepares o ≡ false → StepSound call o s (record { state = s; answers = give_again call x })
  again-sound s None p = silent-sound s
  again-sound s (Some x) p = only-sound s x (tells-plain s call.client o x p)

  stays : (s : GroupState) → Acts i (entry.Call call o) s (stay s)
  stays s = acts-stays i (entry.Call call o) s

  wait-sound : (so : Option ℕ) (v : Waiter) (s : GroupState) → prepares o ≡ false → v.call ≡ call → StepSound call o s (settle_wait so call v s)
  wait-sound so v s p own = either (StepSound call o s) (stands call s.waiters) _ _ (silent-sound s)
      (either (StepSound call o s) (nat_lt (length s.waiters) most) _ _
      (waits-remembered so None s (join v s) (λ w h. at w (Contains-push_cases s.waiters v w h)), λ a h. absurd (no-element a h))
      (own-sound so s (answer.TableFull most) (stay s) (stays s) (tells-plain (remembered so call (Some (answer.TableFull most)) s) call.client o (answer.TableFull most) p)))
    where
      at : (w : Waiter) → Contains s.waiters w ⊎ (v ≡ w) → Contains s.waiters w ⊎ ((w.call ≡ call) × (prepares o ≡ false))
      at w (inl h) = inl h
      at w (inr k) = inr (subst (λ (y : Waiter). y.call ≡ call) k own, p)

  -- a step from the state after a change
  after-sound : (s : GroupState) (c : Change) (r : Applied) → Acts i (entry.Call call o) s c → StepSound call o c.state r → StepSound call o s (record { state = r.state; answers = told c.ended ++ r.answers })
  after-sound s c r f g = (λ w h. at w (g.0 w h), λ a h. told-or a (Contains-append_cases (told c.ended) r.answers a h)) where
    at : (w : Waiter) → Contains c.state.waiters w ⊎ ((w.call ≡ call) × (prepares o ≡ false)) → Contains s.waiters w ⊎ ((w.call ≡ call) × (prepares o ≡ false))
    at w (inl h) = inl (f.0 w h)
    at w (inr h) = inr h

    back : (a : Invocation × Answer) → ((w : Waiter) × Contains c.state.waiters w × (w.call ≡ a.0)) ⊎ ((a.0 ≡ call) × Tells r.state call.client o a.1) → ((w : Waiter) × Contains s.waiters w × (w.call ≡ a.0)) ⊎ ((a.0 ≡ call) × Tells r.state call.client o a.1)
    back a (inl h) = inl (h.0, f.0 h.0 h.1, h.2)
    back a (inr h) = inr h

    told-or : (a : Invocation × Answer) → Contains (told c.ended) a ⊎ Contains r.answers a → ((w : Waiter) × Contains s.waiters w × (w.call ≡ a.0)) ⊎ ((a.0 ≡ call) × Tells r.state call.client o a.1)
    told-or a (inl h) = of-told s c r.state f a h
    told-or a (inr h) = back a (g.1 a h)

  settle-sound : (so : Option ℕ) (s : GroupState) (r : Reply) (c : Change) → prepares o ≡ false → Acts i (entry.Call call o) s c → IsOwnWait call so r → StepSound call o s (settle so call r c)
  settle-sound so s (Answered x) c p f own = own-sound so s x c f (tells-plain (remembered so call (Some x) c.state) call.client o x p)
  settle-sound so s (Waits v) c p f own = after-sound s c (settle_wait so call v c.state) f (wait-sound so v c.state p own.0)

  perform-plain : (s : GroupState) → prepares o ≡ false → StepSound call o s (perform i call o s)
  perform-plain s p = settle-sound (session_in o) s (outcome i call o s).reply (outcome i call o s).change p (acts-outcome i call o s) (own-outcome i call o s)

open-sound : (i : ℕ) (call : Invocation) (s : GroupState) (e : Option (ℕ × SessionRow)) → IsRising nat_cmp s.sessions → session_of s.sessions call.client ≡ e → Acts i (entry.Call call (op.Session session.Open)) s (opened i call e s).change
    → StepSound call (op.Session session.Open) s (settle None call (opened i call e s).reply (opened i call e s).change)
open-sound i call s None rising is f = cases (λ (r : Outcome). Acts i (entry.Call call (op.Session session.Open)) s r.change → StepSound call (op.Session session.Open) s (settle None call r.reply r.change)) (has_room nat_cmp most s.sessions i) _ _
    (λ e f. own-sound i call (op.Session session.Open) None s (answer.Session i) (stay (record s { sessions = put nat_cmp s.sessions i (record { client = call.client; version = 0 }) })) f (new-open s.sessions i call.client)) (λ e f. own-sound i call (op.Session session.Open) None s (answer.TableFull most) (stay s) f tt) f
open-sound i call s (Some e) rising is f = own-sound i call (op.Session session.Open) None s (answer.Session e.0) (stay s) f (own-open s.sessions call.client e rising is)

round-sound : (i : ℕ) (call : Invocation) (name : List ℕ) (s : GroupState) → StepSound call (op.Latch name latch.Round) s (perform i call (op.Latch name latch.Round) s)
round-sound i call name s = either (λ (r : Outcome). StepSound call (op.Latch name latch.Round) s (settle None call r.reply r.change)) (is_gone s (name, kind.Latch)) _ _
    (own-sound i call (op.Latch name latch.Round) None s answer.ObjectDestroyed (stay s) (stays i call (op.Latch name latch.Round) s) tt)
    (own-sound i call (op.Latch name latch.Round) None s (answer.Value (pos (latch_at s.latches name).round)) (stay s) (stays i call (op.Latch name latch.Round) s) (inr (le_refl (latch_at s.latches name).round)))

perform-sound : (i : ℕ) (call : Invocation) (o : Op) (s : GroupState) → IsRising nat_cmp s.sessions → StepSound call o s (perform i call o s)
perform-sound i call (op.Session session.Open) s rising = open-sound i call s (session_of s.sessions call.client) rising refl (acts-outcome i call (op.Session session.Open) s)
perform-sound i call (op.Latch name latch.Round) s rising = round-sound i call name s
perform-sound i call (op.Session (session.Beat n)) s rising = perform-plain i call (op.Session (session.Beat n)) s refl
perform-sound i call (op.Session (session.Close n)) s rising = perform-plain i call (op.Session (session.Close n)) s refl
perform-sound i call (op.Latch name latch.Count) s rising = perform-plain i call (op.Latch name latch.Count) s refl
perform-sound i call (op.Latch name (latch.Set n)) s rising = perform-plain i call (op.Latch name (latch.Set n)) s refl
perform-sound i call (op.Latch name (latch.Down round)) s rising = perform-plain i call (op.Latch name (latch.Down round)) s refl
perform-sound i call (op.Latch name (latch.Await ms)) s rising = perform-plain i call (op.Latch name (latch.Await ms)) s refl
perform-sound i call (op.Long name l) s rising = perform-plain i call (op.Long name l) s refl
perform-sound i call (op.Ref name l) s rising = perform-plain i call (op.Ref name l) s refl
perform-sound i call (op.Map name l) s rising = perform-plain i call (op.Map name l) s refl
perform-sound i call (op.Lock name l) s rising = perform-plain i call (op.Lock name l) s refl
perform-sound i call (op.Sem name l) s rising = perform-plain i call (op.Sem name l) s refl
perform-sound i call (op.Jsem name l) s rising = perform-plain i call (op.Jsem name l) s refl
perform-sound i call (op.Destroy which name) s rising = perform-plain i call (op.Destroy which name) s refl
perform-sound i call (op.Group l) s rising = perform-plain i call (op.Group l) s refl
perform-sound i call (op.Member l) s rising = perform-plain i call (op.Member l) s refl
perform-sound i call (op.Change l) s rising = perform-plain i call (op.Change l) s refl

memory-sound : (i : ℕ) (call : Invocation) (o : Op) (row : Option MemoryRow) (s : GroupState) → IsRising nat_cmp s.sessions → prepares o ≡ false → StepSound call o s (by_memory i call o row s)
memory-sound i call o None s rising p = perform-sound i call o s rising
memory-sound i call o (Some row) s rising p = either (StepSound call o s) (row.number == call.number) _ _ (again-sound i call o s row.answer p)
    (either (StepSound call o s) (nat_lt call.number row.number) _ _ (only-sound i call o s (answer.Stale row.number) (tells-plain s call.client o (answer.Stale row.number) p)) (perform-sound i call o s rising))

session-sound : (i : ℕ) (call : Invocation) (o : Op) (so : Option ℕ) (s : GroupState) → session_in o ≡ so → IsRising nat_cmp s.sessions → StepSound call o s (by_session i call o so s)
session-sound i call o None s is rising = perform-sound i call o s rising
session-sound i call o (Some x) s is rising = let p = session-plain o x is in either (StepSound call o s) (is_open_for s.sessions x call.client) _ _
    (memory-sound i call o _ s rising p) (only-sound i call o s (answer.SessionExpired x) (tells-plain s call.client o (answer.SessionExpired x) p))

-- the order of the sessions after older waits ended
serve-sessions : (key : Object) (row : Option SemaphoreRow) (s : GroupState) → (serve_from key row s).state.sessions ≡ s.sessions
serve-sessions key None s = refl
serve-sessions key (Some row) s = refl

each-sessions : (keys : List Object) (s : GroupState) → (for_each serve keys s).state.sessions ≡ s.sessions
each-sessions [] s = refl
each-sessions (key ∷ keys) s = each-sessions keys (serve key s).state ∙ serve-sessions key (find object_cmp s.semaphores.rows key) s

pub supersede-sessions : (call : Invocation) (s : GroupState) → (supersede call s).state.sessions ≡ s.sessions
supersede-sessions call s = let c = end_all (is_older call) (λ w. answer.WaitCancelled call.number) s in each-sessions (map (λ e. (e.waiter.name, e.waiter.kind)) c.ended) c.state

call-sound : (i : ℕ) (call : Invocation) (o : Op) (s : GroupState) → IsRising nat_cmp s.sessions → StepSound call o s (apply_call i call o s)
call-sound i call o s rising = either (StepSound call o s) (s.destroyed_group.0 == 0) _ _
    (after-sound i call o s (supersede call s) (by_session i call o (session_in o) (supersede call s).state) (acts-supersede i call o s) (session-sound i call o (session_in o) (supersede call s).state refl (subst (IsRising nat_cmp) (sym (supersede-sessions call s)) rising)))
    (only-sound i call o s (answer.GroupDestroyed s.destroyed_group) (destroyed-tells s call.client o s.destroyed_group))

pub call-applied : (i : ℕ) (call : Invocation) (o : Op) (s : GroupState) → IsRising nat_cmp s.sessions → StepSound call o s (apply i (entry.Call call o) s)
call-applied i call o s rising = either (StepSound call o s) (is_elsewhere o) _ _ (silent-sound i call o s) (call-sound i call o s rising)
