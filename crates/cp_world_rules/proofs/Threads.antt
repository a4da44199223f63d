-- A client's step, thread by thread: what its threads work on stays in order.
use Rattle.std.proofs.Common.{◌≡◌, ℕ, ◌+◌, ◌<◌, ◌≤◌, ◌⊎◌, inl, inr, Bool, true, false, List, [], ◌∷◌, ◌++◌, Some, None, refl, sym, subst, ap, ◌∙◌, arith, map, le_trans, append_assoc}
use Rattle.std.specs.Prelude.{Contains, nat_lt}
use Rattle.std.specs.Ordering.{is_eq, nat_cmp}
use Rattle.std.specs.BTreeMap.{is_at}
use Rattle.std.proofs.lemmas.Bool.Decides.{nat_tests}
use Rattle.std.proofs.lemmas.List.{map-append}
use Rattle.std.proofs.lemmas.List.Elements.{Contains-push, Contains-push_cases}
use Rattle.cp_base.specs.Identifiers.{replay_id}
use Rattle.cp_base.specs.declared.identifier.ClientNo.{ClientNo}
use Rattle.cp_base.specs.declared.identifier.Invocation.{Invocation}
use Rattle.cp_base.specs.declared.identifier.ThreadNo.{ThreadNo}
use Rattle.cp_base.proofs.Tests.{no_false, none_some, same_some}
use Rattle.cp_answers.specs.declared.answer.Answer.{Answer}
use Rattle.cp_events.specs.declared.effects.Return.{Return}
use Rattle.cp_events.specs.declared.plan.Plan.{Plan}
use Rattle.cp_events.specs.declared.user_op.UserOp.{UserOp}
use Rattle.cp_group_state.proofs.Keyed.{equal_is, find-put_same, find-put_other, number_key}
use Rattle.cp_client_rules.specs.declared.rows.Pending.{Pending}
use Rattle.cp_client_rules.specs.declared.rows.Task.TheVariants as task
use Rattle.cp_client_rules.specs.declared.rows.Thread.{Thread}
use Rattle.cp_client_rules.specs.Asking.{wish_of}
use Rattle.cp_client_rules.specs.Calls.{deadline_of}
use Rattle.cp_client_rules.specs.Ticks.{own_thread}
use Rattle.cp_client_rules.specs.Clients.{Asked, Client, or_new, thread_at, with_thread}
use Rattle.cp_world_rules.specs.Rows.{Called, End, Request, Returned}
use Rattle.cp_world_rules.specs.World.{World, begins_now, client_at, ends_now, returns_now}
use Rattle.cp_world_rules.specs.Requests.{MayAsk}
use Rattle.cp_world_rules.specs.Laws.{is_for_itself}
use Rattle.cp_world_rules.proofs.Lists.{push-none}
use Rattle.cp_world_rules.proofs.GroupLaws.{prepares}
use Rattle.cp_world_rules.proofs.Desks.{Apart, AsksNone, Between, Book, BookOk, IsAsked, IsLast, IsNow, IsNumbered, IsOpen, IsOther, IsSourcedBy, OverIn, Owns, TaskWorks, Tells, ThreadOk, Works, book-end, book-request, book-return, first_prepares, has_gone_on, is_beat, of_thread, other_call, over-end, over-request, over-return, replay-same, second_beats, thread-end, thread-request, thread-return, was_ended, was_returned, with_end, with_request, with_return, works-request}

at-self : (n : ℕ) → is_at (nat_cmp n) n ≡ false → ⊥
at-self n h = no (sym (ap is_eq (number_key.here n)) ∙ h) where
  no : true ≡ false → ⊥
  no e = cc

-- a thread's row, and those of others
pub thread-put : (P : ThreadNo → Thread → Type 0) (c : Client) (t : ThreadNo) (row : Thread) → P t row → ((x : ThreadNo) → (x ≡ t → ⊥) → P x (thread_at c x)) → (x : ThreadNo) → P x (thread_at (with_thread c t row) x)
thread-put P c t row mine others x = by (is_at (nat_cmp x.0) t.0) refl where
  by : (b : Bool) → is_at (nat_cmp x.0) t.0 ≡ b → P x (thread_at (with_thread c t row) x)
  by true e = let same : x ≡ t = ap (λ n. record { 0 = n }) (number_key.same x.0 t.0 (equal_is _ e)) in
      subst (λ y. P y (thread_at (with_thread c t row) y)) (sym same) (subst (λ o. P t (or_new o)) (sym (find-put_same nat_cmp number_key c.threads t.0 row)) mine)
  by false e = subst (λ o. P x (or_new o)) (sym (find-put_other nat_cmp number_key c.threads t.0 x.0 row e)) (others x (λ same. at-self t.0 (subst (λ (y : ThreadNo). is_at (nat_cmp y.0) t.0 ≡ false) same e)))

-- the rows so far, and those that a step adds
abbrev pub book_of : World → Book
book_of w = record { calls = w.calls; requests = w.requests; ends = w.ends; returned = w.returns; moves = w.moves }

abbrev pub adds : World → ClientNo → Book → List Asked → List (Invocation × Answer) → List Return → Book
adds w me b asked ended returns = record { calls = b.calls; requests = b.requests ++ map (begins_now w) asked; ends = b.ends ++ map (ends_now w) ended; returned = b.returned ++ map (returns_now w me) returns; moves = b.moves }

module _ (w : World) (me : ClientNo) (b : Book) where
  pub adds-none : adds w me b [] [] [] ≡ b
  adds-none = λ j. record { calls = b.calls; requests = push-none b.requests [] refl j; ends = push-none b.ends [] refl j; returned = push-none b.returned [] refl j; moves = b.moves }

  pub adds-request : (a : Asked) → adds w me b (a ∷ []) [] [] ≡ with_request b (begins_now w a)
  adds-request a = λ j. record { calls = b.calls; requests = b.requests ++ begins_now w a ∷ []; ends = push-none b.ends [] refl j; returned = push-none b.returned [] refl j; moves = b.moves }

  pub adds-end : (e : Invocation × Answer) → adds w me b [] (e ∷ []) [] ≡ with_end b (ends_now w e)
  adds-end e = λ j. record { calls = b.calls; requests = push-none b.requests [] refl j; ends = b.ends ++ ends_now w e ∷ []; returned = push-none b.returned [] refl j; moves = b.moves }

  pub adds-return : (r : Return) → adds w me b [] [] (r ∷ []) ≡ with_return b (returns_now w me r)
  adds-return r = λ j. record { calls = b.calls; requests = push-none b.requests [] refl j; ends = push-none b.ends [] refl j; returned = b.returned ++ returns_now w me r ∷ []; moves = b.moves }

  more : {X Y : Type 0} (f : X → Y) (rows : List Y) (xs ys : List X) → (rows ++ map f xs) ++ map f ys ≡ rows ++ map f (xs ++ ys)
  more f rows xs ys = append_assoc rows (map f xs) (map f ys) ∙ ap (λ zs. rows ++ zs) (sym (map-append f xs ys))

  pub adds-then : (a1 a2 : List Asked) (e1 e2 : List (Invocation × Answer)) (r1 r2 : List Return) → adds w me (adds w me b a1 e1 r1) a2 e2 r2 ≡ adds w me b (a1 ++ a2) (e1 ++ e2) (r1 ++ r2)
  adds-then a1 a2 e1 e2 r1 r2 = λ j. record { calls = b.calls; requests = more (begins_now w) b.requests a1 a2 j; ends = more (ends_now w) b.ends e1 e2 j; returned = more (returns_now w me) b.returned r1 r2 j; moves = b.moves }

less-than : (a b : ℕ) → nat_lt a b ≡ true → a < b
less-than a b h = grind (arith, nat_tests)

not-less : (a b : ℕ) → nat_lt a b ≡ false → b ≤ a
not-less a b h = grind (arith, nat_tests)

pub le-cases : (a b : ℕ) → (a ≤ b) ⊎ (b < a)
le-cases a b = by (nat_lt b a) refl where
  by : (t : Bool) → nat_lt b a ≡ t → (a ≤ b) ⊎ (b < a)
  by true e = inr (less-than b a e)
  by false e = inl (not-less b a e)

module _ (plan : Plan) (w : World) (me : ClientNo) where
  -- a client in the midst of a step
  pub record Mid (b : Book) (c : Client) : Type 0 where
    pub book : BookOk plan b w.shown.number
    pub mine : (t : ThreadNo) → ThreadOk plan b me t (thread_at c t)
    pub others : (x : ClientNo) (t : ThreadNo) → (x ≡ me → ⊥) → ThreadOk plan b x t (thread_at (client_at w x) t)

  -- The same, but for one thread: its last request may still be open, or is over.
  pub record But (b : Book) (c : Client) (t : ThreadNo) (opened : Bool) : Type 0 where
    pub book : BookOk plan b w.shown.number
    pub mine : (y : ThreadNo) → (y ≡ t → ⊥) → ThreadOk plan b me y (thread_at c y)
    pub others : (x : ClientNo) (y : ThreadNo) → (x ≡ me → ⊥) → ThreadOk plan b x y (thread_at (client_at w x) y)
    pub numbers : (q : Request) → Contains b.requests q → Owns me t q.call → q.call.number ≤ (thread_at c t).number
    pub ended : (e : End) → Contains b.ends e → Owns me t e.call → e.call.number ≤ (thread_at c t).number
    pub told : (r : Returned) → Contains b.returned r → r.client ≡ me → r.what.thread ≡ t → r.what.number ≤ (thread_at c t).number
    pub overs : (q : Request) → Contains b.requests q → Owns me t q.call → ((opened ≡ true) × (q.call.number ≡ (thread_at c t).number)) ⊎ OverIn b.requests b.ends b.returned q.call

  pub take-up : (b : Book) (c : Client) (t : ThreadNo) → Mid b c → But b c t true
  take-up b c t m = record { book = m.book; mine = λ y off. m.mine y; others = m.others; numbers = (m.mine t).numbers; ended = (m.mine t).ended; told = (m.mine t).told; overs = λ q there mine. at q ((m.mine t).overs q there mine) } where
    at : (q : Request) → IsNow plan (thread_at c t) q ⊎ OverIn b.requests b.ends b.returned q.call → ((true ≡ true) × (q.call.number ≡ (thread_at c t).number)) ⊎ OverIn b.requests b.ends b.returned q.call
    at q (inl n) = inl (refl, n.2)
    at q (inr o) = inr o

  no-open : {A B : Type 0} → ((false ≡ true) × A) ⊎ B → B
  no-open (inl h) = absurd (no_false h.0)
  no-open (inr h) = h

  -- the thread is idle
  pub lay-down : (b : Book) (c : Client) (t : ThreadNo) (n : ℕ) → (thread_at c t).number ≤ n → But b c t false → Mid b (with_thread c t (record { number = n; pending = None }))
  lay-down b c t n l m = record {
    book = m.book;
    mine = thread-put (λ y row. ThreadOk plan b me y row) c t (record { number = n; pending = None }) (record { open_ok = λ p is. absurd (none_some is); numbers = λ q there mine. le_trans (m.numbers q there mine) l; ended = λ e there mine. le_trans (m.ended e there mine) l; told = λ r there mine of_thread_is. le_trans (m.told r there mine of_thread_is) l; overs = λ q there mine. inr (no-open (m.overs q there mine)) }) m.mine;
    others = m.others;
  }

  module _ (b : Book) (c : Client) (t : ThreadNo) (opened : Bool) (m : But b c t opened) where
    -- an invocation of this thread
    own-call : (q : Request) → Owns me t q.call → q.call.number ≡ (thread_at c t).number → q.call ≡ of_thread plan me t (thread_at c t).number
    own-call q mine same = λ j. record { client = mine.0 j; thread = mine.1 j; number = same j }

    -- who owns a row of this thread
    not-mine : (call : Invocation) (y : ThreadNo) → call.thread ≡ t → (y ≡ t → ⊥) → Owns me y call → ⊥
    not-mine call y is off mine = off (sym mine.1 ∙ is)

    not-other : (call : Invocation) (x : ClientNo) (y : ThreadNo) → call.client ≡ replay_id me → (x ≡ me → ⊥) → Owns x y call → ⊥
    not-other call x y is off mine = off (replay-same x me (sym mine.0 ∙ is))

    -- an answer ends the request of the thread
    pub ends-here : (e0 : End) → e0.call ≡ of_thread plan me t (thread_at c t).number → ((e : End) → Contains b.ends e → e.call ≡ of_thread plan me t (thread_at c t).number → ⊥) → But (with_end b e0) c t false
    ends-here e0 is new = record {
      book = book-end plan b w.shown.number e0 m.book (λ e there same. new e there (same ∙ is));
      mine = λ y off. thread-end plan b me y e0 (thread_at c y) (not-mine e0.call y (ap (λ (z : Invocation). z.thread) is) off) (m.mine y off);
      others = λ x y off. thread-end plan b x y e0 (thread_at (client_at w x) y) (not-other e0.call x y (ap (λ (z : Invocation). z.client) is) off) (m.others x y off);
      numbers = m.numbers;
      ended = λ e there mine. at e (Contains-push_cases b.ends e0 e there) mine;
      told = m.told;
      overs = λ q there mine. inr (over q mine (m.overs q there mine));
    }
      where
        over : (q : Request) → Owns me t q.call → ((opened ≡ true) × (q.call.number ≡ (thread_at c t).number)) ⊎ OverIn b.requests b.ends b.returned q.call → OverIn b.requests (b.ends ++ e0 ∷ []) b.returned q.call
        over q mine (inl h) = was_ended e0 (Contains-push b.ends e0) (is ∙ sym (own-call q mine h.1))
        over q mine (inr o) = over-end b.requests b.ends e0 b.returned q.call o

        at : (e : End) → Contains b.ends e ⊎ (e0 ≡ e) → Owns me t e.call → e.call.number ≤ (thread_at c t).number
        at e (inl there) mine = m.ended e there mine
        at e (inr same) mine = let n = ap (λ (z : End). z.call.number) (sym same) ∙ ap (λ (z : Invocation). z.number) is in omega (arith, n)

    -- a request begins
    abbrev pub row_asking : Pending → Thread
    row_asking p = record { number = (thread_at c t).number + 1; pending = Some p }

    pub asks-here : (q0 : Request) (p : Pending) → q0.call ≡ of_thread plan me t ((thread_at c t).number + 1)
        → ((q : Request) → Contains b.requests q → Owns me t q.call → OverIn (b.requests ++ q0 ∷ []) b.ends b.returned q.call) → BookOk plan (with_request b q0) w.shown.number → TaskWorks plan (with_request b q0) me t q0 (is_for_itself p.purpose) p.deadline p.task
        → Mid (with_request b q0) (with_thread c t (row_asking p))
    asks-here q0 p is over ok works = record {
      book = ok;
      mine = thread-put (λ y row. ThreadOk plan (with_request b q0) me y row) c t (row_asking p) (record {
        open_ok = now_open;
        numbers = λ q there mine. number q (Contains-push_cases b.requests q0 q there) mine;
        ended = λ e there mine. let l = m.ended e there mine in omega (arith, l);
        told = λ r there mine of_thread_is. let l = m.told r there mine of_thread_is in omega (arith, l);
        overs = λ q there mine. overs q (Contains-push_cases b.requests q0 q there) mine;
      })
          (λ y off. thread-request plan b me y q0 (thread_at c y) (not-mine q0.call y (ap (λ (z : Invocation). z.thread) is) off) (m.mine y off));
      others = λ x y off. thread-request plan b x y q0 (thread_at (client_at w x) y) (not-other q0.call x y (ap (λ (z : Invocation). z.client) is) off) (m.others x y off);
    }
      where
        number : (q : Request) → Contains b.requests q ⊎ (q0 ≡ q) → Owns me t q.call → q.call.number ≤ (thread_at c t).number + 1
        number q (inl there) mine = let l = m.numbers q there mine in omega (arith, l)
        number q (inr same) mine = let n = ap (λ (z : Request). z.call.number) (sym same) ∙ ap (λ (z : Invocation). z.number) is in omega (arith, n)

        overs : (q : Request) → Contains b.requests q ⊎ (q0 ≡ q) → Owns me t q.call → IsNow plan (row_asking p) q ⊎ OverIn (b.requests ++ q0 ∷ []) b.ends b.returned q.call
        overs q (inl there) mine = inr (over q there mine)
        overs q (inr same) mine = inl (p, refl, ap (λ (z : Request). z.call.number) (sym same) ∙ ap (λ (z : Invocation). z.number) is)

        now_open : (now : Pending) → Some p ≡ Some now → IsOpen plan (with_request b q0) me t ((thread_at c t).number + 1) now
        now_open now e = subst (IsOpen plan (with_request b q0) me t ((thread_at c t).number + 1)) (same_some e) (record {
          asked = q0;
          there = Contains-push b.requests q0;
          call_is = is;
          not_ended = λ x there same. let l = m.ended x there (ap (λ (z : Invocation). z.client) same, ap (λ (z : Invocation). z.thread) same) in let n = ap (λ (z : Invocation). z.number) same in absurd (omega (arith, l, n));
          not_told = λ r there same. let l = m.told r there (replay-same r.client me (ap (λ (z : Invocation). z.client) same)) (ap (λ (z : Invocation). z.thread) same) in let n = ap (λ (z : Invocation). z.number) same in absurd (omega (arith, l, n));
          works = works;
        })

    -- a request of the call that the thread works on
    module _ (call : Called) (works : Works plan b me t call false) (idle : opened ≡ false) (q0 : Request) (now_is : q0.event ≡ w.shown.number) (q0_is : q0.call ≡ of_thread plan me t ((thread_at c t).number + 1)) (may : MayAsk plan call.op q0.op) where
      by_then : call.event ≤ w.shown.number
      by_then = m.book.calls_now call works.began

      in_time : call.event ≤ q0.event
      in_time = let l = by_then in omega (arith, l, now_is)

      of_client : q0.call.client ≡ replay_id call.client
      of_client = ap (λ (z : Invocation). z.client) q0_is ∙ ap replay_id (sym works.client_is)

      of_thread_is : q0.call.thread ≡ call.thread
      of_thread_is = ap (λ (z : Invocation). z.thread) q0_is ∙ sym works.thread_is

      source : IsSourcedBy plan b.calls q0
      source = inl (call, record { began = works.began; client_is = refl; thread_is = refl; by_then = in_time; latest = λ d there mine thread by. works.latest d there (mine ∙ works.client_is) (thread ∙ works.thread_is) }, (of_client, of_thread_is), may)

      apart : (x : Request) → Contains b.requests x → x.call.client ≡ q0.call.client → x.call.thread ≡ q0.call.thread → Apart b.calls x q0
      apart x there e f = by (le-cases call.event x.event) where
        by : (call.event ≤ x.event) ⊎ (x.event < call.event) → Apart b.calls x q0
        by (inl l) = first_prepares (works.needs refl x there (e ∙ ap (λ (z : Invocation). z.client) q0_is, f ∙ ap (λ (z : Invocation). z.thread) q0_is) l)
        by (inr l) = other_call (record { call = call; began = works.began; client_is = e ∙ of_client; thread_is = f ∙ of_thread_is; later = l; in_time = in_time })

      other : (r : Returned) (d : Called) → Contains b.returned r → IsLast b.calls r.client r.what.thread r.event d → Owns r.client r.what.thread q0.call → IsOther b.calls d.event q0
      other r d there last mine = let l = last.by_then in
          let k = works.not_returned r there (replay-same r.client me (sym mine.0 ∙ ap (λ (z : Invocation). z.client) q0_is)) (sym mine.1 ∙ ap (λ (z : Invocation). z.thread) q0_is) in
          inr (record { call = call; began = works.began; client_is = of_client; thread_is = of_thread_is; later = omega (arith, l, k); in_time = in_time })

      behind : (r : Returned) → Contains b.returned r → Owns r.client r.what.thread q0.call → r.what.number < q0.call.number
      behind r there mine = let n = m.told r there (replay-same r.client me (sym mine.0 ∙ ap (λ (z : Invocation). z.client) q0_is)) (sym mine.1 ∙ ap (λ (z : Invocation). z.thread) q0_is) in let k = ap (λ (z : Invocation). z.number) q0_is in omega (arith, n, k)

      pub asks-for : (p : Pending) (o : UserOp) → p.task ≡ task.Calls o → p.deadline ≡ deadline_of call.clock (wish_of o) → call.op ≡ o → (is_for_itself p.purpose ≡ false → prepares q0.op ≡ true) → Mid (with_request b q0) (with_thread c t (row_asking p))
      asks-for p o task_is deadline_is op_is prep = asks-here q0 p q0_is (λ q there mine. all-over q (m.overs q there mine)) (book-request plan b w.shown.number q0 m.book now_is source apart other behind)
          (subst (TaskWorks plan (with_request b q0) me t q0 (is_for_itself p.purpose) p.deadline) (sym task_is)
          (call, op_is, works-request plan b me t q0 call (is_for_itself p.purpose) (λ mine e. prep e) (still (is_for_itself p.purpose)), in_time, subst (λ x. MayAsk plan x q0.op) op_is may, deadline_is))
        where
          all-over : (q : Request) → ((opened ≡ true) × (q.call.number ≡ (thread_at c t).number)) ⊎ OverIn b.requests b.ends b.returned q.call → OverIn (b.requests ++ q0 ∷ []) b.ends b.returned q.call
          all-over q (inl h) = absurd (no_false (sym idle ∙ h.0))
          all-over q (inr over) = over-request b.requests q0 b.ends b.returned q.call over

          still : (i : Bool) → Works plan b me t call i
          still false = works
          still true = record { began = works.began; client_is = works.client_is; thread_is = works.thread_is; latest = works.latest; not_returned = works.not_returned; needs = λ e. absurd (no e) } where
            no : true ≡ false → ⊥
            no k = cc

    -- the call returns, by this number
    module _ (call : Called) (itself : Bool) (works : Works plan b me t call itself) (r0 : Returned) (now_is : r0.event ≡ w.shown.number) (mine_is : r0.client ≡ me) (thread_is : r0.what.thread ≡ t) (at_least : (thread_at c t).number ≤ r0.what.number)
        (tells : Tells b.ends b.moves r0 call) (asked : ((q : Request) × IsAsked plan b.requests r0 call q) ⊎ AsksNone plan b.requests b.calls r0 call)
      where
        call-last : IsLast b.calls r0.client r0.what.thread r0.event call
        call-last = record {
          began = works.began;
          client_is = works.client_is ∙ sym mine_is;
          thread_is = works.thread_is ∙ sym thread_is;
          by_then = let l = m.book.calls_now call works.began in omega (arith, l, now_is);
          latest = λ d there mine thread by. works.latest d there (mine ∙ mine_is) (thread ∙ thread_is);
        }

        numbered : IsNumbered plan b r0 call
        numbered = record { greatest = λ q there mine at. inl (le_trans (m.numbers q there (mine.0 ∙ ap replay_id mine_is, mine.1 ∙ thread_is)) at_least); asked = asked }

        earlier : (x : Returned) → Contains b.returned x → x.client ≡ r0.client → x.what.thread ≡ r0.what.thread → Between b.calls (replay_id x.client) x.what.thread x.event r0.event
        earlier x there e f = record {
          call = call;
          began = works.began;
          client_is = ap replay_id (e ∙ (mine_is ∙ sym works.client_is));
          thread_is = f ∙ (thread_is ∙ sym works.thread_is);
          later = works.not_returned x there (e ∙ mine_is) (f ∙ thread_is);
          in_time = let l = m.book.calls_now call works.began in omega (arith, l, now_is);
        }

        pub returns-here : (n : ℕ) → r0.what.number ≤ n → (opened ≡ true → r0.what.number ≡ (thread_at c t).number) → Mid (with_return b r0) (with_thread c t (record { number = n; pending = None }))
        returns-here n upto same_number = let l : (thread_at c t).number ≤ n = le_trans at_least upto in record {
          book = book-return plan b w.shown.number r0 m.book now_is call call-last numbered tells earlier;
          mine = thread-put (λ y row. ThreadOk plan (with_return b r0) me y row) c t (record { number = n; pending = None })
              (record {
                open_ok = λ p is. absurd (none_some is);
                numbers = λ q there mine. le_trans (m.numbers q there mine) l;
                ended = λ e there mine. le_trans (m.ended e there mine) l;
                told = λ r there mine of_thread_is. told r (Contains-push_cases b.returned r0 r there) mine of_thread_is;
                overs = λ q there mine. inr (over q mine (m.overs q there mine));
              })
              (λ y off. thread-return plan b me y r0 (thread_at c y) (λ mine thread. off (sym thread ∙ thread_is)) (m.mine y off));
          others = λ x y off. thread-return plan b x y r0 (thread_at (client_at w x) y) (λ mine thread. off (sym mine ∙ mine_is)) (m.others x y off);
        }
          where
            told : (r : Returned) → Contains b.returned r ⊎ (r0 ≡ r) → r.client ≡ me → r.what.thread ≡ t → r.what.number ≤ n
            told r (inl there) mine of_thread_is = le_trans (m.told r there mine of_thread_is) (le_trans at_least upto)
            told r (inr same) mine of_thread_is = subst (λ (z : Returned). z.what.number ≤ n) same upto

            over : (q : Request) → Owns me t q.call → ((opened ≡ true) × (q.call.number ≡ (thread_at c t).number)) ⊎ OverIn b.requests b.ends b.returned q.call → OverIn b.requests b.ends (b.returned ++ r0 ∷ []) q.call
            over q mine (inl h) = was_returned r0 (Contains-push b.returned r0) (λ j. record { client = (ap replay_id mine_is ∙ sym mine.0) j; thread = (thread_is ∙ sym mine.1) j; number = (same_number h.0 ∙ sym h.1) j })
            over q mine (inr o) = over-return b.requests b.ends b.returned r0 q.call o

    -- a beat
    pub beats-here : (q0 : Request) (p : Pending) (s : ℕ) → q0.event ≡ w.shown.number → q0.call ≡ of_thread plan me t ((thread_at c t).number + 1) → is_beat q0.op ≡ true → p.task ≡ task.Beats s → p.deadline ≡ None → t ≡ own_thread → Mid (with_request b q0) (with_thread c t (row_asking p))
    beats-here q0 p s now_is q0_is beat task_is none own = asks-here q0 p q0_is (λ q there mine. over q mine (m.overs q there mine)) (book-request plan b w.shown.number q0 m.book now_is (inr beat) (λ x there e f. second_beats beat) (λ r d there last mine. inl beat) behind_beat)
        (subst (TaskWorks plan (with_request b q0) me t q0 (is_for_itself p.purpose) p.deadline) (sym task_is) none)
      where
        behind_beat : (r : Returned) → Contains b.returned r → Owns r.client r.what.thread q0.call → r.what.number < q0.call.number
        behind_beat r there mine = let n = m.told r there (replay-same r.client me (sym mine.0 ∙ ap (λ (z : Invocation). z.client) q0_is)) (sym mine.1 ∙ ap (λ (z : Invocation). z.thread) q0_is) in let k = ap (λ (z : Invocation). z.number) q0_is in omega (arith, n, k)

        over : (q : Request) → Owns me t q.call → ((opened ≡ true) × (q.call.number ≡ (thread_at c t).number)) ⊎ OverIn b.requests b.ends b.returned q.call → OverIn (b.requests ++ q0 ∷ []) b.ends b.returned q.call
        over q mine (inl h) = let n = h.1 in let k = ap (λ (z : Invocation). z.number) q0_is in has_gone_on q0 (Contains-push b.requests q0) (mine.1 ∙ own) (ap (λ (z : Invocation). z.client) q0_is ∙ sym mine.0) (ap (λ (z : Invocation). z.thread) q0_is ∙ sym mine.1) (omega (arith, n, k))
        over q mine (inr o) = over-request b.requests q0 b.ends b.returned q.call o

-- the open request of a thread
pub not-over : (plan : Plan) (b : Book) (me : ClientNo) (t : ThreadNo) (row : Thread) (p : Pending) → ThreadOk plan b me t row → row.pending ≡ Some p → IsOpen plan b me t row.number p
not-over plan b me t row p h is = h.open_ok p is
