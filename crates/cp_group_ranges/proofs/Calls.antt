-- Sessions, waiters and memory rows keep their ranges.
use Rattle.std.proofs.Common.{◌≡◌, ℕ, ◌+◌, ◌^◌, ◌<◌, ◌≤◌, Bool, true, false, not, ◌||◌, List, [], ◌∷◌, ◌++◌, map, length, Some, None, Option, refl, ap, sym, ◌∙◌, subst, arith, is_some, if◌then◌else◌, length-append}
use Rattle.std.specs.Prelude.{◌==◌, min}
use Rattle.std.specs.List.{filter, AllByRecursion}
use Rattle.std.specs.Ordering.{nat_cmp}
use Rattle.std.specs.BTreeMap.{is_at}
use Rattle.std.specs.Cmp.{IsTotalOrder}
use Rattle.std.proofs.lemmas.Cmp.{nat_cmp_total, then_total, on_total}
use Rattle.cp_base.specs.declared.identifier.ClientId.{ClientId}
use Rattle.cp_base.specs.declared.identifier.ThreadNo.{ThreadNo}
use Rattle.cp_base.specs.declared.identifier.Invocation.{Invocation}
use Rattle.cp_base.proofs.Tests.{no_true}
use Rattle.cp_grammar.specs.Common.{index, client_id, thread_no}
use Rattle.cp_grammar.specs.Fields.{optional}
use Rattle.cp_answers.specs.declared.answer.Answer.{Answer}
use Rattle.cp_answers.specs.Answers.{answer_grammar}
use Rattle.cp_group_state.specs.declared.rows.Waiter.{Waiter}
use Rattle.cp_group_state.specs.declared.rows.MemoryRow.{MemoryRow}
use Rattle.cp_group_state.specs.declared.rows.SessionRow.{SessionRow}
use Rattle.cp_group_state.specs.declared.rows.SemaphoreRow.{SemaphoreRow}
use Rattle.cp_group_state.specs.Rows.{Object, find, put, has_room, most, object_cmp, holder_cmp}
use Rattle.cp_group_state.specs.Waiters.{Ended, same_client, same_call, first, stands, answered_by}
use Rattle.cp_group_state.specs.Memory.{has_memory, remember, note_at, note, note_all}
use Rattle.cp_group_state.specs.Sessions.{is_of, is_open_for, session_of, is_among, beaten}
use Rattle.cp_group_state.specs.Invariants.{OneSession, CallsDiffer}
use Rattle.cp_group_state.proofs.Keyed.{equal_is, find-put_same, find-put_other, number_key, holder_key, same-client}
use Rattle.cp_group_state.proofs.Walk.{either}
use Rattle.cp_group_state.proofs.Grows.{is_of-same, beats-opened, forget-opened}
use Rattle.cp_group_state.proofs.Latches.{same_call_itself}
use Rattle.cp_group_state.proofs.Once.{same-call}
use Rattle.cp_group_ranges.specs.Rows.{SessionFits, WaiterFits, MemoryFits, AnswerFits}
use Rattle.cp_group_ranges.specs.States.{HasSemaphore}
use Rattle.cp_group_ranges.proofs.Listed.{Kept, kept-put, kept-there, kept-filter, each-append, each-filter, each-map, each-weaker, each-put, each-find, shorter-filter}
use Rattle.cp_group_ranges.proofs.Fitting.{index_fits, some_answer, call_thread, thread_byte}

-- ---- sessions

pub record SessionsKept (rows : List (ℕ × SessionRow)) : Type 0 where
  pub kept : Kept nat_cmp SessionFits rows
  pub one : OneSession rows

none-open : (rows : List (ℕ × SessionRow)) (b : ℕ) (client : ClientId) → session_of rows client ≡ None → is_open_for rows b client ≡ false
none-open [] b client h = refl
none-open (e ∷ es) b client h = at (same_client e.1.client client) refl h (none-open es b client)
  where
    some_none : (x : ℕ × SessionRow) → Some x ≡ None → ⊥
    some_none x e = cc

    at : (c : Bool) → same_client e.1.client client ≡ c → first (if c then e ∷ filter (λ x. same_client x.1.client client) es else filter (λ x. same_client x.1.client client) es) ≡ None → (session_of es client ≡ None → is_open_for es b client ≡ false) → is_open_for (e ∷ es) b client ≡ false
    at true x h rest = absurd (some_none e h)
    at false x h rest = either (λ (o : Option SessionRow). is_of client o ≡ false) (is_at (nat_cmp b) e.0) (Some e.1) (find nat_cmp es b) x (rest h)

-- a client without a session opens one
one-open : (i : ℕ) (rows : List (ℕ × SessionRow)) (client : ClientId) → session_of rows client ≡ None → OneSession rows → OneSession (put nat_cmp rows i (record { client = client; version = 0 }))
one-open i rows client fresh h a b who x y = at (is_at (nat_cmp a) i) (is_at (nat_cmp b) i) refl refl
  where
    row : SessionRow
    row = record { client = client; version = 0 }

    old : (a : ℕ) → is_at (nat_cmp a) i ≡ false → is_open_for (put nat_cmp rows i row) a who ≡ true → is_open_for rows a who ≡ true
    old a e x = is_of-same who _ _ (find-put_other nat_cmp number_key rows i a row e) x

    clash : (a b : ℕ) → is_at (nat_cmp a) i ≡ true → is_at (nat_cmp b) i ≡ false → is_open_for (put nat_cmp rows i row) a who ≡ true → is_open_for (put nat_cmp rows i row) b who ≡ true → ⊥
    clash a b e f x y = let same : a ≡ i = number_key.same a i (equal_is _ e) in
        let here : find nat_cmp (put nat_cmp rows i row) a ≡ Some row = rw same (find-put_same nat_cmp number_key rows i row) in
        let who_is : client ≡ who = same-client client who (is_of-same who _ _ here x) in
        no_true (sym (old b f y) ∙ none-open rows b who (subst (λ c. session_of rows c ≡ None) who_is fresh))

    at : (c d : Bool) → is_at (nat_cmp a) i ≡ c → is_at (nat_cmp b) i ≡ d → a ≡ b
    at true true e f = number_key.same a i (equal_is _ e) ∙ sym (number_key.same b i (equal_is _ f))
    at true false e f = absurd (clash a b e f x y)
    at false true e f = absurd (clash b a f e y x)
    at false false e f = h a b who (old a e x) (old b f y)

pub kept-open : (i : ℕ) (rows : List (ℕ × SessionRow)) (client : ClientId) → has_room nat_cmp most rows i ≡ true → index.Fits i → client_id.Fits client → session_of rows client ≡ None → SessionsKept rows
    → SessionsKept (put nat_cmp rows i (record { client = client; version = 0 }))
kept-open i rows client room f c fresh h = record {
  kept = kept-put nat_cmp number_key nat_cmp_total SessionFits rows i (record { client = client; version = 0 }) room (record { number = f; client = c; version = index_fits 0 (omega arith) }) h.kept;
  one = one-open i rows client fresh h.one;
}

pub kept-beat : (rows : List (ℕ × SessionRow)) (number : ℕ) (row : SessionRow) → find nat_cmp rows number ≡ Some row → SessionsKept rows → SessionsKept (put nat_cmp rows number (beaten row))
kept-beat rows number row is h = let there : SessionFits (number, row) = each-find nat_cmp number_key nat_cmp_total SessionFits rows number row h.kept.all is in
    record {
      kept = kept-there nat_cmp number_key nat_cmp_total SessionFits rows number (beaten row) (ap is_some is) (record { number = there.number; client = there.client; version = index_fits (min (row.version + 1) (2 ^ 62)) (omega arith) }) h.kept;
      one = λ a b client x y. h.one a b client (beats-opened rows number row is a client x) (beats-opened rows number row is b client y);
    }

pub kept-sessions : (sessions : List ℕ) (rows : List (ℕ × SessionRow)) → SessionsKept rows → SessionsKept (filter (λ e. not (is_among sessions e.0)) rows)
kept-sessions sessions rows h = record {
  kept = kept-filter nat_cmp number_key nat_cmp_total SessionFits (λ e. not (is_among sessions e.0)) rows h.kept;
  one = λ a b client x y. h.one a b client (forget-opened rows sessions a client x).1 (forget-opened rows sessions b client y).1;
}

-- ---- waiters

pub record WaitersKept (rows : List (Object × SemaphoreRow)) (ws : List Waiter) : Type 0 where
  pub all : AllByRecursion WaiterFits ws
  pub few : length ws ≤ most
  pub differ : CallsDiffer ws
  pub stand : AllByRecursion (HasSemaphore rows) ws

none-stands : (call : Invocation) (test : Waiter → Bool) (ws : List Waiter) → stands call ws ≡ false → stands call (filter test ws) ≡ false
none-stands call test [] h = refl
none-stands call test (w ∷ ws) h = at (test w) (same_call call w.call) refl h (none-stands call test ws)
  where
    at : (b c : Bool) → same_call call w.call ≡ c → (c || stands call ws) ≡ false → (stands call ws ≡ false → stands call (filter test ws) ≡ false) → stands call (if b then w ∷ filter test ws else filter test ws) ≡ false
    at b true e h rest = absurd (no_true h)
    at true false e h rest = rw e (rest h)
    at false false e h rest = rest h

differ-among : (test : Waiter → Bool) (ws : List Waiter) → CallsDiffer ws → CallsDiffer (filter test ws)
differ-among test [] h = tt
differ-among test (w ∷ ws) h = either CallsDiffer (test w) (w ∷ filter test ws) (filter test ws) (none-stands w.call test ws h.0, differ-among test ws h.1) (differ-among test ws h.1)

pub kept-waiting : (rows : List (Object × SemaphoreRow)) (test : Waiter → Bool) (ws : List Waiter) → WaitersKept rows ws → WaitersKept rows (filter test ws)
kept-waiting rows test ws h = record {
  all = each-filter WaiterFits test ws h.all;
  few = let shorter = shorter-filter test ws in let few = h.few in omega (arith, shorter, few);
  differ = differ-among test ws h.differ;
  stand = each-filter (HasSemaphore rows) test ws h.stand;
}

apart-back : (a b : Invocation) → same_call a b ≡ false → same_call b a ≡ false
apart-back a b h = at (same_call b a) refl
  where
    at : (c : Bool) → same_call b a ≡ c → same_call b a ≡ false
    at true e = absurd (no_true (sym (subst (λ c. same_call a c ≡ true) (sym (same-call b a e)) (same_call_itself a)) ∙ h))
    at false e = e

none-behind : (call : Invocation) (ws : List Waiter) (v : Waiter) → stands call ws ≡ false → same_call call v.call ≡ false → stands call (ws ++ v ∷ []) ≡ false
none-behind call [] v h e = rw e
none-behind call (w ∷ ws) v h e = at (same_call call w.call) refl h (none-behind call ws v)
  where
    at : (c : Bool) → same_call call w.call ≡ c → (c || stands call ws) ≡ false → (stands call ws ≡ false → same_call call v.call ≡ false → stands call (ws ++ v ∷ []) ≡ false) → stands call ((w ∷ ws) ++ v ∷ []) ≡ false
    at true x h rest = absurd (no_true h)
    at false x h rest = rw x (rest h e)

differ-joined : (ws : List Waiter) (v : Waiter) → stands v.call ws ≡ false → CallsDiffer ws → CallsDiffer (ws ++ v ∷ [])
differ-joined [] v s h = (refl, tt)
differ-joined (w ∷ ws) v s h = at (same_call v.call w.call) refl s (λ k. differ-joined ws v k h.1)
  where
    at : (c : Bool) → same_call v.call w.call ≡ c → (c || stands v.call ws) ≡ false → (stands v.call ws ≡ false → CallsDiffer (ws ++ v ∷ [])) → CallsDiffer ((w ∷ ws) ++ v ∷ [])
    at true e s rest = absurd (no_true s)
    at false e s rest = (none-behind w.call ws v h.0 (apart-back v.call w.call e), rest s)

pub kept-joined : (rows : List (Object × SemaphoreRow)) (ws : List Waiter) (v : Waiter) → length ws < most → stands v.call ws ≡ false → WaiterFits v → HasSemaphore rows v → WaitersKept rows ws → WaitersKept rows (ws ++ v ∷ [])
kept-joined rows ws v less new f there h = record {
  all = each-append WaiterFits ws (v ∷ []) h.all (f, tt);
  few = let one = length-append ws (v ∷ []) in omega (arith, one, less);
  differ = differ-joined ws v new h.differ;
  stand = each-append (HasSemaphore rows) ws (v ∷ []) h.stand (there, tt);
}

-- semaphores that were there are there
pub kept-stand : (rows next : List (Object × SemaphoreRow)) (ws : List Waiter) → ((q : Object) → is_some (find object_cmp rows q) ≡ true → is_some (find object_cmp next q) ≡ true) → WaitersKept rows ws → WaitersKept next ws
kept-stand rows next ws grew h = record {
  all = h.all;
  few = h.few;
  differ = h.differ;
  stand = each-weaker (HasSemaphore rows) (HasSemaphore next) (λ w there sem. grew (w.name, w.kind) (there sem)) ws h.stand;
}

-- ---- memory rows

pub record EndedFits (e : Ended) : Type 0 where
  pub waiter : WaiterFits e.waiter
  pub answer : answer_grammar.Fits e.answer

pub ended-fits : (answer : Waiter → Answer) → ((w : Waiter) → WaiterFits w → answer_grammar.Fits (answer w)) → (ws : List Waiter) → AllByRecursion WaiterFits ws → AllByRecursion EndedFits (map (answered_by answer) ws)
ended-fits answer f ws h = each-map EndedFits (answered_by answer) ws (each-weaker WaiterFits (λ (w : Waiter). EndedFits (answered_by answer w)) (λ w p. record { waiter = p; answer = f w p }) ws h)

pub told-fits : (ended : List Ended) → AllByRecursion EndedFits ended → AllByRecursion AnswerFits (map (λ (e : Ended). (e.waiter.call, e.answer)) ended)
told-fits ended h = each-map AnswerFits (λ (e : Ended). (e.waiter.call, e.answer)) ended (each-weaker EndedFits (λ (e : Ended). AnswerFits (e.waiter.call, e.answer)) (λ e p. (p.waiter.call, p.answer)) ended h)

pub holder_total : IsTotalOrder holder_cmp
holder_total = then_total (on_total (λ (k : ℕ × ℕ). k.0) nat_cmp_total) (on_total (λ (k : ℕ × ℕ). k.1) nat_cmp_total)

pub memory-found : (rows : List ((ℕ × ℕ) × MemoryRow)) (session thread : ℕ) (row : MemoryRow) → AllByRecursion MemoryFits rows → find holder_cmp rows (session, thread) ≡ Some row → MemoryFits ((session, thread), row)
memory-found rows session thread row h is = each-find holder_cmp holder_key holder_total MemoryFits rows (session, thread) row h is

pub kept-remembered : (rows : List ((ℕ × ℕ) × MemoryRow)) (session : ℕ) (thread : ThreadNo) (number : ℕ) (a : Option Answer) → index.Fits session → thread_no.Fits thread → index.Fits number → (optional answer_grammar).Fits a
    → AllByRecursion MemoryFits rows → AllByRecursion MemoryFits (remember rows session thread number a)
kept-remembered rows session thread number a s t n f h = each-put holder_cmp holder_key holder_total MemoryFits rows (session, thread.0) (record { number = number; answer = a })
    (record { session = s; thread = thread_byte thread t; number = n; answer = f }) h

kept-note_at : (rows : List ((ℕ × ℕ) × MemoryRow)) (e : Ended) (o : Option MemoryRow) → find holder_cmp rows (e.waiter.session, e.waiter.call.thread.0) ≡ o → EndedFits e → AllByRecursion MemoryFits rows → AllByRecursion MemoryFits (note_at rows e o)
kept-note_at rows e None is f h = h
kept-note_at rows e (Some row) is f h = either (AllByRecursion MemoryFits) (row.number == e.waiter.call.number) _ _
    (kept-remembered rows e.waiter.session e.waiter.call.thread row.number (Some e.answer) f.waiter.session (call_thread e.waiter.call f.waiter.call) (memory-found rows e.waiter.session e.waiter.call.thread.0 row h is).number (some_answer e.answer f.answer) h) h

pub kept-noted : (rows : List ((ℕ × ℕ) × MemoryRow)) (ended : List Ended) → AllByRecursion EndedFits ended → AllByRecursion MemoryFits rows → AllByRecursion MemoryFits (note_all rows ended)
kept-noted rows [] f h = h
kept-noted rows (e ∷ es) f h = kept-noted (note rows e) es f.1 (either (AllByRecursion MemoryFits) (has_memory e.waiter.kind) _ _ (kept-note_at rows e (find holder_cmp rows (e.waiter.session, e.waiter.call.thread.0)) refl f.0 h) h)
