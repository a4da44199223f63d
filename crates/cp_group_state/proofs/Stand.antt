-- Each fence that is answered is that of a lock which the call's thread then holds.
use Rattle.std.proofs.Common.{◌≡◌, ℕ, Bool, true, false, List, [], ◌∷◌, ◌++◌, map, Some, None, Option, refl, ap, sym, ◌∙◌, subst}
use Rattle.std.specs.Prelude.{All}
use Rattle.std.specs.List.{filter, AllByRecursion}
use Rattle.std.specs.List.Sorted.{IsStrictlySortedBy}
use Rattle.std.specs.Map.{keys_of}
use Rattle.std.proofs.lemmas.List.Elements.{All-nil, All-cons, All-append, All-weaker, All-head}
use Rattle.std.proofs.lemmas.Cmp.{nat_list_cmp_total}
use Rattle.std.specs.declared.cmp.Ordering.TheVariants.{Less, Equal}
use Rattle.cp_op_values.specs.declared.kind.Kind.{Kind}
use Rattle.cp_op_values.specs.declared.kind.Kind.TheVariants as kind
use Rattle.cp_ops.specs.declared.entry.Entry.{Entry}
use Rattle.cp_base.specs.declared.identifier.Invocation.{Invocation}
use Rattle.cp_answers.specs.declared.answer.Answer.{Answer}
use Rattle.cp_answers.specs.declared.answer.Answer.TheVariants as answer
use Rattle.cp_group_state.specs.Rows.{find, put, name_cmp, object_cmp}
use Rattle.cp_group_state.specs.Waiters.{Waiter, Ended, answered_by, waits_on, first}
use Rattle.cp_group_state.specs.Locks.{LockRow, lock_at, is_free, held_once, held_among, is_held_among}
use Rattle.cp_group_state.specs.Semaphores.{SemaphoreRow, served}
use Rattle.cp_group_state.specs.GroupState.{GroupState}
use Rattle.cp_group_state.specs.Changes.{Change, for_each, end_all}
use Rattle.cp_group_state.specs.Serving.{serve_from, serve, serve_left, serve_each_left, left_by, hand_to, hand_over}
use Rattle.cp_group_state.specs.Closing.{free_locks, free_permits, end_sessions, close, concerned}
use Rattle.cp_group_state.specs.Apply.{supersede, time_out, is_older}
use Rattle.cp_group_state.specs.Fences.{IsHeldUnder}
use Rattle.cp_group_state.proofs.Keyed.{find-put_same, find-put_other, name_key, is_at_apart}
use Rattle.cp_group_state.proofs.Rising.{Rising, rising-filter}
use Rattle.cp_group_state.proofs.Walk.{cases}

-- a fence that a waiter gets is that of the lock on which it waits, held by its thread in its session
abbrev pub IsGiven : List (List ℕ × LockRow) → Waiter → Answer → Type 0
IsGiven locks w (answer.Fence f) = (name : List ℕ) × (waits_on kind.Lock name w ≡ true) × (is_free (lock_at locks name) ≡ false) × ((lock_at locks name).holder ≡ record { session = w.session; thread = w.call.thread }) × ((lock_at locks name).fence ≡ f)
IsGiven locks w (answer.Held session thread holds f) = ⊥
IsGiven locks w a = Unit {0}

abbrev pub NoFence : Answer → Type 0
NoFence (answer.Fence f) = ⊥
NoFence (answer.Held session thread holds f) = ⊥
NoFence a = Unit {0}

pub no-given : (locks : List (List ℕ × LockRow)) (w : Waiter) (a : Answer) → NoFence a → IsGiven locks w a
no-given locks w (answer.Fence f) h = absurd h
no-given locks w (answer.Held session thread holds f) h = absurd h
no-given locks w a h = tt

pub no-held : (all : List Entry) (locks : List (List ℕ × LockRow)) (c : Invocation) (a : Answer) → NoFence a → IsHeldUnder all locks c a
no-held all locks c (answer.Fence f) h = absurd h
no-held all locks c (answer.Held session thread holds f) h = absurd h
no-held all locks c a h = tt

abbrev pub IsQuietEnd : List Ended → Type 0
IsQuietEnd ended = All (λ (e : Ended). NoFence e.answer) ended

pub quiet-answers : (a : Waiter → Answer) → ((w : Waiter) → NoFence (a w)) → (ws : List Waiter) → IsQuietEnd (map (answered_by a) ws)
quiet-answers a h [] = All-nil (λ (e : Ended). NoFence e.answer)
quiet-answers a h (w ∷ ws) = All-cons (λ (e : Ended). NoFence e.answer) (answered_by a w) (map (answered_by a) ws) (h w) (quiet-answers a h ws)

pub quiet-serve_from : (key : List ℕ × Kind) (o : Option SemaphoreRow) (s : GroupState) → IsQuietEnd (serve_from key o s).ended × ((serve_from key o s).state.locks ≡ s.locks)
quiet-serve_from key None s = (All-nil (λ (e : Ended). NoFence e.answer), refl)
quiet-serve_from key (Some row) s = (quiet-answers (λ w. answer.Ok) (λ w. tt) (served key row.available s.waiters), refl)

quiet-serve_all : (keys : List (List ℕ × Kind)) (s : GroupState) → IsQuietEnd (for_each serve keys s).ended × ((for_each serve keys s).state.locks ≡ s.locks)
quiet-serve_all [] s = (All-nil (λ (e : Ended). NoFence e.answer), refl)
quiet-serve_all (key ∷ keys) s = let one = quiet-serve_from key (find object_cmp s.semaphores.rows key) s in let rest = quiet-serve_all keys (serve key s).state in
    (All-append (λ (e : Ended). NoFence e.answer) (serve key s).ended (for_each serve keys (serve key s).state).ended one.0 rest.0, rest.1 ∙ one.1)

quiet-left : (c : Change) → IsQuietEnd c.ended → IsQuietEnd (serve_left c).ended
quiet-left c h = All-append (λ (e : Ended). NoFence e.answer) c.ended (for_each serve (left_by c.ended c.state) c.state).ended h (quiet-serve_all (left_by c.ended c.state) c.state).0

quiet-each : (c : Change) → IsQuietEnd c.ended → IsQuietEnd (serve_each_left c).ended
quiet-each c h = let keys = map (λ e. (e.waiter.name, e.waiter.kind)) c.ended in
    All-append (λ (e : Ended). NoFence e.answer) c.ended (for_each serve keys c.state).ended h (quiet-serve_all keys c.state).0

pub quiet-supersede : (call : Invocation) (s : GroupState) → IsQuietEnd (supersede call s).ended
quiet-supersede call s = quiet-each (end_all (is_older call) (λ w. answer.WaitCancelled call.number) s) (quiet-answers (λ w. answer.WaitCancelled call.number) (λ w. tt) (filter (is_older call) s.waiters))

quiet-times : (calls : List Invocation) (s : GroupState) → IsQuietEnd (for_each time_out calls s).ended
quiet-times [] s = All-nil (λ (e : Ended). NoFence e.answer)
quiet-times (call ∷ calls) s = All-append (λ (e : Ended). NoFence e.answer) (time_out call s).ended (for_each time_out calls (time_out call s).state).ended (quiet-answers (λ w. answer.TimedOut) (λ w. tt) _) (quiet-times calls (time_out call s).state)

pub quiet-time_out : (calls : List Invocation) (s : GroupState) → IsQuietEnd (serve_left (for_each time_out calls s)).ended
quiet-time_out calls s = quiet-left (for_each time_out calls s) (quiet-times calls s)

-- a handed lock
abbrev pub HeldAt : ℕ → List ℕ → List (List ℕ × LockRow) → Ended → Type 0
HeldAt i name locks e = (e.answer ≡ answer.Fence i) × (waits_on kind.Lock name e.waiter ≡ true) × (is_free (lock_at locks name) ≡ false) × ((lock_at locks name).holder ≡ record { session = e.waiter.session; thread = e.waiter.call.thread }) × ((lock_at locks name).fence ≡ i)

lock-put : (rows : List (List ℕ × LockRow)) (name : List ℕ) (row : LockRow) → lock_at (put name_cmp rows name row) name ≡ row
lock-put rows name row = rw (find-put_same name_cmp name_key rows name row)

hand_to-held : (i : ℕ) (name : List ℕ) (ws : List Waiter) (s : GroupState) → All (λ (w : Waiter). waits_on kind.Lock name w ≡ true) ws → All (HeldAt i name (hand_to i name (first ws) s).state.locks) (hand_to i name (first ws) s).ended
hand_to-held i name [] s all = All-nil (HeldAt i name s.locks)
hand_to-held i name (w ∷ ws) s all = let row = held_once (record { session = w.session; thread = w.call.thread }) i in
    All-cons (HeldAt i name (put name_cmp s.locks name row)) (record { waiter = w; answer = answer.Fence i }) []
    (refl, All-head (λ (w : Waiter). waits_on kind.Lock name w ≡ true) w ws all, rw (lock-put s.locks name row), rw (lock-put s.locks name row), rw (lock-put s.locks name row))
    (All-nil (HeldAt i name (put name_cmp s.locks name row)))

passes : (test : Waiter → Bool) (ws : List Waiter) → All (λ (w : Waiter). test w ≡ true) (filter test ws)
passes test [] = All-nil (λ (w : Waiter). test w ≡ true)
passes test (w ∷ ws) = cases (λ vs. All (λ (w : Waiter). test w ≡ true) vs) (test w) (w ∷ filter test ws) (filter test ws)
    (λ e. All-cons (λ (w : Waiter). test w ≡ true) w (filter test ws) e (passes test ws)) (λ e. passes test ws)

hand_over-held : (i : ℕ) (name : List ℕ) (s : GroupState) → All (HeldAt i name (hand_over i name s).state.locks) (hand_over i name s).ended
hand_over-held i name s = hand_to-held i name (filter (waits_on kind.Lock name) s.waiters) s (passes (waits_on kind.Lock name) s.waiters)

hand_to-other : (i : ℕ) (name q : List ℕ) (o : Option Waiter) (s : GroupState) → (q ≡ name → ⊥) → lock_at (hand_to i name o s).state.locks q ≡ lock_at s.locks q
hand_to-other i name q None s far = refl
hand_to-other i name q (Some w) s far = rw (find-put_other name_cmp name_key s.locks name q (held_once (record { session = w.session; thread = w.call.thread }) i) (is_at_apart name_cmp name_key q name far))

above-apart : (x y : List ℕ) → name_cmp x y ≡ Less → x ≡ y → ⊥
above-apart x y l e = by (sym l ∙ ap (λ (z : List ℕ). name_cmp x z) (sym e) ∙ name_key.here x) where
  by : Less ≡ Equal → ⊥
  by e = cc

each-other : (i : ℕ) (q : List ℕ) (names : List (List ℕ)) (s : GroupState) → AllByRecursion (λ y. name_cmp q y ≡ Less) names → lock_at (for_each (hand_over i) names s).state.locks q ≡ lock_at s.locks q
each-other i q [] s h = refl
each-other i q (x ∷ xs) s h = each-other i q xs (hand_over i x s).state h.1 ∙ hand_to-other i x q _ s (above-apart q x h.0)

abbrev pub HeldSome : ℕ → List (List ℕ × LockRow) → Ended → Type 0
HeldSome i locks e = (name : List ℕ) × HeldAt i name locks e

held-moved : (i : ℕ) (name : List ℕ) (a b : List (List ℕ × LockRow)) (e : Ended) → lock_at b name ≡ lock_at a name → HeldAt i name a e → HeldSome i b e
held-moved i name a b e same h = (name, (h.0, h.1, rw same h.2, rw same h.3, rw same h.4))

each-held : (i : ℕ) (names : List (List ℕ)) (s : GroupState) → IsStrictlySortedBy name_cmp names → All (HeldSome i (for_each (hand_over i) names s).state.locks) (for_each (hand_over i) names s).ended
unfolding IsStrictlySortedBy
each-held i [] s h = All-nil (HeldSome i s.locks)
each-held i (x ∷ xs) s h = let last = (for_each (hand_over i) xs (hand_over i x s).state).state.locks in
    All-append (HeldSome i last) (hand_over i x s).ended (for_each (hand_over i) xs (hand_over i x s).state).ended
    (All-weaker (HeldAt i x (hand_over i x s).state.locks) (HeldSome i last) (λ e k. held-moved i x (hand_over i x s).state.locks last e (each-other i x xs (hand_over i x s).state h.0) k) (hand_over i x s).ended (hand_over-held i x s))
    (each-held i xs (hand_over i x s).state h.1)

held-under : (i : ℕ) (locks : List (List ℕ × LockRow)) (e : Ended) → HeldSome i locks e → IsGiven locks e.waiter e.answer
held-under i locks e h = subst (IsGiven locks e.waiter) (sym h.1.0) (h.0, h.1.1, h.1.2, h.1.3, h.1.4)

abbrev pub EndedStand : List (List ℕ × LockRow) → List Ended → Type 0
EndedStand locks ended = All (λ (e : Ended). IsGiven locks e.waiter e.answer) ended

pub quiet-stand : (locks : List (List ℕ × LockRow)) (ended : List Ended) → IsQuietEnd ended → EndedStand locks ended
quiet-stand locks ended h = All-weaker (λ (e : Ended). NoFence e.answer) (λ (e : Ended). IsGiven locks e.waiter e.answer) (λ e k. no-given locks e.waiter e.answer k) ended h

pub stand-hand_over : (i : ℕ) (name : List ℕ) (s : GroupState) → EndedStand (hand_over i name s).state.locks (hand_over i name s).ended
stand-hand_over i name s = All-weaker (HeldAt i name (hand_over i name s).state.locks) (λ (e : Ended). IsGiven (hand_over i name s).state.locks e.waiter e.answer)
    (λ e h. held-under i (hand_over i name s).state.locks e (name, h)) (hand_over i name s).ended (hand_over-held i name s)

map-keys : {X : Type 0} (rows : List (List ℕ × X)) → keys_of rows ≡ map (λ e. e.0) rows
map-keys [] = refl
map-keys (e ∷ es) = ap (λ (ks : List (List ℕ)). e.0 ∷ ks) (map-keys es)

names-rise : (sessions : List ℕ) (rows : List (List ℕ × LockRow)) → Rising name_cmp rows → IsStrictlySortedBy name_cmp (held_among sessions rows)
names-rise sessions rows h = subst (IsStrictlySortedBy name_cmp) (map-keys (filter (λ e. is_held_among sessions e.1) rows)) (rising-filter name_cmp name_key nat_list_cmp_total (λ e. is_held_among sessions e.1) rows h)

-- closing hands over each lock once
pub stand-close : (i : ℕ) (sessions : List ℕ) (s : GroupState) → Rising name_cmp s.locks → EndedStand (close i sessions s).state.locks (close i sessions s).ended
stand-close i sessions s h =
    let ended_state = (end_sessions sessions s).state in
    let given = for_each (hand_over i) (held_among sessions s.locks) (free_locks sessions ended_state) in
    let keys = concerned sessions (end_sessions sessions s).ended s in
    let last = for_each serve keys (free_permits sessions given.state) in
    let quiet = quiet-serve_all keys (free_permits sessions given.state) in
    let final = last.state.locks in
    All-append (λ (e : Ended). IsGiven final e.waiter e.answer) ((end_sessions sessions s).ended ++ given.ended) last.ended
    (All-append (λ (e : Ended). IsGiven final e.waiter e.answer) (end_sessions sessions s).ended given.ended
    (quiet-stand final (end_sessions sessions s).ended (quiet-answers (λ w. answer.SessionExpired w.session) (λ w. tt) _))
    (All-weaker (HeldSome i given.state.locks) (λ (e : Ended). IsGiven final e.waiter e.answer)
    (λ e k. subst (λ l. IsGiven l e.waiter e.answer) (sym quiet.1) (held-under i given.state.locks e k)) given.ended (each-held i (held_among sessions s.locks) (free_locks sessions ended_state) (names-rise sessions s.locks h))))
    (quiet-stand final last.ended quiet.0)
