-- The rows of a queue, seen as its waiters.
use Rattle.std.proofs.Common.{◌≡◌, ◌≤◌, ◌<◌, ◌+◌, ℕ, ℤ, Bool, true, false, not, ◌||◌, List, [], ◌∷◌, ◌++◌, length, Option, Some, None, refl, ap, sym, ◌∙◌, subst, cond, is_some, ◌&&◌, nat_lt, map, take, get_or, arith, length-append, zero, suc}
use Rattle.std.specs.Prelude.{◌==◌, pos, int_lt, ◌-ℤ◌, if◌then◌else◌, slice_get}
use Rattle.std.specs.List.{filter, list_any}
use Rattle.std.proofs.lemmas.List.{take_more}
use Rattle.std.specs.Map.{lookup, remove_entry, values_of}
use Rattle.cp_base.specs.declared.identifier.Invocation.{Invocation}
use Rattle.cp_base.proofs.Tests.{no_true}
use Rattle.cp_answers.specs.declared.answer.Answer.{Answer}
use Rattle.cp_group_state.specs.Rows.{Object, most}
use Rattle.cp_group_state.specs.Waiters.{Ended, same_client, same_call, stands, still_waiting, answered_by, first}
use Rattle.cp_group_state.specs.Semaphores.{served}
use Rattle.cp_group_state.specs.Sessions.{is_among}
use Rattle.cp_group_state.specs.Apply.{is_older}
use Rattle.cp_group_state.specs.Invariants.{CallsDiffer}
use Rattle.cp_group_state.specs.declared.rows.Waiter.{Waiter}
use Rattle.cp_group_state.proofs.Latches.{same_call_itself}
use Rattle.cp_group_state.proofs.Once.{same-call}
use Rattle.cp_group_state.proofs.Single.{differ-filter, differ-push}
use Rattle.cp_wait.specs.Arrivals.{calls_of, under_calls, waiter_of, without_waiter, is_of_thread}
use Rattle.cp_wait.specs.Indexes.{IsIndexed, IsOnly, is_on, is_of_session}
use Rattle.cp_wait.specs.Queues.{IsQueue, waiters_at, waiter_at, with_waiter, served_at}
use Rattle.cp_wait.specs.declared.indexes.Indexes.{Indexes}
use Rattle.cp_wait.specs.declared.waits.RowsError.{RowsError}
use Rattle.cp_wait.specs.declared.waits.RowsError.TheVariants as rows
use Rattle.cp_wait.specs.Faults.{IsRowsFault, IsSeatFault}
use Rattle.cp_wait.proofs.Arriving.{without-absent, without-push, only-absent, only-push}

pub values-under : (ws : List Waiter) → values_of (under_calls ws) ≡ ws
values-under [] = refl
values-under (w ∷ ws) = ap (λ (vs : List Waiter). w ∷ vs) (values-under ws)

pub length-under : (ws : List Waiter) → length (under_calls ws) ≡ length ws
length-under [] = refl
length-under (w ∷ ws) = let h = length-under ws in omega arith

pub under-push : (ws : List Waiter) (w : Waiter) → under_calls (ws ++ w ∷ []) ≡ under_calls ws ++ (w.call, w) ∷ []
under-push [] w = refl
under-push (v ∷ vs) w = ap (λ (es : List (Invocation × Waiter)). (v.call, v) ∷ es) (under-push vs w)

pub lookup-under : (c : Invocation) (ws : List Waiter) → lookup (same_call c) (under_calls ws) ≡ waiter_of c ws
lookup-under c [] = refl
lookup-under c (w ∷ ws) = ap (λ (o : Option Waiter). cond (same_call c w.call) (Some w) o) (lookup-under c ws)

pub remove-under : (c : Invocation) (ws : List Waiter) → CallsDiffer ws → remove_entry (same_call c) (under_calls ws) ≡ under_calls (without_waiter c ws)
remove-under c [] d = refl
remove-under c (w ∷ ws) d = by (same_call c w.call) refl (remove-under c ws d.1)
  where
    by : (b : Bool) → same_call c w.call ≡ b → remove_entry (same_call c) (under_calls ws) ≡ under_calls (without_waiter c ws)
        → cond b (under_calls ws) ((w.call, w) ∷ remove_entry (same_call c) (under_calls ws)) ≡ under_calls (if not b then w ∷ without_waiter c ws else without_waiter c ws)
    by true e rest = let same : c ≡ w.call = same-call c w.call e in
        let none : stands c ws ≡ false = subst (λ (x : Invocation). stands x ws ≡ false) (sym same) d.0 in
        ap under_calls (sym (without-absent c ws none))
    by false e rest = ap (λ (es : List (Invocation × Waiter)). (w.call, w) ∷ es) rest

pub stands-found : (c : Invocation) (ws : List Waiter) → is_some (waiter_of c ws) ≡ stands c ws
stands-found c [] = refl
stands-found c (w ∷ ws) = by (same_call c w.call) (stands-found c ws)
  where
    by : (b : Bool) → is_some (waiter_of c ws) ≡ stands c ws → is_some (cond b (Some w) (waiter_of c ws)) ≡ (b || stands c ws)
    by true rest = refl
    by false rest = rest

pub absent-none : (c : Invocation) (ws : List Waiter) → stands c ws ≡ false → waiter_of c ws ≡ None
absent-none c ws h = by (waiter_of c ws) (stands-found c ws ∙ h)
  where
    by : (o : Option Waiter) → is_some o ≡ false → o ≡ None
    by None e = refl
    by (Some w) e = absurd (no_true e)

-- the waiter that is found has the call, and is the only one
pub found-call : (c : Invocation) (ws : List Waiter) (w : Waiter) → waiter_of c ws ≡ Some w → c ≡ w.call
found-call c [] w h = cc
found-call c (v ∷ vs) w h = by (same_call c v.call) refl h (found-call c vs w)
  where
    some_is : Some v ≡ Some w → v ≡ w
    some_is e = cc

    by : (b : Bool) → same_call c v.call ≡ b → cond b (Some v) (waiter_of c vs) ≡ Some w → (waiter_of c vs ≡ Some w → c ≡ w.call) → c ≡ w.call
    by true e h rest = same-call c v.call e ∙ ap (λ (x : Waiter). x.call) (some_is h)
    by false e h rest = rest h

pub only-found : (c : Invocation) (ws : List Waiter) (w : Waiter) → CallsDiffer ws → waiter_of c ws ≡ Some w → IsOnly w ws
only-found c [] w d h = tt
only-found c (v ∷ vs) w d h = by (same_call c v.call) refl h (only-found c vs w d.1)
  where
    some_is : Some v ≡ Some w → v ≡ w
    some_is e = cc

    by : (b : Bool) → same_call c v.call ≡ b → cond b (Some v) (waiter_of c vs) ≡ Some w → (waiter_of c vs ≡ Some w → IsOnly w vs) → IsOnly w (v ∷ vs)
    by true e h rest = let is : v ≡ w = some_is h in
        (λ same. is, only-absent w vs (subst (λ (x : Waiter). stands x.call vs ≡ false) is d.0))
    by false e h rest = let call : c ≡ w.call = found-call c vs w h in
        (λ same. absurd (no_true (sym same ∙ subst (λ (x : Invocation). same_call x v.call ≡ false) call e)), rest h)

-- each of these waiters is found by its call
abbrev pub AreFound : List Waiter → List Waiter → Type 0
AreFound [] ws = Unit {0}
AreFound (u ∷ us) ws = (lookup (same_call u.call) (under_calls ws) ≡ Some u) × AreFound us ws

pub found-filter : (p : Waiter → Bool) (us ws : List Waiter) → AreFound us ws → AreFound (filter p us) ws
found-filter p [] ws f = tt
found-filter p (u ∷ us) ws f = by (p u) (found-filter p us ws f.1)
  where
    by : (b : Bool) → AreFound (filter p us) ws → AreFound (if b then u ∷ filter p us else filter p us) ws
    by true rest = (f.0, rest)
    by false rest = rest

back : (a b : Invocation) → same_call a b ≡ true → same_call b a ≡ true
back a b h = subst (λ (x : Invocation). same_call b x ≡ true) (sym (same-call a b h)) (same_call_itself b)

found-more : (us ws : List Waiter) (w : Waiter) → stands w.call us ≡ false → AreFound us ws → AreFound us (w ∷ ws)
found-more [] ws w h f = tt
found-more (u ∷ us) ws w h f = by (same_call w.call u.call) (same_call u.call w.call) refl refl h (λ k. found-more us ws w k f.1)
  where
    by : (a b : Bool) → same_call w.call u.call ≡ a → same_call u.call w.call ≡ b → (a || stands w.call us) ≡ false → (stands w.call us ≡ false → AreFound us (w ∷ ws)) → AreFound (u ∷ us) (w ∷ ws)
    by true b e g h rest = absurd (no_true h)
    by false true e g h rest = absurd (no_true (sym (back u.call w.call g) ∙ e))
    by false false e g h rest = (rw g f.0, rest h)

pub all-found : (ws : List Waiter) → CallsDiffer ws → AreFound ws ws
all-found [] d = tt
all-found (w ∷ ws) d = (rw (same_call_itself w.call) refl, found-more ws ws w d.0 (all-found ws d.1))

gathered-found : (us ws : List Waiter) → AreFound us ws → waiters_at (calls_of us) (under_calls ws) ≡ us
gathered-found [] ws f = refl
gathered-found (u ∷ us) ws f = rw f.0 (ap (λ (vs : List Waiter). u ∷ vs) (gathered-found us ws f.1))

nth-found : (us ws : List Waiter) (place : ℕ) → AreFound us ws → waiter_at (slice_get (calls_of us) place) (under_calls ws) ≡ slice_get us place
nth-found [] ws place f = refl
nth-found (u ∷ us) ws zero f = f.0
nth-found (u ∷ us) ws (suc n) f = nth-found us ws n f.1

-- the waiters at the front that are served
abbrev pub served_in : ℤ → List Waiter → List Waiter
served_in available [] = []
served_in available (u ∷ us) = if int_lt available (pos u.permits) then [] else u ∷ served_in (available -ℤ pos u.permits) us

served-found : (us ws : List Waiter) (available : ℤ) → AreFound us ws → served_at available (calls_of us) (under_calls ws) ≡ served_in available us
served-found [] ws available f = refl
served-found (u ∷ us) ws available f = rw f.0 (ap (λ (vs : List Waiter). if int_lt available (pos u.permits) then [] else u ∷ vs) (served-found us ws (available -ℤ pos u.permits) f.1))

served-on : (key : Object) (available : ℤ) (ws : List Waiter) → served_in available (filter (is_on key) ws) ≡ served key available ws
served-on key available [] = refl
served-on key available (w ∷ ws) = by (is_on key w) (λ left. served-on key left ws)
  where
    by : (b : Bool) → ((left : ℤ) → served_in left (filter (is_on key) ws) ≡ served key left ws) → served_in available (if b then w ∷ filter (is_on key) ws else filter (is_on key) ws) ≡ (if b then (if int_lt available (pos w.permits) then [] else w ∷ served key (available -ℤ pos w.permits) ws) else served key available ws)
    by true rest = ap (λ (vs : List Waiter). if int_lt available (pos w.permits) then [] else w ∷ vs) (rest (available -ℤ pos w.permits))
    by false rest = rest available

-- what a queue answers by the calls that an index gives
module _ (rows : List (Invocation × Waiter)) (i : Indexes) (q : IsQueue rows i) (calls : List Invocation) where
  found-in : (p : Waiter → Bool) → AreFound (filter p (values_of rows)) (values_of rows)
  found-in p = found-filter p (values_of rows) (values_of rows) (all-found (values_of rows) q.differ)

  pub gathered : (p : Waiter → Bool) → calls ≡ calls_of (filter p (values_of rows)) → waiters_at calls rows ≡ filter p (values_of rows)
  gathered p h = ap (λ (cs : List Invocation). waiters_at cs rows) h ∙ ap (λ (es : List (Invocation × Waiter)). waiters_at (calls_of (filter p (values_of rows))) es) q.own
      ∙ gathered-found (filter p (values_of rows)) (values_of rows) (found-in p)

  pub nth-of : (p : Waiter → Bool) (place : ℕ) → calls ≡ calls_of (filter p (values_of rows)) → waiter_at (slice_get calls place) rows ≡ slice_get (filter p (values_of rows)) place
  nth-of p place h = ap (λ (cs : List Invocation). waiter_at (slice_get cs place) rows) h ∙ ap (λ (es : List (Invocation × Waiter)). waiter_at (slice_get (calls_of (filter p (values_of rows))) place) es) q.own
      ∙ nth-found (filter p (values_of rows)) (values_of rows) place (found-in p)

  pub served-of : (key : Object) (available : ℤ) → calls ≡ calls_of (filter (is_on key) (values_of rows)) → served_at available calls rows ≡ served key available (values_of rows)
  served-of key available h = ap (λ (cs : List Invocation). served_at available cs rows) h ∙ ap (λ (es : List (Invocation × Waiter)). served_at available (calls_of (filter (is_on key) (values_of rows))) es) q.own
      ∙ served-found (filter (is_on key) (values_of rows)) (values_of rows) available (found-in (is_on key)) ∙ served-on key available (values_of rows)

pub looked-up : (rows : List (Invocation × Waiter)) (i : Indexes) (q : IsQueue rows i) (c : Invocation) → lookup (same_call c) rows ≡ waiter_of c (values_of rows)
looked-up rows i q c = ap (λ (es : List (Invocation × Waiter)). lookup (same_call c) es) q.own ∙ lookup-under c (values_of rows)

pub first-is : (ws : List Waiter) → slice_get ws 0 ≡ first ws
first-is [] = refl
first-is (w ∷ ws) = refl

-- a queue after a waiter came or went
values-append : (es fs : List (Invocation × Waiter)) → values_of (es ++ fs) ≡ values_of es ++ values_of fs
values-append [] fs = refl
values-append (e ∷ es) fs = ap (λ (ws : List Waiter). e.1 ∷ ws) (values-append es fs)

pub queue-push : (rows next : List (Invocation × Waiter)) (i j : Indexes) (w : Waiter) → IsQueue rows i → stands w.call (values_of rows) ≡ false → length rows < most → next ≡ rows ++ (w.call, w) ∷ []
    → IsIndexed (values_of rows ++ w ∷ []) j → (values_of next ≡ values_of rows ++ w ∷ []) × IsQueue next j
queue-push rows next i j w q fresh room is indexed = (
  values,
  record {
    own = is ∙ ap (λ (es : List (Invocation × Waiter)). es ++ (w.call, w) ∷ []) q.own ∙ sym (under-push (values_of rows) w) ∙ ap under_calls (sym values);
    differ = subst CallsDiffer (sym values) (differ-push (values_of rows) w fresh q.differ);
    few = few;
    indexed = subst (λ (ws : List Waiter). IsIndexed ws j) (sym values) indexed;
  },
)
  where
    values : values_of next ≡ values_of rows ++ w ∷ []
    values = ap values_of is ∙ values-append rows ((w.call, w) ∷ [])

    few : length next ≤ most
    few = let more : length (rows ++ (w.call, w) ∷ []) ≡ length rows + 1 = length-append rows ((w.call, w) ∷ []) in
        let same : length next ≡ length (rows ++ (w.call, w) ∷ []) = ap length is in omega arith

fewer : (p : Waiter → Bool) (ws : List Waiter) → length (filter p ws) ≤ length ws
fewer p [] = omega arith
fewer p (w ∷ ws) = by (p w) (fewer p ws)
  where
    by : (b : Bool) → length (filter p ws) ≤ length ws → length (if b then w ∷ filter p ws else filter p ws) ≤ length (w ∷ ws)
    by true h = omega arith
    by false h = omega arith

pub queue-remove : (c : Invocation) (rows next : List (Invocation × Waiter)) (i j : Indexes) → IsQueue rows i → next ≡ remove_entry (same_call c) rows
    → IsIndexed (without_waiter c (values_of rows)) j → (values_of next ≡ without_waiter c (values_of rows)) × IsQueue next j
queue-remove c rows next i j q is indexed = (
  values,
  record {
    own = entries ∙ ap under_calls (sym values);
    differ = subst CallsDiffer (sym values) (differ-filter (λ w. not (same_call c w.call)) (values_of rows) q.differ);
    few = few;
    indexed = subst (λ (ws : List Waiter). IsIndexed ws j) (sym values) indexed;
  },
)
  where
    entries : next ≡ under_calls (without_waiter c (values_of rows))
    entries = is ∙ ap (λ (es : List (Invocation × Waiter)). remove_entry (same_call c) es) q.own ∙ remove-under c (values_of rows) q.differ

    values : values_of next ≡ without_waiter c (values_of rows)
    values = ap values_of entries ∙ values-under (without_waiter c (values_of rows))

    few : length next ≤ most
    few = let a : length next ≡ length (without_waiter c (values_of rows)) = ap length entries ∙ length-under (without_waiter c (values_of rows)) in
        let b = fewer (λ w. not (same_call c w.call)) (values_of rows) in
        let l : length (values_of rows) ≡ length rows = sym (length-under (values_of rows)) ∙ ap length (sym q.own) in
        let m : length rows ≤ most = q.few in omega arith

pub queue-undo : (rows next : List (Invocation × Waiter)) (i j k : Indexes) (w back : Waiter) → IsQueue rows i → stands w.call (values_of rows) ≡ false → next ≡ rows → back ≡ w → IsIndexed (values_of rows ++ w ∷ []) j
    → ((ws : List Waiter) → CallsDiffer ws → IsOnly back ws → IsIndexed ws j → IsIndexed (without_waiter back.call ws) k) → IsQueue next k
queue-undo rows next i j k w back q fresh same is indexed leaves = subst (λ (es : List (Invocation × Waiter)). IsQueue es k) (sym same) (record {
  own = q.own;
  differ = q.differ;
  few = q.few;
  indexed = subst (λ (ws : List Waiter). IsIndexed ws k) (without-push w (values_of rows) fresh)
      (subst (λ (v : Waiter). IsIndexed (without_waiter v.call (values_of rows ++ w ∷ [])) k) is
      (leaves (values_of rows ++ w ∷ []) (differ-push (values_of rows) w fresh q.differ) (subst (λ (v : Waiter). IsOnly v (values_of rows ++ w ∷ [])) (sym is) (only-push w (values_of rows) (only-absent w (values_of rows) fresh))) indexed));
})

pub queue-absent : (c : Invocation) (rows next : List (Invocation × Waiter)) (i : Indexes) → IsQueue rows i → lookup (same_call c) rows ≡ None → next ≡ remove_entry (same_call c) rows
    → (values_of next ≡ without_waiter c (values_of rows)) × IsQueue next i
queue-absent c rows next i q none is = queue-remove c rows next i i q is (subst (λ (ws : List Waiter). IsIndexed ws i) (sym (without-absent c (values_of rows) absent)) q.indexed)
  where
    absent : stands c (values_of rows) ≡ false
    absent = sym (stands-found c (values_of rows)) ∙ ap is_some (sym (looked-up rows i q c) ∙ none)

pub queue-left : (c : Invocation) (rows next : List (Invocation × Waiter)) (i j : Indexes) (w : Waiter) → IsQueue rows i → lookup (same_call c) rows ≡ Some w → next ≡ remove_entry (same_call c) rows
    → ((ws : List Waiter) → CallsDiffer ws → IsOnly w ws → IsIndexed ws i → IsIndexed (without_waiter w.call ws) j) → (values_of next ≡ without_waiter c (values_of rows)) × IsQueue next j
queue-left c rows next i j w q there is leaves = queue-remove c rows next i j q is
    (subst (λ (x : Invocation). IsIndexed (without_waiter x (values_of rows)) j) (sym (found-call c (values_of rows) w found)) (leaves (values_of rows) q.differ (only-found c (values_of rows) w q.differ found) q.indexed))
  where
    found : waiter_of c (values_of rows) ≡ Some w
    found = sym (looked-up rows i q c) ∙ there

-- of a call there is one waiter or none
pub only-one : (c : Invocation) (ws : List Waiter) → CallsDiffer ws → with_waiter (waiter_of c ws) [] ≡ filter (λ w. same_call c w.call) ws
only-one c [] d = refl
only-one c (w ∷ ws) d = by (same_call c w.call) refl (only-one c ws d.1)
  where
    by : (b : Bool) → same_call c w.call ≡ b → with_waiter (waiter_of c ws) [] ≡ filter (λ w. same_call c w.call) ws
        → with_waiter (cond b (Some w) (waiter_of c ws)) [] ≡ (if b then w ∷ filter (λ w. same_call c w.call) ws else filter (λ w. same_call c w.call) ws)
    by true e rest = let same : c ≡ w.call = same-call c w.call e in
        let none : waiter_of c ws ≡ None = absent-none c ws (subst (λ (x : Invocation). stands x ws ≡ false) (sym same) d.0) in
        ap (λ (vs : List Waiter). w ∷ vs) (sym (ap (λ (o : Option Waiter). with_waiter o []) none) ∙ rest)
    by false e rest = rest

-- of the waiters of a thread those with a lower number
pub older-calls : (call : Invocation) (ws : List Waiter) → filter (λ c. nat_lt c.number call.number) (calls_of (filter (is_of_thread (call.client, call.thread)) ws)) ≡ calls_of (filter (is_older call) ws)
older-calls call [] = refl
older-calls call (w ∷ ws) = by (same_client call.client w.call.client) (call.thread.0 == w.call.thread.0) (nat_lt w.call.number call.number) refl (older-calls call ws)
  where
    by : (a b d : Bool) → nat_lt w.call.number call.number ≡ d → filter (λ c. nat_lt c.number call.number) (calls_of (filter (is_of_thread (call.client, call.thread)) ws)) ≡ calls_of (filter (is_older call) ws)
        → filter (λ c. nat_lt c.number call.number) (calls_of (if a && b then w ∷ filter (is_of_thread (call.client, call.thread)) ws else filter (is_of_thread (call.client, call.thread)) ws))
        ≡ calls_of (if a && (b && d) then w ∷ filter (is_older call) ws else filter (is_older call) ws)
    by true true true e rest = rw e (ap (λ (cs : List Invocation). w.call ∷ cs) rest)
    by true true false e rest = rw e rest
    by true false d e rest = rest
    by false b d e rest = rest

pub one-session : (session : ℕ) (ws : List Waiter) → filter (is_of_session session) ws ≡ filter (λ w. is_among (session ∷ []) w.session) ws
one-session session [] = refl
one-session session (w ∷ ws) = by (session == w.session) (one-session session ws)
  where
    by : (b : Bool) → filter (is_of_session session) ws ≡ filter (λ w. is_among (session ∷ []) w.session) ws
        → (if b then w ∷ filter (is_of_session session) ws else filter (is_of_session session) ws) ≡ (if b || false then w ∷ filter (λ w. is_among (session ∷ []) w.session) ws else filter (λ w. is_among (session ∷ []) w.session) ws)
    by true rest = ap (λ (vs : List Waiter). w ∷ vs) rest
    by false rest = rest

pub length-calls : (ws : List Waiter) → length (calls_of ws) ≡ length ws
length-calls [] = refl
length-calls (w ∷ ws) = let h = length-calls ws in omega arith

pub single : (xs : List ℕ) → 1 ≤ length xs → length xs < 2 → xs ≡ get_or xs 0 0 ∷ []
single [] a b = absurd (omega arith)
single (x ∷ []) a b = refl
single (x ∷ y ∷ xs) a b = absurd (omega arith)

-- all that ended leave, one by one
pub still-none : (ws : List Waiter) → still_waiting [] ws ≡ ws
still-none [] = refl
still-none (w ∷ ws) = ap (λ (vs : List Waiter). w ∷ vs) (still-none ws)

any-last : (p : Ended → Bool) (f : Waiter → Ended) (ws : List Waiter) (w : Waiter) → list_any p (map f (ws ++ w ∷ [])) ≡ (p (f w) || list_any p (map f ws))
any-last p f [] w = refl
any-last p f (v ∷ vs) w = ap (λ (b : Bool). p (f v) || b) (any-last p f vs w) ∙ turn (p (f v)) (p (f w)) (list_any p (map f vs))
  where
    turn : (a b c : Bool) → (a || (b || c)) ≡ (b || (a || c))
    turn true true c = refl
    turn true false c = refl
    turn false b c = refl

-- the last one leaves first
pub still-last : (answer : Waiter → Answer) (gone : List Waiter) (w : Waiter) (ws : List Waiter) → still_waiting (map (answered_by answer) (gone ++ w ∷ [])) ws ≡ still_waiting (map (answered_by answer) gone) (without_waiter w.call ws)
still-last answer gone w [] = refl
still-last answer gone w (v ∷ vs) = by (same_call w.call v.call) (list_any (λ (e : Ended). same_call e.waiter.call v.call) (map (answered_by answer) gone)) refl
    (any-last (λ e. same_call e.waiter.call v.call) (answered_by answer) gone w) (still-last answer gone w vs)
  where
    by : (a b : Bool) → list_any (λ (e : Ended). same_call e.waiter.call v.call) (map (answered_by answer) gone) ≡ b
        → list_any (λ (e : Ended). same_call e.waiter.call v.call) (map (answered_by answer) (gone ++ w ∷ [])) ≡ (a || list_any (λ (e : Ended). same_call e.waiter.call v.call) (map (answered_by answer) gone))
        → still_waiting (map (answered_by answer) (gone ++ w ∷ [])) vs ≡ still_waiting (map (answered_by answer) gone) (without_waiter w.call vs)
        → still_waiting (map (answered_by answer) (gone ++ w ∷ [])) (v ∷ vs) ≡ still_waiting (map (answered_by answer) gone) (if not a then v ∷ without_waiter w.call vs else without_waiter w.call vs)
    by true b e last rest = rw last rest
    by false true e last rest = rw (last, e) rest
    by false false e last rest = rw (last, e) (ap (λ (us : List Waiter). v ∷ us) rest)

-- who stands already can't come again
pub twice : (front : List Waiter) (w : Waiter) (behind : List Waiter) → stands w.call front ≡ true → ¬ CallsDiffer (front ++ w ∷ behind)
twice [] w behind h d = no_true (sym h)
twice (v ∷ vs) w behind h d = by (same_call w.call v.call) refl h (λ k. twice vs w behind k d.1)
  where
    among : (us : List Waiter) → same_call v.call w.call ≡ true → stands v.call (us ++ w ∷ behind) ≡ true
    among [] e = rw e refl
    among (u ∷ us) e = or-true (same_call v.call u.call) (among us e)
      where
        or-true : (b : Bool) → stands v.call (us ++ w ∷ behind) ≡ true → (b || stands v.call (us ++ w ∷ behind)) ≡ true
        or-true true h = refl
        or-true false h = h

    by : (b : Bool) → same_call w.call v.call ≡ b → (b || stands w.call vs) ≡ true → (stands w.call vs ≡ true → ⊥) → ⊥
    by true e h rest = no_true (sym (among vs (back w.call v.call e)) ∙ d.0)
    by false e h rest = rest h

pub leaves-last : (answer : Waiter → Answer) (gone : List Waiter) (n m : ℕ) (w : Waiter) (ws left : List Waiter) → m ≡ n + 1 → n < length gone → left ≡ without_waiter (get_or gone n w).call ws
    → still_waiting (map (answered_by answer) (take n gone)) left ≡ still_waiting (map (answered_by answer) (take m gone)) ws
leaves-last answer gone n m w ws left next there is = ap (λ (vs : List Waiter). still_waiting (map (answered_by answer) (take n gone)) vs) is
    ∙ sym (still-last answer (take n gone) (get_or gone n w) ws)
    ∙ ap (λ (us : List Waiter). still_waiting (map (answered_by answer) us) ws) (sym (ap (λ (k : ℕ). take k gone) next ∙ take_more gone n w there))

pub rows-fault : (e : RowsError) (front : List Waiter) (w : Waiter) (behind rows : List Waiter) → front ++ w ∷ behind ≡ rows → IsSeatFault e w front → IsRowsFault e rows
rows-fault rows.Repeated front w behind all is h = λ d. twice front w behind h (subst CallsDiffer (sym is) d)
rows-fault rows.TooMany front w behind all is h = let n : length (front ++ w ∷ behind) ≡ length front + length (w ∷ behind) = length-append front (w ∷ behind) in
    let m : length all ≡ length (front ++ w ∷ behind) = ap length (sym is) in omega arith
rows-fault rows.NoMemory front w behind all is h = tt
