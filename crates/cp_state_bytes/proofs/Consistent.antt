-- The rules as tests, and as what holds of a sound state.
use Rattle.std.proofs.Common.{◌≡◌, ℕ, ◌+◌, Bool, true, false, not, List, [], ◌∷◌, Option, Some, None, refl, ap, sym, ◌∙◌, subst, cond, arith, is_some}
use Rattle.std.specs.Prelude.{ℤ, pos, ◌+ℤ◌, ◌||◌, bytes_eq}
use Rattle.std.specs.List.{AllByRecursion, list_all, list_any}
use Rattle.std.specs.List.Sorted.{IsStrictlySortedBy}
use Rattle.std.specs.Map.{keys_of, values_of}
use Rattle.std.specs.declared.cmp.Ordering.{Ordering}
use Rattle.std.specs.declared.cmp.Ordering.TheVariants.{Less, Equal, Greater}
use Rattle.std.specs.Ordering.{nat_cmp, int_eq, is_eq, ordering_reverse}
use Rattle.std.specs.Cmp.{IsTotalOrder}
use Rattle.std.proofs.lemmas.Cmp.{nat_cmp_total}
use Rattle.std.proofs.lemmas.Int.{ints}
use Rattle.std.proofs.lemmas.Slice.Eq.{bytes_eq-Decides}
use Rattle.std.proofs.lemmas.List.Elements.{All-head, All-tail}
use Rattle.std.specs.BTreeMap.{is_at}
use Rattle.std.proofs.lemmas.Bool.{and_parts, and_from, not-true}
use Rattle.cp_op_values.specs.declared.kind.Kind.{Kind}
use Rattle.cp_op_values.specs.declared.kind.Kind.TheVariants as kind
use Rattle.cp_base.specs.declared.identifier.ClientId.{ClientId}
use Rattle.cp_base.proofs.Tests.{no_true}
use Rattle.cp_group_state.specs.declared.rows.SessionRow.{SessionRow}
use Rattle.cp_group_state.specs.declared.rows.LockRow.{LockRow}
use Rattle.cp_group_state.specs.declared.rows.SemaphoreRow.{SemaphoreRow}
use Rattle.cp_group_state.specs.declared.rows.Waiter.{Waiter}
use Rattle.cp_group_state.specs.Rows.{Named, Object, find, object_cmp, holding_cmp}
use Rattle.cp_group_state.specs.Waiters.{same_client, stands}
use Rattle.cp_group_state.specs.Sessions.{is_of, is_open_for}
use Rattle.cp_group_state.specs.Semaphores.{Semaphores, is_held}
use Rattle.cp_group_state.specs.Invariants.{IsRising, OneSession, CallsDiffer, IsBalanced, IsBalancedAt, HoldingsStand, IsHeldOrFree, LocksWell, held_by_all, held_of}
use Rattle.cp_group_state.proofs.Keyed.{IsKey, number_key, object_key, same-client, client-itself, equal_is}
use Rattle.cp_group_state.proofs.Rising.{less-none}
use Rattle.cp_group_state.proofs.Ordered.{object_total, holding_total, holding_key}
use Rattle.cp_group_state.specs.Locks.{is_free}
use Rattle.cp_lock.specs.Tables.{is_whole, are_whole}
use Rattle.cp_lock.proofs.Whole.{all_well}
use Rattle.cp_group_ranges.specs.Rows.{is_semaphore, LockFits}
use Rattle.cp_group_ranges.specs.States.{HasSemaphore}
use Rattle.cp_state_bytes.specs.Lists.{Holdings}
use Rattle.cp_state_bytes.proofs.Facts.{LockFields}
use Rattle.cp_state_bytes.specs.Rules.{clients_differ, calls_differ, are_balanced, holdings_stand, waiters_stand}

-- ---- no call has two waiters

pub calls_are : (ws : List Waiter) → calls_differ ws ≡ true → CallsDiffer ws
calls_are [] h = tt
calls_are (w ∷ ws) h = let two = and_parts (not (stands w.call ws)) (calls_differ ws) h in (not-true (stands w.call ws) two.0, calls_are ws two.1)

pub calls_pass : (ws : List Waiter) → CallsDiffer ws → calls_differ ws ≡ true
calls_pass [] h = refl
calls_pass (w ∷ ws) h = rw h.0 (calls_pass ws h.1)

-- ---- waiters have their semaphores

waits : (b : Bool) (found : Bool) → (not b || found) ≡ true → b ≡ true → found ≡ true
waits true found h is = h
waits false found h is = absurd (no_true (sym is))

passes : (b : Bool) (found : Bool) → (b ≡ true → found ≡ true) → (not b || found) ≡ true
passes true found h = h refl
passes false found h = refl

pub waiters_are : (rows : List (Object × SemaphoreRow)) (ws : List Waiter) → waiters_stand rows ws ≡ true → AllByRecursion (HasSemaphore rows) ws
waiters_are rows [] h = tt
waiters_are rows (w ∷ ws) h =
    let two = and_parts (not (is_semaphore w.kind) || is_some (find object_cmp rows (w.name, w.kind))) (waiters_stand rows ws) h in
    (λ is. waits (is_semaphore w.kind) (is_some (find object_cmp rows (w.name, w.kind))) two.0 is, waiters_are rows ws two.1)

pub waiters_pass : (rows : List (Object × SemaphoreRow)) (ws : List Waiter) → AllByRecursion (HasSemaphore rows) ws → waiters_stand rows ws ≡ true
waiters_pass rows [] h = refl
waiters_pass rows (w ∷ ws) h = and_from (not (is_semaphore w.kind) || is_some (find object_cmp rows (w.name, w.kind))) (waiters_stand rows ws) (passes (is_semaphore w.kind) (is_some (find object_cmp rows (w.name, w.kind))) h.0) (waiters_pass rows ws h.1)

-- ---- no client has two sessions

abbrev is_client : ClientId → List (ℕ × SessionRow) → Bool
is_client client rows = list_any (λ f. same_client client f.1.client) rows

-- a client whose session is open has a row
open_row : (rows : List (ℕ × SessionRow)) (n : ℕ) (client : ClientId) → is_open_for rows n client ≡ true → is_client client rows ≡ true
open_row [] n client h = absurd (no_true (sym h))
open_row (e ∷ es) n client h = by (is_at (nat_cmp n) e.0) h (λ k. open_row es n client k)
  where
    here : same_client e.1.client client ≡ true → is_client client (e ∷ es) ≡ true
    here its = let same = same-client e.1.client client its in
        let me : same_client client e.1.client ≡ true = subst (λ (c : ClientId). same_client client c ≡ true) (sym same) (client-itself client) in rw me refl

    later : (b : Bool) → is_client client es ≡ true → (b || is_client client es) ≡ true
    later true k = refl
    later false k = k

    by : (b : Bool) → is_of client (cond b (Some e.1) (find nat_cmp es n)) ≡ true → (is_open_for es n client ≡ true → is_client client es ≡ true) → is_client client (e ∷ es) ≡ true
    by true k rest = here k
    by false k rest = later (same_client client e.1.client) (rest k)

pub sessions_are : (rows : List (ℕ × SessionRow)) → clients_differ rows ≡ true → OneSession rows
sessions_are [] h a b client x y = absurd (no_true (sym x))
sessions_are (e ∷ es) h a b client x y = by (is_at (nat_cmp a) e.0) (is_at (nat_cmp b) e.0) refl refl x y (sessions_are es (and_parts (not (is_client e.1.client es)) (clients_differ es) h).1 a b client)
  where
    alone : is_client e.1.client es ≡ false
    alone = not-true (is_client e.1.client es) (and_parts (not (is_client e.1.client es)) (clients_differ es) h).0

    -- the client's other session can't be among the rest
    never : (n : ℕ) → same_client e.1.client client ≡ true → is_open_for es n client ≡ true → ⊥
    never n its k = no_true (sym (subst (λ (c : ClientId). is_client c es ≡ true) (sym (same-client e.1.client client its)) (open_row es n client k)) ∙ alone)

    by : (c d : Bool) → is_at (nat_cmp a) e.0 ≡ c → is_at (nat_cmp b) e.0 ≡ d → is_of client (cond c (Some e.1) (find nat_cmp es a)) ≡ true → is_of client (cond d (Some e.1) (find nat_cmp es b)) ≡ true
        → (is_open_for es a client ≡ true → is_open_for es b client ≡ true → a ≡ b) → a ≡ b
    by true true c d k l rest = number_key.same a e.0 (equal_is (nat_cmp a e.0) c) ∙ sym (number_key.same b e.0 (equal_is (nat_cmp b e.0) d))
    by true false c d k l rest = absurd (never b k l)
    by false true c d k l rest = absurd (never a l k)
    by false false c d k l rest = rest k l

-- what is open among the rest is open among all
lifted : (e : ℕ × SessionRow) (es : List (ℕ × SessionRow)) (n : ℕ) (client : ClientId) → AllByRecursion (λ y. nat_cmp e.0 y ≡ Less) (keys_of es) → is_open_for es n client ≡ true → is_open_for (e ∷ es) n client ≡ true
lifted e es n client above h = by (is_at (nat_cmp n) e.0) refl
  where
    gone : n ≡ e.0 → ⊥
    gone same = let none : find nat_cmp es n ≡ None = ap (find nat_cmp es) same ∙ less-none nat_cmp number_key nat_cmp_total e.0 es above in
        no_true (sym h ∙ ap (is_of client) none)

    by : (c : Bool) → is_at (nat_cmp n) e.0 ≡ c → is_of client (cond c (Some e.1) (find nat_cmp es n)) ≡ true
    by true c = absurd (gone (number_key.same n e.0 (equal_is (nat_cmp n e.0) c)))
    by false c = h

row_open : (rows : List (ℕ × SessionRow)) (client : ClientId) → IsRising nat_cmp rows → is_client client rows ≡ true → (n : ℕ) × (is_open_for rows n client ≡ true)
unfolding IsStrictlySortedBy
row_open [] client rising h = absurd (no_true (sym h))
row_open (f ∷ fs) client rising h = by (same_client client f.1.client) refl h (row_open fs client rising.1)
  where
    mine : same_client client f.1.client ≡ true → is_open_for (f ∷ fs) f.0 client ≡ true
    mine its = let same = same-client client f.1.client its in
        let me : same_client f.1.client client ≡ true = subst (λ (c : ClientId). same_client c client ≡ true) same (client-itself client) in
        rw (number_key.here f.0) me

    by : (c : Bool) → same_client client f.1.client ≡ c → (c || is_client client fs) ≡ true → (is_client client fs ≡ true → (n : ℕ) × (is_open_for fs n client ≡ true)) → (n : ℕ) × (is_open_for (f ∷ fs) n client ≡ true)
    by true its k rest = (f.0, mine its)
    by false its k rest = let r = rest k in (r.0, lifted f fs r.0 client rising.0 r.1)

pub sessions_pass : (rows : List (ℕ × SessionRow)) → IsRising nat_cmp rows → OneSession rows → clients_differ rows ≡ true
unfolding IsStrictlySortedBy
sessions_pass [] rising one = refl
sessions_pass (e ∷ es) rising one = and_from (not (is_client e.1.client es)) (clients_differ es) (by (is_client e.1.client es) refl)
    (sessions_pass es rising.1 (λ a b client x y. one a b client (lifted e es a client rising.0 x) (lifted e es b client rising.0 y)))
  where
    first : is_open_for (e ∷ es) e.0 e.1.client ≡ true
    first = rw (number_key.here e.0) (client-itself e.1.client)

    never : is_client e.1.client es ≡ true → ⊥
    never there =
        let other = row_open es e.1.client rising.1 there in
        let same : e.0 ≡ other.0 = one e.0 other.0 e.1.client first (lifted e es other.0 e.1.client rising.0 other.1) in
        let none : find nat_cmp es other.0 ≡ None = ap (find nat_cmp es) (sym same) ∙ less-none nat_cmp number_key nat_cmp_total e.0 es rising.0 in
        no_true (sym other.1 ∙ ap (is_of e.1.client) none)

    by : (c : Bool) → is_client e.1.client es ≡ c → not c ≡ true
    by true there = absurd (never there)
    by false there = refl

-- ---- permits are balanced

same_int : (a b : ℤ) → int_eq a b ≡ true → a ≡ b
same_int a b h = grind (arith, ints)

is_same_int : (a b : ℤ) → a ≡ b → int_eq a b ≡ true
is_same_int a b h = grind (arith, ints)

some_true : {X : Type 0} (o : Option X) → o ≡ None → is_some o ≡ true → ⊥
some_true None h k = no_true (sym k)
some_true (Some x) h k = cc

held_sem : (k : Kind) → is_held k ≡ true → k ≡ kind.Sem
held_sem kind.Long h = absurd (no_true (sym h))
held_sem kind.Ref h = absurd (no_true (sym h))
held_sem kind.Lock h = absurd (no_true (sym h))
held_sem kind.Sem h = refl
held_sem kind.Jsem h = absurd (no_true (sym h))
held_sem kind.Latch h = absurd (no_true (sym h))
held_sem kind.Map h = absurd (no_true (sym h))

none_held : (rows : List (Object × SemaphoreRow)) (name : List ℕ) (holdings : Holdings) → find object_cmp rows (name, kind.Sem) ≡ None → list_all (λ e. is_some (find object_cmp rows (e.0.1, kind.Sem))) holdings ≡ true → held_by_all name holdings ≡ 0
none_held rows name [] none h = refl
none_held rows name (e ∷ es) none h = by (bytes_eq name e.0.1) refl (none_held rows name es none (and_parts (is_some (find object_cmp rows (e.0.1, kind.Sem))) (list_all (λ x. is_some (find object_cmp rows (x.0.1, kind.Sem))) es) h).1)
  where
    stands : is_some (find object_cmp rows (e.0.1, kind.Sem)) ≡ true
    stands = (and_parts (is_some (find object_cmp rows (e.0.1, kind.Sem))) (list_all (λ x. is_some (find object_cmp rows (x.0.1, kind.Sem))) es) h).0

    by : (c : Bool) → bytes_eq name e.0.1 ≡ c → held_by_all name es ≡ 0 → cond c e.1 0 + held_by_all name es ≡ 0
    by true its rest = absurd (some_true (find object_cmp rows (e.0.1, kind.Sem)) (subst (λ (n : List ℕ). find object_cmp rows (n, kind.Sem) ≡ None) ((bytes_eq-Decides name e.0.1).0 its) none) stands)
    by false its rest = omega (arith, rest)

balanced_at : (rows : List (Object × SemaphoreRow)) (holdings : Holdings) (key : Object) → list_all (λ e. int_eq e.1.total (e.1.available +ℤ pos (held_of e.0 holdings))) rows ≡ true
    → (find object_cmp rows key ≡ None → held_of key holdings ≡ 0) → IsBalancedAt (find object_cmp rows key) (held_of key holdings)
balanced_at [] holdings key h none = none refl
balanced_at (e ∷ es) holdings key h none = by (object_cmp key e.0) refl none (balanced_at es holdings key two.1)
  where
    two : (int_eq e.1.total (e.1.available +ℤ pos (held_of e.0 holdings)) ≡ true) × (list_all (λ x. int_eq x.1.total (x.1.available +ℤ pos (held_of x.0 holdings))) es ≡ true)
    two = and_parts (int_eq e.1.total (e.1.available +ℤ pos (held_of e.0 holdings))) (list_all (λ x. int_eq x.1.total (x.1.available +ℤ pos (held_of x.0 holdings))) es) h

    here : key ≡ e.0 → e.1.total ≡ e.1.available +ℤ pos (held_of key holdings)
    here same = subst (λ (k : Object). e.1.total ≡ e.1.available +ℤ pos (held_of k holdings)) (sym same) (same_int e.1.total (e.1.available +ℤ pos (held_of e.0 holdings)) two.0)

    by : (o : Ordering) → object_cmp key e.0 ≡ o → (cond (is_eq o) (Some e.1) (find object_cmp es key) ≡ None → held_of key holdings ≡ 0)
        → ((find object_cmp es key ≡ None → held_of key holdings ≡ 0) → IsBalancedAt (find object_cmp es key) (held_of key holdings))
        → IsBalancedAt (cond (is_eq o) (Some e.1) (find object_cmp es key)) (held_of key holdings)
    by Less o none rest = rest none
    by Equal o none rest = here (object_key.same key e.0 o)
    by Greater o none rest = rest none

pub balanced_are : (s : Semaphores) → are_balanced s ≡ true → holdings_stand s ≡ true → IsBalanced s
balanced_are s h stand key = balanced_at s.rows s.holdings key h (λ none. by (is_held key.1) refl none)
  where
    by : (c : Bool) → is_held key.1 ≡ c → find object_cmp s.rows key ≡ None → cond c (held_by_all key.0 s.holdings) 0 ≡ 0
    by true its none = none_held s.rows key.0 s.holdings (subst (λ (k : Kind). find object_cmp s.rows (key.0, k) ≡ None) (held_sem key.1 its) none) stand
    by false its none = refl

-- each row is found under its key
module _ {K X : Type 0} (cmp : K → K → Ordering) (key : IsKey cmp) (total : IsTotalOrder cmp) where
  found_later : (e : K × X) (es front : List (K × X)) → AllByRecursion (λ y. cmp e.0 y ≡ Less) (keys_of front) → AllByRecursion (λ (f : K × X). find cmp es f.0 ≡ Some f.1) front → AllByRecursion (λ (f : K × X). find cmp (e ∷ es) f.0 ≡ Some f.1) front
  found_later e es [] above all = tt
  found_later e es (f ∷ fs) above all = (rw (total.antisymm f.0 e.0 ∙ ap ordering_reverse above.0) all.0, found_later e es fs above.1 all.1)

  pub each_found : (rows : List (K × X)) → IsRising cmp rows → AllByRecursion (λ (e : K × X). find cmp rows e.0 ≡ Some e.1) rows
  unfolding IsStrictlySortedBy
  each_found [] rising = tt
  each_found (e ∷ es) rising = (rw (key.here e.0) refl, found_later e es es rising.0 (each_found es rising.1))

balanced_each : (s : Semaphores) (rows : List (Object × SemaphoreRow)) → IsBalanced s → AllByRecursion (λ (e : Object × SemaphoreRow). find object_cmp s.rows e.0 ≡ Some e.1) rows → list_all (λ e. int_eq e.1.total (e.1.available +ℤ pos (held_of e.0 s.holdings))) rows ≡ true
balanced_each s [] b all = refl
balanced_each s (e ∷ es) b all =
    let its : e.1.total ≡ e.1.available +ℤ pos (held_of e.0 s.holdings) = subst (λ (o : Option SemaphoreRow). IsBalancedAt o (held_of e.0 s.holdings)) all.0 (b e.0) in
    and_from (int_eq e.1.total (e.1.available +ℤ pos (held_of e.0 s.holdings))) (list_all (λ x. int_eq x.1.total (x.1.available +ℤ pos (held_of x.0 s.holdings))) es) (is_same_int e.1.total (e.1.available +ℤ pos (held_of e.0 s.holdings)) its) (balanced_each s es b all.1)

pub balanced_pass : (s : Semaphores) → IsRising object_cmp s.rows → IsBalanced s → are_balanced s ≡ true
balanced_pass s rising b = balanced_each s s.rows b (each_found object_cmp object_key object_total s.rows rising)

holdings_each : (s : Semaphores) (holdings : Holdings) → HoldingsStand s → AllByRecursion (λ (e : (ℕ × List ℕ) × ℕ). find holding_cmp s.holdings e.0 ≡ Some e.1) holdings → list_all (λ e. is_some (find object_cmp s.rows (e.0.1, kind.Sem))) holdings ≡ true
holdings_each s [] h all = refl
holdings_each s (e ∷ es) h all = and_from (is_some (find object_cmp s.rows (e.0.1, kind.Sem))) (list_all (λ x. is_some (find object_cmp s.rows (x.0.1, kind.Sem))) es) (h e.0.0 e.0.1 e.1 all.0).1 (holdings_each s es h all.1)

pub holdings_pass : (s : Semaphores) → IsRising holding_cmp s.holdings → HoldingsStand s → holdings_stand s ≡ true
holdings_pass s rising h = holdings_each s s.holdings h (each_found holding_cmp holding_key holding_total s.holdings rising)

-- ---- locks are held, or free

pub locks_are : (rows : Named LockRow) → AllByRecursion LockFields rows → are_whole rows ≡ true → AllByRecursion LockFits rows
locks_are rows fields h = each_lock rows fields (all_well rows h)
  where
    each_lock : (rows : Named LockRow) → AllByRecursion LockFields rows → LocksWell rows → AllByRecursion LockFits rows
    each_lock [] fields well = tt
    each_lock (e ∷ es) fields well = (fields.0.fits (All-head IsHeldOrFree e.1 (values_of es) well), each_lock es fields.1 (All-tail IsHeldOrFree e.1 (values_of es) well))

lock_passes : (row : LockRow) → IsHeldOrFree row → is_whole row ≡ true
lock_passes row h = by (is_free row) refl
  where
    by : (b : Bool) → is_free row ≡ b → is_whole row ≡ true
    by true f = rw (h f) refl
    by false f = rw f refl

pub locks_pass : (rows : Named LockRow) → AllByRecursion LockFits rows → are_whole rows ≡ true
locks_pass [] all = refl
locks_pass (e ∷ es) all = and_from (is_whole e.1) (are_whole es) (lock_passes e.1 all.0.held_or_free) (locks_pass es all.1)
