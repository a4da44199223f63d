-- How many holdings and memory rows there are.
use Rattle.std.proofs.Common.{◌≡◌, ℕ, suc, ◌+◌, ◌*◌, ◌<◌, ◌≤◌, Bool, true, false, not, ◌||◌, List, [], ◌∷◌, length, Some, None, Option, refl, ap, sym, ◌∙◌, subst, arith, is_some, cond, if◌then◌else◌}
use Rattle.std.specs.Prelude.{◌==◌, ◌^◌, bytes_eq, unwrap_or}
use Rattle.std.specs.List.{filter, list_any, AllByRecursion}
use Rattle.std.specs.List.Sorted.{IsStrictlySortedBy}
use Rattle.std.specs.declared.cmp.Ordering.{Ordering}
use Rattle.std.specs.declared.cmp.Ordering.TheVariants.{Less, Equal}
use Rattle.std.specs.Ordering.{nat_cmp, ordering_then}
use Rattle.std.specs.BTreeMap.{is_at}
use Rattle.std.proofs.lemmas.Bool.Decides.{nat_tests}
use Rattle.std.proofs.lemmas.Slice.Eq.{bytes_eq-Decides}
use Rattle.std.proofs.lemmas.List.Filters.{length-filter_both}
use Rattle.cp_base.proofs.Tests.{same_number, no_true}
use Rattle.cp_ops.specs.declared.entry.Entry.{Entry}
use Rattle.cp_ops.specs.Entries.{entry_grammar}
use Rattle.cp_op_values.specs.declared.kind.Kind.TheVariants as kind
use Rattle.cp_group_state.specs.declared.rows.MemoryRow.{MemoryRow}
use Rattle.cp_group_state.specs.declared.rows.SessionRow.{SessionRow}
use Rattle.cp_group_state.specs.declared.rows.SemaphoreRow.{SemaphoreRow}
use Rattle.cp_group_state.specs.Rows.{Object, find, most, object_cmp, holding_cmp, holder_cmp}
use Rattle.cp_group_state.specs.GroupState.{GroupState, empty}
use Rattle.cp_group_state.specs.Apply.{Applied, apply, run}
use Rattle.cp_group_state.specs.History.{History}
use Rattle.cp_group_state.specs.Invariants.{IsRising, IsBalancedAt, HoldingsStand, held_by_all}
use Rattle.cp_group_state.proofs.Keyed.{equal_is, pair_same, number_key, holder_key, object_key}
use Rattle.cp_group_state.proofs.Walk.{cases}
use Rattle.cp_group_state.proofs.Rising.{rising-filter}
use Rattle.cp_group_state.proofs.Ordered.{holding_key, holding_total}
use Rattle.cp_group_ranges.specs.Rows.{HoldingFits, MemoryFits}
use Rattle.cp_group_ranges.specs.States.{IsSound}
use Rattle.cp_group_ranges.specs.Owners.{IsOpen, IsOwned, IsCounted}
use Rattle.cp_group_ranges.proofs.Listed.{each-filter, each-weaker, each-both, each-find, each-own, keys-each, or-right}
use Rattle.cp_group_ranges.proofs.Permits.{held-part}
use Rattle.cp_group_ranges.proofs.Calls.{holder_total}
use Rattle.cp_group_ranges.proofs.Sound.{sound-apply, sound-empty}
use Rattle.cp_group_ranges.proofs.Owners.{own-apply, own-empty}

-- ---- a holding's semaphore is there

pub holdings-stand : (s : GroupState) → IsSound s → HoldingsStand s.semaphores
holdings-stand s h session name n is = (positive, there (find object_cmp s.semaphores.rows (name, kind.Sem)) (h.balanced (name, kind.Sem)))
  where
    from-one : (n : ℕ) → HoldingFits ((session, name), n) → 0 < n
    from-one n p = let least = p.permits.1 in grind (arith, nat_tests, least)

    positive : 0 < n
    positive = from-one n (each-find holding_cmp holding_key holding_total HoldingFits s.semaphores.holdings (session, name) n h.fits.holdings is)

    part : n ≤ held_by_all name s.semaphores.holdings
    part = subst (λ (o : Option ℕ). unwrap_or o 0 ≤ held_by_all name s.semaphores.holdings) is (held-part session name s.semaphores.holdings)

    there : (o : Option SemaphoreRow) → IsBalancedAt o (held_by_all name s.semaphores.holdings) → is_some o ≡ true
    there None none = absurd (omega (arith, positive, part, none))
    there (Some row) b = refl

-- ---- rows that each belong to one of some keys

-- Where few rows belong to each key, few belong to all keys together. What is said of the rows must hold of any part of them.
module _ {K X : Type 0} (of : K → X → Bool) (Ok : List X → Type 0) (part : (test : X → Bool) (xs : List X) → Ok xs → Ok (filter test xs)) (b : ℕ)
    (few : (k : K) (xs : List X) → Ok xs → AllByRecursion (λ (x : X). of k x ≡ true) xs → length xs ≤ b) where
  none-of : (xs : List X) → AllByRecursion (λ (x : X). list_any (λ (k : K). of k x) [] ≡ true) xs → length xs ≤ 0
  none-of [] h = omega arith
  none-of (x ∷ xs) h = absurd (no_true (sym h.0))

  passing : (test : X → Bool) (xs : List X) → AllByRecursion (λ (x : X). test x ≡ true) (filter test xs)
  passing test [] = tt
  passing test (x ∷ xs) = cases (AllByRecursion (λ (x : X). test x ≡ true)) (test x) (x ∷ filter test xs) (filter test xs) (λ e. (e, passing test xs)) (λ e. passing test xs)

  others : (k : K) (ks : List K) (xs : List X) → AllByRecursion (λ (x : X). list_any (λ (k : K). of k x) (k ∷ ks) ≡ true) xs → AllByRecursion (λ (x : X). list_any (λ (k : K). of k x) ks ≡ true) (filter (λ x. not (of k x)) xs)
  others k ks [] h = tt
  others k ks (x ∷ xs) h = let rest = others k ks xs h.1 in
      by (of k x) h.0 rest
    where
      by : (c : Bool) → (c || list_any (λ (k : K). of k x) ks) ≡ true → AllByRecursion (λ (x : X). list_any (λ (k : K). of k x) ks ≡ true) (filter (λ x. not (of k x)) xs)
          → AllByRecursion (λ (x : X). list_any (λ (k : K). of k x) ks ≡ true) (if (not c) then x ∷ filter (λ x. not (of k x)) xs else filter (λ x. not (of k x)) xs)
      by true h rest = rest
      by false h rest = (h, rest)

  pub all-few : (ks : List K) (xs : List X) → Ok xs → AllByRecursion (λ (x : X). list_any (λ (k : K). of k x) ks ≡ true) xs → length xs ≤ b * length ks
  all-few [] xs ok h = let none = none-of xs h in omega (arith, none)
  all-few (k ∷ ks) xs ok h =
      let mine = few k (filter (of k) xs) (part (of k) xs ok) (passing (of k) xs) in
      let rest = all-few ks (filter (λ x. not (of k x)) xs) (part (λ x. not (of k x)) xs ok) (others k ks xs h) in
      let sums = length-filter_both (of k) (λ x. not (of k x)) (λ x. refl) xs in
      omega (arith, mine, rest, sums)

-- ---- memory rows

same_test : (a b : ℕ) → a ≡ b → (a == b) ≡ true
same_test a b e = grind (arith, nat_tests)

less_of : (a b : ℕ) → nat_cmp a b ≡ Less → a < b
less_of a b e = grind (arith, nat_tests)

-- the session of a row
abbrev of_memory : ℕ × SessionRow → (ℕ × ℕ) × MemoryRow → Bool
of_memory r e = r.0 == e.0.0

session-found : (rows : List (ℕ × SessionRow)) (n : ℕ) → IsOpen rows n → list_any (λ (r : ℕ × SessionRow). r.0 == n) rows ≡ true
session-found [] n h = h
session-found (r ∷ rs) n h = by (is_at (nat_cmp n) r.0) refl h (session-found rs n)
  where
    by : (c : Bool) → is_at (nat_cmp n) r.0 ≡ c → is_some (cond c (Some r.1) (find nat_cmp rs n)) ≡ true → (IsOpen rs n → list_any (λ (r : ℕ × SessionRow). r.0 == n) rs ≡ true) → ((r.0 == n) || list_any (λ (r : ℕ × SessionRow). r.0 == n) rs) ≡ true
    by true e h rest = rw (same_test r.0 n (sym (number_key.same n r.0 (equal_is _ e))))
    by false e h rest = or-right (r.0 == n) _ (rest h)

thread-less : (a b : ℕ × ℕ) → holder_cmp a b ≡ Less → a.0 ≡ b.0 → a.1 < b.1
thread-less a b e same = less_of a.1 b.1 (sym (ap (λ (o : Ordering). ordering_then o (nat_cmp a.1 b.1)) (ap (λ (n : ℕ). nat_cmp a.0 n) (sym same) ∙ number_key.here a.0)) ∙ e)

-- a session's threads rise
threads : (session low : ℕ) (m : List ((ℕ × ℕ) × MemoryRow)) → low ≤ 9 → IsRising holder_cmp m → AllByRecursion (λ (e : (ℕ × ℕ) × MemoryRow). session ≡ e.0.0) m → AllByRecursion (λ (e : (ℕ × ℕ) × MemoryRow). e.0.1 ≤ 8) m
    → AllByRecursion (λ (e : (ℕ × ℕ) × MemoryRow). low ≤ e.0.1) m → length m + low ≤ 9
unfolding IsStrictlySortedBy
threads session low [] few r same most above = omega (arith, few)
threads session low (x ∷ xs) few r same most above =
    let later = each-weaker (λ (e : (ℕ × ℕ) × MemoryRow). (holder_cmp x.0 e.0 ≡ Less) × (session ≡ e.0.0)) (λ (e : (ℕ × ℕ) × MemoryRow). suc x.0.1 ≤ e.0.1) (λ e p. thread-less x.0 e.0 p.0 (sym same.0 ∙ p.1)) xs
    (each-both (λ (e : (ℕ × ℕ) × MemoryRow). holder_cmp x.0 e.0 ≡ Less) (λ (e : (ℕ × ℕ) × MemoryRow). session ≡ e.0.0) xs (keys-each holder_cmp holder_key holder_total (λ (k : ℕ × ℕ). holder_cmp x.0 k ≡ Less) xs r.0) same.1) in
    let rest = threads session (suc x.0.1) xs (let top = most.0 in omega (arith, top)) r.1 same.1 most.1 later in
    let least = above.0 in omega (arith, rest, least)

abbrev MemoryOk : List ((ℕ × ℕ) × MemoryRow) → Type 0
MemoryOk m = IsRising holder_cmp m × AllByRecursion (λ (e : (ℕ × ℕ) × MemoryRow). e.0.1 ≤ 8) m

memory-few : (k : ℕ × SessionRow) (m : List ((ℕ × ℕ) × MemoryRow)) → MemoryOk m → AllByRecursion (λ (e : (ℕ × ℕ) × MemoryRow). of_memory k e ≡ true) m → length m ≤ 9
memory-few k m ok h = let all = threads k.0 0 m (omega arith) ok.0 (each-weaker (λ (e : (ℕ × ℕ) × MemoryRow). of_memory k e ≡ true) (λ (e : (ℕ × ℕ) × MemoryRow). k.0 ≡ e.0.0) (λ e x. same_number k.0 e.0.0 x) m h) ok.1
    (each-weaker (λ (e : (ℕ × ℕ) × MemoryRow). e.0.1 ≤ 8) (λ (e : (ℕ × ℕ) × MemoryRow). 0 ≤ e.0.1) (λ e x. omega arith) m ok.1) in omega (arith, all)

memory-counted : (s : GroupState) → IsSound s → IsOwned s → length s.memory ≤ 90000
memory-counted s h o = let all = all-few of_memory MemoryOk (λ test m ok. (rising-filter holder_cmp holder_key holder_total test m ok.0, each-filter (λ (e : (ℕ × ℕ) × MemoryRow). e.0.1 ≤ 8) test m ok.1)) 9 memory-few s.sessions s.memory
    (h.ordered.memory, each-weaker MemoryFits (λ (e : (ℕ × ℕ) × MemoryRow). e.0.1 ≤ 8) (λ e p. p.thread) s.memory h.fits.memory)
    (each-weaker (λ (e : (ℕ × ℕ) × MemoryRow). IsOpen s.sessions e.0.0) (λ (e : (ℕ × ℕ) × MemoryRow). list_any (λ (r : ℕ × SessionRow). of_memory r e) s.sessions ≡ true) (λ e there. session-found s.sessions e.0.0 there) s.memory o.memory) in
    let few = h.fits.limits.sessions in omega (arith, all, few)

-- ---- holdings

abbrev of_session : ℕ × SessionRow → (ℕ × List ℕ) × ℕ → Bool
of_session r e = r.0 == e.0.0

abbrev of_semaphore : Object × SemaphoreRow → (ℕ × List ℕ) × ℕ → Bool
of_semaphore r e = bytes_eq r.0.0 e.0.1

-- the semaphore of a holding
abbrev HasRow : List (Object × SemaphoreRow) → (ℕ × List ℕ) × ℕ → Type 0
HasRow rows e = list_any (λ (r : Object × SemaphoreRow). of_semaphore r e) rows ≡ true

semaphore-found : (rows : List (Object × SemaphoreRow)) (name : List ℕ) → is_some (find object_cmp rows (name, kind.Sem)) ≡ true → list_any (λ (r : Object × SemaphoreRow). bytes_eq r.0.0 name) rows ≡ true
semaphore-found [] name h = h
semaphore-found (r ∷ rs) name h = by (is_at (object_cmp (name, kind.Sem)) r.0) refl h (semaphore-found rs name)
  where
    by : (c : Bool) → is_at (object_cmp (name, kind.Sem)) r.0 ≡ c → is_some (cond c (Some r.1) (find object_cmp rs (name, kind.Sem))) ≡ true
        → (is_some (find object_cmp rs (name, kind.Sem)) ≡ true → list_any (λ (r : Object × SemaphoreRow). bytes_eq r.0.0 name) rs ≡ true) → (bytes_eq r.0.0 name || list_any (λ (r : Object × SemaphoreRow). bytes_eq r.0.0 name) rs) ≡ true
    by true e h rest = rw ((bytes_eq-Decides r.0.0 name).1 (sym (ap (λ (k : Object). k.0) (object_key.same (name, kind.Sem) r.0 (equal_is _ e)))))
    by false e h rest = or-right (bytes_eq r.0.0 name) _ (rest h)

abbrev SessionOk : ℕ → List ((ℕ × List ℕ) × ℕ) → Type 0
SessionOk session h = IsRising holding_cmp h × AllByRecursion (λ (e : (ℕ × List ℕ) × ℕ). session ≡ e.0.0) h

-- a session has one holding of a semaphore
one-holding : (session : ℕ) (k : Object × SemaphoreRow) (h : List ((ℕ × List ℕ) × ℕ)) → SessionOk session h → AllByRecursion (λ (e : (ℕ × List ℕ) × ℕ). of_semaphore k e ≡ true) h → length h ≤ 1
unfolding IsStrictlySortedBy
one-holding session k [] ok h = omega arith
one-holding session k (x ∷ []) ok h = omega arith
one-holding session k (x ∷ y ∷ zs) ok h = absurd (less_equal (sym ok.0.0.0 ∙ ap (λ (q : ℕ × List ℕ). holding_cmp x.0 q) (sym same) ∙ holding_key.here x.0))
  where
    less_equal : Less ≡ Equal → ⊥
    less_equal e = cc

    same : x.0 ≡ y.0
    same = pair_same x.0 y.0 (sym ok.1.0 ∙ ok.1.1.0) (sym ((bytes_eq-Decides k.0.0 x.0.1).0 h.0) ∙ (bytes_eq-Decides k.0.0 y.0.1).0 h.1.0)

module _ (rows : List (Object × SemaphoreRow)) where
  abbrev HoldingsOk : List ((ℕ × List ℕ) × ℕ) → Type 0
  HoldingsOk h = IsRising holding_cmp h × AllByRecursion (HasRow rows) h

  session-few : (k : ℕ × SessionRow) (h : List ((ℕ × List ℕ) × ℕ)) → length rows ≤ most → HoldingsOk h → AllByRecursion (λ (e : (ℕ × List ℕ) × ℕ). of_session k e ≡ true) h → length h ≤ most
  session-few k h few ok all = let mine = all-few of_semaphore (SessionOk k.0) (λ test xs p. (rising-filter holding_cmp holding_key holding_total test xs p.0, each-filter (λ (e : (ℕ × List ℕ) × ℕ). k.0 ≡ e.0.0) test xs p.1)) 1 (one-holding k.0) rows h
      (ok.0, each-weaker (λ (e : (ℕ × List ℕ) × ℕ). of_session k e ≡ true) (λ (e : (ℕ × List ℕ) × ℕ). k.0 ≡ e.0.0) (λ e x. same_number k.0 e.0.0 x) h all) ok.1 in omega (arith, mine, few)

holdings-counted : (s : GroupState) → IsSound s → IsOwned s → length s.semaphores.holdings ≤ 100000000
holdings-counted s h o =
    let rows = s.semaphores.rows in
    let few = h.fits.limits.semaphores in
    let named = each-weaker (λ (e : (ℕ × List ℕ) × ℕ). find holding_cmp s.semaphores.holdings e.0 ≡ Some e.1) (HasRow rows) (λ e is. semaphore-found rows e.0.1 (holdings-stand s h e.0.0 e.0.1 e.1 is).1) s.semaphores.holdings
    (each-own holding_cmp holding_key holding_total s.semaphores.holdings h.ordered.holdings) in
    let all = all-few of_session (HoldingsOk rows) (λ test xs p. (rising-filter holding_cmp holding_key holding_total test xs p.0, each-filter (HasRow rows) test xs p.1)) most (λ k xs ok x. session-few rows k xs few ok x) s.sessions s.semaphores.holdings
    (h.ordered.holdings, named)
    (each-weaker (λ (e : (ℕ × List ℕ) × ℕ). IsOpen s.sessions e.0.0) (λ (e : (ℕ × List ℕ) × ℕ). list_any (λ (r : ℕ × SessionRow). of_session r e) s.sessions ≡ true) (λ e there. session-found s.sessions e.0.0 there) s.semaphores.holdings o.holdings) in
    let open_few = h.fits.limits.sessions in omega (arith, all, open_few)

pub counted : (s : GroupState) → IsSound s → IsOwned s → IsCounted s
counted s h o = record { holdings = holdings-counted s h o; memory = memory-counted s h o }

-- ---- a history

counted-run : (es : List Entry) (i : ℕ) (s : GroupState) → i + length es ≤ 2 ^ 62 + 1 → AllByRecursion entry_grammar.Fits es → IsSound s → IsOwned s → AllByRecursion (λ (x : Applied). IsCounted x.state) (run i es s)
counted-run [] i s few f h o = tt
counted-run (e ∷ es) i s few f h o = let step = sound-apply i e s (omega (arith, few)) f.0 h in let own = own-apply i e s o in
    (counted (apply i e s).state step.state own, counted-run es (i + 1) (apply i e s).state (omega (arith, few)) f.1 step.state own)

pub counted-history : (history : History) → length history ≤ 2 ^ 62 → AllByRecursion entry_grammar.Fits history → AllByRecursion (λ (x : Applied). IsCounted x.state) (run 1 history empty)
counted-history history few f = counted-run history 1 empty (omega (arith, few)) f sound-empty own-empty
