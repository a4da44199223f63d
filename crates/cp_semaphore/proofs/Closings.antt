-- What a session held is gone from the list, and tables stay sound when sessions close.
use Rattle.std.proofs.Common.{◌≡◌, ◌+◌, ◌^◌, ◌<◌, ◌≤◌, ℕ, Bool, true, false, not, ◌&&◌, ◌||◌, List, [], ◌∷◌, map, sum, length, Option, Some, None, refl, ap, sym, ◌∙◌, subst, arith}
use Rattle.std.specs.Prelude.{◌==◌, ℤ, pos, neg_ℤ, ◌+ℤ◌, ◌≤ℤ◌, unwrap_or, if◌then◌else◌, bytes_eq}
use Rattle.std.specs.BTreeMap.{BTreeMap, is_at}
use Rattle.std.specs.Ordering.{nat_cmp}
use Rattle.std.specs.List.{filter}
use Rattle.std.specs.List.Sorted.{IsStrictlySortedBy}
use Rattle.std.proofs.lemmas.Int.{ints}
use Rattle.std.proofs.lemmas.List.Sums.{sum_by-cons}
use Rattle.std.proofs.lemmas.Bool.Decides.{nat_tests}
use Rattle.std.proofs.Math.IntN.{+ℤ_assoc, pos-+ℤ-pos}
use Rattle.cp_base.proofs.Tests.{no_true}
use Rattle.cp_group_state.specs.Rows.{Object, find, most, object_cmp, holding_cmp}
use Rattle.cp_group_state.specs.Sessions.{is_among}
use Rattle.cp_group_state.specs.Semaphores.{Semaphores, is_held, held, held_together, with_back, all_back}
use Rattle.cp_group_state.specs.Invariants.{IsBalanced, IsBalancedAt, held_by_all, held_of}
use Rattle.cp_group_state.specs.declared.rows.SemaphoreRow.{SemaphoreRow}
use Rattle.cp_group_state.proofs.Keyed.{equal_is, number_key, find-filter_kept, find-filter_gone}
use Rattle.cp_group_state.proofs.Rising.{rising-filter}
use Rattle.cp_group_state.proofs.Ordered.{holding_total, holding_key, keys-map}
use Rattle.cp_semaphore.specs.Nested.{Nested, flat, found_in, IsNested, ClosesSession}
use Rattle.cp_semaphore.specs.Tables.{seen, IsWithin, RowsWithin, IsSound, IsTable}
use Rattle.cp_semaphore.specs.Backs.{back_each}
use Rattle.cp_semaphore.specs.declared.tables.Tables.{Tables}
use Rattle.cp_semaphore.proofs.Extensional.{same_rows}
use Rattle.cp_semaphore.proofs.Flattening.{flat-found, flat-rises, held-flat}
use Rattle.cp_semaphore.proofs.Together.{Holdings, one-together}
use Rattle.cp_semaphore.proofs.Backing.{backs, back_row, find-mapped, back-one-session, back-more}
use Rattle.cp_semaphore.proofs.Rooms.{held-amount}

-- the holdings without a session
flip-test : (a b : ℕ) → is_at (nat_cmp a) b ≡ ((a == b) || false)
flip-test a b = by (is_at (nat_cmp a) b) ((a == b) || false) refl refl
  where
    or-none : (x : Bool) → (x || false) ≡ x
    or-none true = refl
    or-none false = refl

    itself : (x : ℕ) → (x == x) ≡ true
    itself x = grind (arith, nat_tests)

    same : (x y : ℕ) → (x == y) ≡ true → x ≡ y
    same x y h = grind (arith, nat_tests)

    by : (c d : Bool) → is_at (nat_cmp a) b ≡ c → ((a == b) || false) ≡ d → c ≡ d
    by true true i j = refl
    by false false i j = refl
    by true false i j = let e : a ≡ b = number_key.same a b (equal_is _ i) in
        absurd (no_true (sym (subst (λ (x : ℕ). (a == x) ≡ true) e (itself a)) ∙ (sym (or-none (a == b)) ∙ j)))
    by false true i j = let e : a ≡ b = same a b (sym (or-none (a == b)) ∙ j) in
        absurd (no_true (sym (subst (λ (x : ℕ). is_at (nat_cmp a) x ≡ true) e (rw (number_key.here a) refl)) ∙ i))

filter-find : (session : ℕ) (h : Holdings) (q : ℕ × List ℕ) → find holding_cmp (filter (λ e. not (is_among (session ∷ []) e.0.0)) h) q ≡ (if is_at (nat_cmp session) q.0 then None else find holding_cmp h q)
filter-find session h q = by (is_among (session ∷ []) q.0) refl ∙ ap (λ (b : Bool). if b then None else find holding_cmp h q) (sym (flip-test session q.0))
  where
    by : (b : Bool) → is_among (session ∷ []) q.0 ≡ b → find holding_cmp (filter (λ e. not (is_among (session ∷ []) e.0.0)) h) q ≡ (if b then None else find holding_cmp h q)
    by true i = find-filter_gone holding_cmp holding_key (λ k. not (is_among (session ∷ []) k.0)) h q (ap not i)
    by false i = find-filter_kept holding_cmp holding_key (λ k. not (is_among (session ∷ []) k.0)) h q (ap not i)

flat-closed : (old new : Nested) (session : ℕ) → IsNested old → IsNested new → ClosesSession session old new → flat new ≡ filter (λ e. not (is_among (session ∷ []) e.0.0)) (flat old)
flat-closed old new session is was change = same_rows holding_cmp holding_key holding_total (flat new) (filter (λ e. not (is_among (session ∷ []) e.0.0)) (flat old)) (flat-rises new was)
    (rising-filter holding_cmp holding_key holding_total (λ e. not (is_among (session ∷ []) e.0.0)) (flat old) (flat-rises old is))
    (λ q. flat-found new was.sessions q ∙ change q ∙ ap (λ (o : Option ℕ). if is_at (nat_cmp session) q.0 then None else o) (sym (flat-found old is.sessions q))
    ∙ sym (filter-find session (flat old) q))

-- one session closes
together-held : (t : Tables) (session : ℕ) (name : List ℕ) → IsTable t → held_together (session ∷ []) name (flat t.holdings.entries) ≡ held (flat t.holdings.entries) session name
together-held t session name is = one-together session name (flat t.holdings.entries) is.sound.holdings

pub closes-some : (t u : Tables) (session : ℕ) (inner : BTreeMap (List ℕ) ℕ) → IsTable t → find nat_cmp t.holdings.entries session ≡ Some inner → IsNested u.holdings.entries → ClosesSession session t.holdings.entries u.holdings.entries
    → u.rows.entries ≡ back_each inner.entries t.rows.entries → seen u ≡ all_back (session ∷ []) (seen t)
closes-some t u session inner is there nested change rows = back-one-session inner.entries session (seen t) u.rows.entries (flat u.holdings.entries) is.sound.rows
    (λ name. held-amount t session inner name is there ∙ sym (together-held t session name is)) rows (flat-closed t.holdings.entries u.holdings.entries session is.nested nested change)

pub closes-none : (t u : Tables) (session : ℕ) → IsTable t → find nat_cmp t.holdings.entries session ≡ None → IsNested u.holdings.entries → ClosesSession session t.holdings.entries u.holdings.entries
    → u.rows.entries ≡ t.rows.entries → seen u ≡ all_back (session ∷ []) (seen t)
closes-none t u session is none nested change rows = back-one-session [] session (seen t) u.rows.entries (flat u.holdings.entries) is.sound.rows
    (λ name. sym (nothing name) ∙ sym (together-held t session name is)) rows (flat-closed t.holdings.entries u.holdings.entries session is.nested nested change)
  where
    nothing : (name : List ℕ) → held (flat t.holdings.entries) session name ≡ 0
    nothing name = sym (held-flat t.holdings.entries session name is.nested) ∙ ap (λ (o : Option ℕ). unwrap_or o 0) (ap (λ (o : Option (BTreeMap (List ℕ) ℕ)). found_in o name) none)

-- tables stay sound
split : (sessions : List ℕ) (name : List ℕ) (h : Holdings) → held_by_all name h ≡ held_together sessions name h + held_by_all name (filter (λ e. not (is_among sessions e.0.0)) h)
split sessions name [] = refl
split sessions name (e ∷ es) = by (is_among sessions e.0.0) (bytes_eq name e.0.1) refl (split sessions name es)
  where
    by : (a b : Bool) → bytes_eq name e.0.1 ≡ b → held_by_all name es ≡ held_together sessions name es + held_by_all name (filter (λ e. not (is_among sessions e.0.0)) es)
        → (if b then e.1 else 0) + held_by_all name es ≡ sum (map (λ e. e.1) (if (a && b) then e ∷ filter (λ e. is_among sessions e.0.0 && bytes_eq name e.0.1) es else filter (λ e. is_among sessions e.0.0 && bytes_eq name e.0.1) es))
        + held_by_all name (if (not a) then e ∷ filter (λ e. not (is_among sessions e.0.0)) es else filter (λ e. not (is_among sessions e.0.0)) es)
    by true true i rest = let one : sum (map (λ e. e.1) (e ∷ filter (λ e. is_among sessions e.0.0 && bytes_eq name e.0.1) es)) ≡ e.1 + held_together sessions name es = sum_by-cons (λ (n : ℕ). n) e.1 (map (λ e. e.1) (filter (λ e. is_among sessions e.0.0 && bytes_eq name e.0.1) es)) in rw one (omega arith)
    by true false i rest = omega arith
    by false true i rest = rw i (omega arith)
    by false false i rest = rw i (omega arith)

back-sum : (t a : ℤ) (n m k : ℕ) → t ≡ a +ℤ pos k → k ≡ n + m → t ≡ (a +ℤ pos n) +ℤ pos m
back-sum t a n m k is sums = is ∙ ap (λ (x : ℕ). a +ℤ pos x) sums ∙ ap (λ (x : ℤ). a +ℤ x) (sym (pos-+ℤ-pos n m)) ∙ sym (+ℤ_assoc a (pos n) (pos m))

back-balanced : (sessions : List ℕ) (s : Semaphores) → IsBalanced s → IsBalanced (all_back sessions s)
back-balanced sessions s b q = subst (λ (o : Option SemaphoreRow). IsBalancedAt o (held_of q (filter (λ e. not (is_among sessions e.0.0)) s.holdings)))
    (sym (find-mapped (back_row sessions s.holdings) s.rows q after refl (λ row. refl))) (at (find object_cmp s.rows q) (b q))
  where
    after : Option SemaphoreRow → Option SemaphoreRow
    after None = None
    after (Some row) = Some (back_row sessions s.holdings (q, row))

    none : (c : Bool) → (if c then held_by_all q.0 s.holdings else 0) ≡ 0 → (if c then held_by_all q.0 (filter (λ e. not (is_among sessions e.0.0)) s.holdings) else 0) ≡ 0
    none true e = let x = split sessions q.0 s.holdings in omega arith
    none false e = refl

    some : (row : SemaphoreRow) (c : Bool) → row.total ≡ row.available +ℤ pos (if c then held_by_all q.0 s.holdings else 0)
        → (if c then with_back (held_together sessions q.0 s.holdings) row else row).total ≡ (if c then with_back (held_together sessions q.0 s.holdings) row else row).available +ℤ pos (if c then held_by_all q.0 (filter (λ e. not (is_among sessions e.0.0)) s.holdings) else 0)
    some row true e = back-sum row.total row.available (held_together sessions q.0 s.holdings) (held_by_all q.0 (filter (λ e. not (is_among sessions e.0.0)) s.holdings)) (held_by_all q.0 s.holdings) e (split sessions q.0 s.holdings)
    some row false e = e

    at : (o : Option SemaphoreRow) → IsBalancedAt o (held_of q s.holdings) → IsBalancedAt (after o) (held_of q (filter (λ e. not (is_among sessions e.0.0)) s.holdings))
    at None h = none (is_held q.1) h
    at (Some row) h = some row (is_held q.1) h

low-back : (a : ℤ) (n : ℕ) → neg_ℤ (pos (2 ^ 31)) ≤ℤ a → neg_ℤ (pos (2 ^ 31)) ≤ℤ (a +ℤ pos n)
low-back a n h = omega (arith, ints)

within-back : (sessions : List ℕ) (s : Semaphores) → RowsWithin s.rows → RowsWithin (all_back sessions s).rows
within-back sessions s all q row there = at (find object_cmp s.rows q) refl (sym (find-mapped (back_row sessions s.holdings) s.rows q after refl (λ r. refl)) ∙ there)
  where
    after : Option SemaphoreRow → Option SemaphoreRow
    after None = None
    after (Some row) = Some (back_row sessions s.holdings (q, row))

    some_is : (a b : SemaphoreRow) → Some a ≡ Some b → a ≡ b
    some_is a b e = cc

    no_some : None ≡ Some row → ⊥
    no_some e = cc

    one : (old : SemaphoreRow) (c : Bool) → IsWithin old → IsWithin (if c then with_back (held_together sessions q.0 s.holdings) old else old)
    one old true w = record { low = low-back old.available (held_together sessions q.0 s.holdings) w.low; high = w.high }
    one old false w = w

    at : (o : Option SemaphoreRow) → find object_cmp s.rows q ≡ o → after o ≡ Some row → IsWithin row
    at None is e = absurd (no_some e)
    at (Some old) is e = subst IsWithin (some_is (back_row sessions s.holdings (q, old)) row e) (one old (is_held q.1) (all q old is))

length-backs : (sessions : List ℕ) (h : Holdings) (rows : List (Object × SemaphoreRow)) → length (backs sessions h rows) ≡ length rows
length-backs sessions h [] = refl
length-backs sessions h (e ∷ es) = let rest = length-backs sessions h es in omega arith

pub sound-back : (sessions : List ℕ) (s : Semaphores) → IsSound s → IsSound (all_back sessions s)
sound-back sessions s is = record {
  rows = subst (IsStrictlySortedBy object_cmp) (sym (keys-map (back_row sessions s.holdings) s.rows)) is.rows;
  holdings = rising-filter holding_cmp holding_key holding_total (λ e. not (is_among sessions e.0.0)) s.holdings is.holdings;
  balanced = back-balanced sessions s is.balanced;
  within = within-back sessions s is.within;
  few = let same = length-backs sessions s.holdings s.rows in let few : length s.rows ≤ most = is.few in omega arith;
}

pub closed-table : (t u : Tables) (sessions : List ℕ) → IsTable t → IsNested u.holdings.entries → seen u ≡ all_back sessions (seen t) → IsTable u
closed-table t u sessions is nested same = record { nested = nested; sound = subst IsSound (sym same) (sound-back sessions (seen t) is.sound) }

pub closes-more : (session : ℕ) (sessions : List ℕ) (s t : Semaphores) → t ≡ all_back (session ∷ []) s → all_back sessions t ≡ all_back (session ∷ sessions) s
closes-more session sessions s t is = ap (all_back sessions) is ∙ sym (back-more session sessions s)

pub none-left : (xs : List ℕ) → length xs < 1 → xs ≡ []
none-left [] h = refl
none-left (x ∷ xs) h = absurd (omega arith)
