-- Semaphores stay balanced where sessions end and where one of them is destroyed.
use Rattle.std.proofs.Common.{◌≡◌, ℕ, ◌+◌, Bool, true, false, not, ◌&&◌, List, [], ◌∷◌, map, sum, Some, None, Option, refl, sym, ◌∙◌, subst, arith, cond, if◌then◌else◌}
use Rattle.std.specs.Prelude.{ℤ, pos, ◌+ℤ◌, bytes_eq}
use Rattle.std.specs.List.{filter}
use Rattle.std.specs.BTreeMap.{is_at}
use Rattle.std.proofs.lemmas.Int.{ints}
use Rattle.std.proofs.lemmas.Slice.Eq.{bytes_eq-Decides}
use Rattle.std.proofs.lemmas.List.Sums.{sum_by-cons}
use Rattle.cp_base.proofs.Tests.{no_true}
use Rattle.cp_op_values.specs.declared.kind.Kind.{Kind}
use Rattle.cp_op_values.specs.declared.kind.Kind.TheVariants as kind
use Rattle.cp_group_state.specs.declared.rows.SemaphoreRow.{SemaphoreRow}
use Rattle.cp_group_state.specs.Rows.{Object, find, without, object_cmp, holding_cmp}
use Rattle.cp_group_state.specs.Sessions.{is_among}
use Rattle.cp_group_state.specs.Semaphores.{Semaphores, is_held, held_together, with_back, all_back, sem_destroyed}
use Rattle.cp_group_state.specs.Invariants.{IsBalanced, IsBalancedAt, held_by_all, held_of}
use Rattle.cp_group_state.proofs.Keyed.{equal_is, pair_same, find-without_other, object_key}
use Rattle.cp_group_state.proofs.Rising.{rising-filter, find-without_same}
use Rattle.cp_group_state.proofs.Walk.{either}
use Rattle.cp_group_state.proofs.Ordered.{object_total, holding_total, holding_key}
use Rattle.cp_group_state.proofs.Balance.{Holdings}
use Rattle.cp_group_ranges.specs.Rows.{HoldingFits}
use Rattle.cp_group_ranges.proofs.Listed.{kept-without, kept-map, each-filter, found-map}
use Rattle.cp_group_ranges.proofs.Permits.{RowFits, PermitsKept, Grew, more-available}

-- ---- what sessions held goes back

-- the row under a key, where each row changes
changed-row : (f : Object × SemaphoreRow → SemaphoreRow) (rows : List (Object × SemaphoreRow)) (q : Object) (P : Option SemaphoreRow → Type 0)
    → (find object_cmp rows q ≡ None → P None) → ((row : SemaphoreRow) → find object_cmp rows q ≡ Some row → P (Some (f (q, row)))) → P (find object_cmp (map (λ e. (e.0, f e)) rows) q)
changed-row f [] q P none some = none refl
changed-row f (e ∷ es) q P none some = by (is_at (object_cmp q) e.0) refl none some (changed-row f es q P)
  where
    by : (c : Bool) → is_at (object_cmp q) e.0 ≡ c → (cond c (Some e.1) (find object_cmp es q) ≡ None → P None) → ((row : SemaphoreRow) → cond c (Some e.1) (find object_cmp es q) ≡ Some row → P (Some (f (q, row))))
        → ((find object_cmp es q ≡ None → P None) → ((row : SemaphoreRow) → find object_cmp es q ≡ Some row → P (Some (f (q, row)))) → P (find object_cmp (map (λ e. (e.0, f e)) es) q))
        → P (cond c (Some (f e)) (find object_cmp (map (λ e. (e.0, f e)) es) q))
    by true i none some rest = let same : q ≡ e.0 = object_key.same q e.0 (equal_is _ i) in subst (λ (k : Object). P (Some (f (k, e.1)))) same (some e.1 refl)
    by false i none some rest = rest none some

abbrev rest_of : List ℕ → Holdings → Holdings
rest_of sessions h = filter (λ e. not (is_among sessions e.0.0)) h

-- what is held of a name is what goes back and what stays
split : (sessions : List ℕ) (name : List ℕ) (h : Holdings) → held_by_all name h ≡ held_together sessions name h + held_by_all name (rest_of sessions h)
split sessions name [] = refl
split sessions name (e ∷ es) = by (is_among sessions e.0.0) (bytes_eq name e.0.1) refl (split sessions name es)
  where
    by : (a b : Bool) → bytes_eq name e.0.1 ≡ b → held_by_all name es ≡ held_together sessions name es + held_by_all name (rest_of sessions es)
        → (if b then e.1 else 0) + held_by_all name es ≡ sum (map (λ e. e.1) (if (a && b) then e ∷ filter (λ e. is_among sessions e.0.0 && bytes_eq name e.0.1) es else filter (λ e. is_among sessions e.0.0 && bytes_eq name e.0.1) es))
        + held_by_all name (if (not a) then e ∷ rest_of sessions es else rest_of sessions es)
    by true true i rest = let one : sum (map (λ e. e.1) (e ∷ filter (λ e. is_among sessions e.0.0 && bytes_eq name e.0.1) es)) ≡ e.1 + held_together sessions name es = sum_by-cons (λ (n : ℕ). n) e.1 (map (λ e. e.1) (filter (λ e. is_among sessions e.0.0 && bytes_eq name e.0.1) es)) in rw one (omega arith)
    by true false i rest = omega arith
    by false true i rest = rw i (omega arith)
    by false false i rest = rw i (omega arith)

abbrev back : List ℕ → Holdings → Object × SemaphoreRow → SemaphoreRow
back sessions h e = if is_held e.0.1 then with_back (held_together sessions e.0.0 h) e.1 else e.1

back-sum : (a : ℤ) (n r h : ℕ) → h ≡ n + r → a +ℤ pos h ≡ (a +ℤ pos n) +ℤ pos r
back-sum a n r h e = omega (arith, ints)

balanced-back : (sessions : List ℕ) (s : Semaphores) → IsBalanced s → IsBalanced (all_back sessions s)
balanced-back sessions s b q = changed-row (back sessions s.holdings) s.rows q (λ (o : Option SemaphoreRow). IsBalancedAt o (held_of q (rest_of sessions s.holdings))) none some
  where
    none : find object_cmp s.rows q ≡ None → held_of q (rest_of sessions s.holdings) ≡ 0
    none e = by (is_held q.1) (subst (λ (o : Option SemaphoreRow). IsBalancedAt o (held_of q s.holdings)) e (b q))
      where
        by : (c : Bool) → (if c then held_by_all q.0 s.holdings else 0) ≡ 0 → (if c then held_by_all q.0 (rest_of sessions s.holdings) else 0) ≡ 0
        by true e = let sums = split sessions q.0 s.holdings in omega (arith, sums, e)
        by false e = refl

    some : (row : SemaphoreRow) → find object_cmp s.rows q ≡ Some row → (back sessions s.holdings (q, row)).total ≡ (back sessions s.holdings (q, row)).available +ℤ pos (held_of q (rest_of sessions s.holdings))
    some row e = by (is_held q.1) (subst (λ (o : Option SemaphoreRow). IsBalancedAt o (held_of q s.holdings)) e (b q))
      where
        by : (c : Bool) → row.total ≡ row.available +ℤ pos (if c then held_by_all q.0 s.holdings else 0)
            → (if c then with_back (held_together sessions q.0 s.holdings) row else row).total ≡ (if c then with_back (held_together sessions q.0 s.holdings) row else row).available +ℤ pos (if c then held_by_all q.0 (rest_of sessions s.holdings) else 0)
        by true e = e ∙ back-sum row.available (held_together sessions q.0 s.holdings) (held_by_all q.0 (rest_of sessions s.holdings)) (held_by_all q.0 s.holdings) (split sessions q.0 s.holdings)
        by false e = e

pub kept-back : (sessions : List ℕ) (s : Semaphores) → PermitsKept s → PermitsKept (all_back sessions s)
kept-back sessions s h = record {
  rows = kept-map object_cmp object_key object_total RowFits (back sessions s.holdings)
      (λ e p. either (λ (r : SemaphoreRow). RowFits (e.0, r)) (is_held e.0.1) (with_back (held_together sessions e.0.0 s.holdings) e.1) e.1
      (record { name = p.name; kind = p.kind; total = p.total; available = more-available e.1.available (held_together sessions e.0.0 s.holdings) p.available }) p) s.rows h.rows;
  holdings = each-filter HoldingFits (λ e. not (is_among sessions e.0.0)) s.holdings h.holdings;
  rising = rising-filter holding_cmp holding_key holding_total (λ e. not (is_among sessions e.0.0)) s.holdings h.rising;
  balanced = balanced-back sessions s h.balanced;
}

-- ---- a semaphore goes

abbrev others : Object → Holdings → Holdings
others key h = filter (λ e. not (is_held key.1 && bytes_eq key.0 e.0.1)) h

none-left : (key : Object) (h : Holdings) → held_of key (others key h) ≡ 0
none-left key h = by (is_held key.1) refl (none h)
  where
    none : (h : Holdings) → held_by_all key.0 (filter (λ e. not (bytes_eq key.0 e.0.1)) h) ≡ 0
    none [] = refl
    none (e ∷ es) = at (bytes_eq key.0 e.0.1) refl (none es)
      where
        at : (c : Bool) → bytes_eq key.0 e.0.1 ≡ c → held_by_all key.0 (filter (λ e. not (bytes_eq key.0 e.0.1)) es) ≡ 0
            → held_by_all key.0 (if (not c) then e ∷ filter (λ e. not (bytes_eq key.0 e.0.1)) es else filter (λ e. not (bytes_eq key.0 e.0.1)) es) ≡ 0
        at true i rest = rest
        at false i rest = rw i (omega (arith, rest))

    by : (c : Bool) → is_held key.1 ≡ c → held_by_all key.0 (filter (λ e. not (bytes_eq key.0 e.0.1)) h) ≡ 0 → (if c then held_by_all key.0 (filter (λ e. not (c && bytes_eq key.0 e.0.1)) h) else 0) ≡ 0
    by true i rest = rest
    by false i rest = refl

-- one kind is held
held-kind : (k : Kind) → is_held k ≡ true → k ≡ kind.Sem
held-kind kind.Long h = cc
held-kind kind.Ref h = cc
held-kind kind.Lock h = cc
held-kind kind.Sem h = refl
held-kind kind.Jsem h = cc
held-kind kind.Latch h = cc
held-kind kind.Map h = cc

names-apart : (q key : Object) → is_held q.1 ≡ true → is_held key.1 ≡ true → is_at (object_cmp q) key ≡ false → bytes_eq key.0 q.0 ≡ false
names-apart q key a b far = at (bytes_eq key.0 q.0) refl
  where
    at : (c : Bool) → bytes_eq key.0 q.0 ≡ c → bytes_eq key.0 q.0 ≡ false
    at false e = e
    at true e = let same : q ≡ key = pair_same q key (sym ((bytes_eq-Decides key.0 q.0).0 e)) (held-kind q.1 a ∙ sym (held-kind key.1 b)) in
        absurd (no_true (sym (subst (λ (x : Object). is_at (object_cmp q) x ≡ true) same (rw (object_key.here q))) ∙ far))

other-held : (q key : Object) (h : Holdings) → is_at (object_cmp q) key ≡ false → held_of q (others key h) ≡ held_of q h
other-held q key h far = by (is_held q.1) (is_held key.1) refl refl
  where
    all : (h : Holdings) → held_by_all q.0 (filter (λ e. true) h) ≡ held_by_all q.0 h
    all [] = refl
    all (e ∷ es) = let rest = all es in omega (arith, rest)

    apart : bytes_eq key.0 q.0 ≡ false → (h : Holdings) → held_by_all q.0 (filter (λ e. not (bytes_eq key.0 e.0.1)) h) ≡ held_by_all q.0 h
    apart away [] = refl
    apart away (e ∷ es) = at (bytes_eq key.0 e.0.1) refl (apart away es)
      where
        at : (c : Bool) → bytes_eq key.0 e.0.1 ≡ c → held_by_all q.0 (filter (λ e. not (bytes_eq key.0 e.0.1)) es) ≡ held_by_all q.0 es
            → held_by_all q.0 (if (not c) then e ∷ filter (λ e. not (bytes_eq key.0 e.0.1)) es else filter (λ e. not (bytes_eq key.0 e.0.1)) es) ≡ held_by_all q.0 (e ∷ es)
        at true i rest = let gone : bytes_eq q.0 e.0.1 ≡ false = other (bytes_eq q.0 e.0.1) refl in rw gone (omega (arith, rest))
          where
            other : (d : Bool) → bytes_eq q.0 e.0.1 ≡ d → bytes_eq q.0 e.0.1 ≡ false
            other false x = x
            other true x = let same : q.0 ≡ key.0 = (bytes_eq-Decides q.0 e.0.1).0 x ∙ sym ((bytes_eq-Decides key.0 e.0.1).0 i) in
                absurd (no_true (sym ((bytes_eq-Decides key.0 q.0).1 (sym same)) ∙ away))
        at false i rest = omega (arith, rest)

    by : (c d : Bool) → is_held q.1 ≡ c → is_held key.1 ≡ d → (if c then held_by_all q.0 (filter (λ e. not (d && bytes_eq key.0 e.0.1)) h) else 0) ≡ (if c then held_by_all q.0 h else 0)
    by true true i j = apart (names-apart q key i j far) h
    by true false i j = all h
    by false d i j = refl

balanced-gone : (key : Object) (s : Semaphores) → PermitsKept s → IsBalanced (sem_destroyed key s)
balanced-gone key s h q = at (is_at (object_cmp q) key) refl
  where
    at : (c : Bool) → is_at (object_cmp q) key ≡ c → IsBalancedAt (find object_cmp (without object_cmp s.rows key) q) (held_of q (others key s.holdings))
    at true e = let same : q ≡ key = object_key.same q key (equal_is _ e) in
        subst (λ (x : Object). IsBalancedAt (find object_cmp (without object_cmp s.rows key) x) (held_of x (others key s.holdings))) (sym same)
        (subst (λ (o : Option SemaphoreRow). IsBalancedAt o (held_of key (others key s.holdings))) (sym (find-without_same object_cmp object_key object_total s.rows key h.rows.rising)) (none-left key s.holdings))
    at false e = subst (λ (o : Option SemaphoreRow). IsBalancedAt o (held_of q (others key s.holdings))) (sym (find-without_other object_cmp object_key s.rows key q e))
        (subst (λ (n : ℕ). IsBalancedAt (find object_cmp s.rows q) n) (sym (other-held q key s.holdings e)) (h.balanced q))

-- semaphores that were there are there
pub grew-back : (sessions : List ℕ) (s : Semaphores) → Grew s (all_back sessions s)
grew-back sessions s q there = found-map object_cmp object_key object_total (back sessions s.holdings) s.rows q there

pub kept-sem_gone : (key : Object) (s : Semaphores) → PermitsKept s → PermitsKept (sem_destroyed key s)
kept-sem_gone key s h = record {
  rows = kept-without object_cmp object_key object_total RowFits s.rows key h.rows;
  holdings = each-filter HoldingFits (λ e. not (is_held key.1 && bytes_eq key.0 e.0.1)) s.holdings h.holdings;
  rising = rising-filter holding_cmp holding_key holding_total (λ e. not (is_held key.1 && bytes_eq key.0 e.0.1)) s.holdings h.rising;
  balanced = balanced-gone key s h;
}
