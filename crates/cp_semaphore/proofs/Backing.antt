-- Permits that go back one by one go back all together.
use Rattle.std.proofs.Common.{◌≡◌, ◌+◌, ℕ, Bool, true, false, not, List, [], ◌∷◌, map, Option, Some, None, refl, ap, sym, ◌∙◌, subst, cond, arith}
use Rattle.std.specs.Prelude.{ℤ, pos, ◌+ℤ◌, bytes_eq, if◌then◌else◌}
use Rattle.std.specs.Ordering.{is_eq}
use Rattle.std.specs.BTreeMap.{is_at}
use Rattle.std.specs.List.{filter}
use Rattle.std.specs.List.Sorted.{IsStrictlySortedBy}
use Rattle.std.proofs.Math.IntN.{+ℤ_assoc, +ℤ_idr, pos-+ℤ-pos}
use Rattle.cp_base.proofs.Tests.{no_true, bytes_same, bytes_itself}
use Rattle.cp_op_values.specs.declared.kind.Kind.{Kind}
use Rattle.cp_op_values.specs.declared.kind.Kind.TheVariants as kind
use Rattle.cp_group_state.specs.Rows.{Object, find, put, object_cmp}
use Rattle.cp_group_state.specs.Sessions.{is_among}
use Rattle.cp_group_state.specs.Semaphores.{Semaphores, is_held, held_together, with_back, all_back}
use Rattle.cp_group_state.specs.Invariants.{IsRising}
use Rattle.cp_group_state.specs.declared.rows.SemaphoreRow.{SemaphoreRow}
use Rattle.cp_group_state.proofs.Keyed.{equal_is, pair_same, object_key, find-put_same, find-put_other}
use Rattle.cp_group_state.proofs.Rising.{rising-put}
use Rattle.cp_group_state.proofs.Ordered.{object_total, keys-map}
use Rattle.cp_semaphore.specs.Backs.{back_at, back_one, back_each, amount}
use Rattle.cp_semaphore.proofs.Extensional.{same_rows}
use Rattle.cp_semaphore.proofs.Together.{together-more, gone-more, none-together, all-stay}

-- one kind is held
pub held-kind : (k : Kind) → is_held k ≡ true → k ≡ kind.Sem
held-kind kind.Long h = cc
held-kind kind.Ref h = cc
held-kind kind.Lock h = cc
held-kind kind.Sem h = refl
held-kind kind.Jsem h = cc
held-kind kind.Latch h = cc
held-kind kind.Map h = cc

pub back-back : (n m : ℕ) (row : SemaphoreRow) → with_back m (with_back n row) ≡ with_back (n + m) row
back-back n m row = ap (λ (a : ℤ). record row { available = a }) (+ℤ_assoc row.available (pos n) (pos m) ∙ ap (λ (x : ℤ). row.available +ℤ x) (pos-+ℤ-pos n m))

pub back-none : (row : SemaphoreRow) → with_back 0 row ≡ row
back-none row = ap (λ (a : ℤ). record row { available = a }) (+ℤ_idr row.available)

-- a row of this key after so many permits went back to it
abbrev pub backed : Object → ℕ → Option SemaphoreRow → Option SemaphoreRow
backed q n None = None
backed q n (Some row) = Some (if is_held q.1 then with_back n row else row)

backed-none : (q : Object) (o : Option SemaphoreRow) → o ≡ backed q 0 o
backed-none q None = refl
backed-none q (Some row) = ap (λ (r : SemaphoreRow). Some r) (by (is_held q.1))
  where
    by : (b : Bool) → row ≡ (if b then with_back 0 row else row)
    by true = sym (back-none row)
    by false = refl

find-back : (rows : List (Object × SemaphoreRow)) (name : List ℕ) (n : ℕ) (q : Object) → find object_cmp (back_one rows (name, kind.Sem) n) q ≡ (if is_at (object_cmp q) (name, kind.Sem) then backed q n (find object_cmp rows q) else find object_cmp rows q)
find-back rows name n q = by (is_at (object_cmp q) (name, kind.Sem)) refl (find object_cmp rows (name, kind.Sem)) refl
  where
    by : (b : Bool) → is_at (object_cmp q) (name, kind.Sem) ≡ b → (o : Option SemaphoreRow) → find object_cmp rows (name, kind.Sem) ≡ o
        → find object_cmp (back_at rows (name, kind.Sem) n o) q ≡ (if b then backed q n (find object_cmp rows q) else find object_cmp rows q)
    by true e None is = let same : q ≡ (name, kind.Sem) = object_key.same q (name, kind.Sem) (equal_is _ e) in
        let none : find object_cmp rows q ≡ None = ap (λ (k : Object). find object_cmp rows k) same ∙ is in none ∙ sym (ap (λ (o : Option SemaphoreRow). backed q n o) none)
    by false e None is = refl
    by true e (Some row) is = let same : q ≡ (name, kind.Sem) = object_key.same q (name, kind.Sem) (equal_is _ e) in
        subst (λ (k : Object). find object_cmp (put object_cmp rows (name, kind.Sem) (with_back n row)) k ≡ backed k n (find object_cmp rows k)) (sym same)
        (find-put_same object_cmp object_key rows (name, kind.Sem) (with_back n row) ∙ sym (ap (λ (o : Option SemaphoreRow). backed (name, kind.Sem) n o) is))
    by false e (Some row) is = find-put_other object_cmp object_key rows (name, kind.Sem) q (with_back n row) e

backed-twice : (q : Object) (n m : ℕ) (o : Option SemaphoreRow) → backed q m (backed q n o) ≡ backed q (n + m) o
backed-twice q n m None = refl
backed-twice q n m (Some row) = ap (λ (r : SemaphoreRow). Some r) (by (is_held q.1))
  where
    by : (b : Bool) → (if b then with_back m (if b then with_back n row else row) else (if b then with_back n row else row)) ≡ (if b then with_back (n + m) row else row)
    by true = back-back n m row
    by false = refl

unheld : (q : Object) (n m : ℕ) (o : Option SemaphoreRow) → is_held q.1 ≡ false → backed q n o ≡ backed q m o
unheld q n m None h = refl
unheld q n m (Some row) h = rw h refl

pub find-each : (es : List (List ℕ × ℕ)) (rows : List (Object × SemaphoreRow)) (q : Object) → find object_cmp (back_each es rows) q ≡ backed q (amount es q.0) (find object_cmp rows q)
find-each [] rows q = backed-none q (find object_cmp rows q)
find-each (e ∷ es) rows q = find-each es (back_one rows (e.0, kind.Sem) e.1) q
    ∙ ap (λ (o : Option SemaphoreRow). backed q (amount es q.0) o) (find-back rows e.0 e.1 q)
    ∙ by (is_at (object_cmp q) (e.0, kind.Sem)) (bytes_eq q.0 e.0) (is_held q.1) refl refl refl
  where
    by : (a b d : Bool) → is_at (object_cmp q) (e.0, kind.Sem) ≡ a → bytes_eq q.0 e.0 ≡ b → is_held q.1 ≡ d
        → backed q (amount es q.0) (if a then backed q e.1 (find object_cmp rows q) else find object_cmp rows q) ≡ backed q ((if b then e.1 else 0) + amount es q.0) (find object_cmp rows q)
    by true true d i j k = backed-twice q e.1 (amount es q.0) (find object_cmp rows q)
    by true false d i j k = let same : q ≡ (e.0, kind.Sem) = object_key.same q (e.0, kind.Sem) (equal_is _ i) in
        absurd (no_true (sym (subst (λ (x : Object). bytes_eq x.0 e.0 ≡ true) (sym same) (bytes_itself e.0)) ∙ j))
    by false b false i j k = unheld q (amount es q.0) ((if b then e.1 else 0) + amount es q.0) (find object_cmp rows q) k
    by false true true i j k = let same : q ≡ (e.0, kind.Sem) = pair_same q (e.0, kind.Sem) (bytes_same q.0 e.0 j) (held-kind q.1 k) in
        absurd (no_true (sym (subst (λ (x : Object). is_at (object_cmp x) (e.0, kind.Sem) ≡ true) (sym same) (ap is_eq (object_key.here (e.0, kind.Sem)))) ∙ i))
    by false false true i j k = ap (λ (n : ℕ). backed q n (find object_cmp rows q)) nothing
      where
        nothing : amount es q.0 ≡ 0 + amount es q.0
        nothing = omega arith

rises-one : (rows : List (Object × SemaphoreRow)) (key : Object) (n : ℕ) → IsRising object_cmp rows → IsRising object_cmp (back_one rows key n)
rises-one rows key n rises = by (find object_cmp rows key)
  where
    by : (o : Option SemaphoreRow) → IsRising object_cmp (back_at rows key n o)
    by None = rises
    by (Some row) = rising-put object_cmp object_key object_total rows key (with_back n row) rises

pub rises-each : (es : List (List ℕ × ℕ)) (rows : List (Object × SemaphoreRow)) → IsRising object_cmp rows → IsRising object_cmp (back_each es rows)
rises-each [] rows rises = rises
rises-each (e ∷ es) rows rises = rises-each es (back_one rows (e.0, kind.Sem) e.1) (rises-one rows (e.0, kind.Sem) e.1 rises)

-- the rows after all that sessions hold went back
abbrev pub back_row : List ℕ → List ((ℕ × List ℕ) × ℕ) → Object × SemaphoreRow → SemaphoreRow
back_row sessions h e = if is_held e.0.1 then with_back (held_together sessions e.0.0 h) e.1 else e.1

abbrev pub backs : List ℕ → List ((ℕ × List ℕ) × ℕ) → List (Object × SemaphoreRow) → List (Object × SemaphoreRow)
backs sessions h rows = map {B = Object × SemaphoreRow} (λ e. (e.0, back_row sessions h e)) rows

pub find-mapped : (f : Object × SemaphoreRow → SemaphoreRow) (rows : List (Object × SemaphoreRow)) (q : Object) (next : Option SemaphoreRow → Option SemaphoreRow)
    → next None ≡ None → ((row : SemaphoreRow) → next (Some row) ≡ Some (f (q, row))) → find object_cmp (map (λ e. (e.0, f e)) rows) q ≡ next (find object_cmp rows q)
find-mapped f [] q next none some = sym none
find-mapped f (e ∷ es) q next none some = by (is_at (object_cmp q) e.0) refl (find-mapped f es q next none some)
  where
    by : (c : Bool) → is_at (object_cmp q) e.0 ≡ c → find object_cmp (map (λ e. (e.0, f e)) es) q ≡ next (find object_cmp es q)
        → cond c (Some (f e)) (find object_cmp (map (λ e. (e.0, f e)) es) q) ≡ next (cond c (Some e.1) (find object_cmp es q))
    by true i rest = let same : q ≡ e.0 = object_key.same q e.0 (equal_is _ i) in ap (λ (k : Object). Some (f (k, e.1))) (sym same) ∙ sym (some e.1)
    by false i rest = rest

-- what one session holds goes back name by name
pub back-one-session : (es : List (List ℕ × ℕ)) (session : ℕ) (s : Semaphores) (rows : List (Object × SemaphoreRow)) (holdings : List ((ℕ × List ℕ) × ℕ)) → IsRising object_cmp s.rows
    → ((name : List ℕ) → amount es name ≡ held_together (session ∷ []) name s.holdings) → rows ≡ back_each es s.rows → holdings ≡ filter (λ e. not (is_among (session ∷ []) e.0.0)) s.holdings
    → record { rows = rows; holdings = holdings } ≡ all_back (session ∷ []) s
back-one-session es session s rows holdings rises same is gone = λ i. record { rows = both i; holdings = gone i }
  where
    both : rows ≡ map (λ e. (e.0, back_row (session ∷ []) s.holdings e)) s.rows
    both = is ∙ same_rows object_cmp object_key object_total (back_each es s.rows) (map (λ e. (e.0, back_row (session ∷ []) s.holdings e)) s.rows) (rises-each es s.rows rises)
        (subst (IsStrictlySortedBy object_cmp) (sym (keys-map (back_row (session ∷ []) s.holdings) s.rows)) rises)
        (λ q. find-each es s.rows q ∙ ap (λ (n : ℕ). backed q n (find object_cmp s.rows q)) (same q.0)
        ∙ sym (find-mapped (back_row (session ∷ []) s.holdings) s.rows q (backed q (held_together (session ∷ []) q.0 s.holdings)) refl (λ row. refl)))

-- one session, then the others
pub back-more : (session : ℕ) (sessions : List ℕ) (s : Semaphores) → all_back (session ∷ sessions) s ≡ all_back sessions (all_back (session ∷ []) s)
back-more session sessions s = λ i. record { rows = rows s.rows i; holdings = gone-more session sessions s.holdings i }
  where
    one : (e : Object × SemaphoreRow) (b : Bool) → (if b then with_back (held_together (session ∷ sessions) e.0.0 s.holdings) e.1 else e.1)
        ≡ (if b then with_back (held_together sessions e.0.0 (filter (λ x. not (is_among (session ∷ []) x.0.0)) s.holdings)) (if b then with_back (held_together (session ∷ []) e.0.0 s.holdings) e.1 else e.1) else (if b then with_back (held_together (session ∷ []) e.0.0 s.holdings) e.1 else e.1))
    one e true = ap (λ (n : ℕ). with_back n e.1) (together-more session sessions e.0.0 s.holdings)
        ∙ sym (back-back (held_together (session ∷ []) e.0.0 s.holdings) (held_together sessions e.0.0 (filter (λ x. not (is_among (session ∷ []) x.0.0)) s.holdings)) e.1)
    one e false = refl

    rows : (rows : List (Object × SemaphoreRow)) → backs (session ∷ sessions) s.holdings rows ≡ backs sessions (filter (λ x. not (is_among (session ∷ []) x.0.0)) s.holdings) (backs (session ∷ []) s.holdings rows)
    rows [] = refl
    rows (e ∷ es) = λ i. (e.0, one e (is_held e.0.1) i) ∷ rows es i

pub back-no-session : (s : Semaphores) → all_back [] s ≡ s
back-no-session s = λ i. record { rows = rows s.rows i; holdings = all-stay s.holdings i }
  where
    one : (e : Object × SemaphoreRow) (b : Bool) → (if b then with_back (held_together [] e.0.0 s.holdings) e.1 else e.1) ≡ e.1
    one e true = ap (λ (n : ℕ). with_back n e.1) (none-together e.0.0 s.holdings) ∙ back-none e.1
    one e false = refl

    rows : (rows : List (Object × SemaphoreRow)) → backs [] s.holdings rows ≡ rows
    rows [] = refl
    rows (e ∷ es) = λ i. (e.0, one e (is_held e.0.1) i) ∷ rows es i
