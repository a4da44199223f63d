-- The numbers of semaphores stay within their bounds.
use Rattle.std.proofs.Common.{◌≡◌, ◌^◌, ◌<◌, ◌≤◌, ◌+◌, ◌-◌, ℕ, Bool, true, false, ◌||◌, List, [], ◌∷◌, length, Option, Some, None, is_some, refl, ap, sym, ◌∙◌, subst, cond, arith}
use Rattle.std.specs.Prelude.{ℤ, pos, negsuc, neg_ℤ, ◌+ℤ◌, ◌-ℤ◌, ◌≤ℤ◌, ◌<ℤ◌, int_lt, nat_lt}
use Rattle.std.specs.declared.cmp.Ordering.{Ordering}
use Rattle.std.specs.declared.cmp.Ordering.TheVariants.{Less, Equal, Greater}
use Rattle.std.specs.Ordering.{match_ordering, is_eq}
use Rattle.std.specs.BTreeMap.{is_at}
use Rattle.std.specs.List.Sorted.{IsStrictlySortedBy}
use Rattle.std.proofs.lemmas.Int.{ints}
use Rattle.std.proofs.lemmas.Bool.Decides.{nat_tests}
use Rattle.cp_object_ops.specs.declared.sem_op.SemOp.{SemOp}
use Rattle.cp_object_ops.specs.declared.sem_op.SemOp.TheVariants as sem
use Rattle.cp_group_state.specs.Rows.{Object, find, put, without, has_room, most, object_cmp}
use Rattle.cp_group_state.specs.Semaphores.{Semaphores, SemStep, is_held, held, take, at_least_none, raise_total, release_held, sem_step, sem_step_on}
use Rattle.cp_group_state.specs.Invariants.{IsRising}
use Rattle.cp_group_state.specs.declared.rows.SemaphoreRow.{SemaphoreRow}
use Rattle.cp_group_state.proofs.Keyed.{equal_is, object_key, find-put_same, find-put_other, find-without_other}
use Rattle.cp_group_state.proofs.Rising.{find-without_same, less-none, above-all}
use Rattle.cp_group_state.proofs.Ordered.{object_total}
use Rattle.cp_group_state.proofs.Walk.{cases}
use Rattle.cp_semaphore.specs.Tables.{IsWithin, RowsWithin}
use Rattle.cp_semaphore.specs.Fitting.{Fits}

-- numbers
low-taken : (a : ℤ) (n : ℕ) → int_lt a (pos n) ≡ false → neg_ℤ (pos (2 ^ 31)) ≤ℤ (a -ℤ pos n)
low-taken a n h = grind (arith, ints)

low-drained : (a : ℤ) → neg_ℤ (pos (2 ^ 31)) ≤ℤ a → neg_ℤ (pos (2 ^ 31)) ≤ℤ (a -ℤ pos (at_least_none a))
low-drained (pos n) h = omega (arith, ints)
low-drained (negsuc n) h = omega (arith, ints)

low-returned : (a : ℤ) (n : ℕ) → neg_ℤ (pos (2 ^ 31)) ≤ℤ a → neg_ℤ (pos (2 ^ 31)) ≤ℤ (a +ℤ pos n)
low-returned a n h = omega (arith, ints)

low-reduced : (a : ℤ) (n : ℕ) → int_lt (a -ℤ pos n) (neg_ℤ (pos (2 ^ 31))) ≡ false → neg_ℤ (pos (2 ^ 31)) ≤ℤ (a +ℤ neg_ℤ (pos n))
low-reduced a n h = grind (arith, ints)

high-less : (t : ℤ) (n : ℕ) → t <ℤ pos (2 ^ 32) → (t -ℤ pos n) <ℤ pos (2 ^ 32)
high-less t n h = omega (arith, ints)

high-reduced : (t : ℤ) (n : ℕ) → t <ℤ pos (2 ^ 32) → (t +ℤ neg_ℤ (pos n)) <ℤ pos (2 ^ 32)
high-reduced t n h = omega (arith, ints)

high-raised : (t : ℤ) (n : ℕ) → int_lt (pos (2 ^ 31 - 1)) (t +ℤ pos n) ≡ false → (t +ℤ pos n) <ℤ pos (2 ^ 32)
high-raised t n h = grind (arith, ints)

low-made : (n : ℕ) → neg_ℤ (pos (2 ^ 31)) ≤ℤ pos n
low-made n = omega (arith, ints)

high-made : (n : ℕ) → n < 2 ^ 32 → pos n <ℤ pos (2 ^ 32)
high-made n h = omega (arith, ints)

-- rows
some_is : (a b : SemaphoreRow) → Some a ≡ Some b → a ≡ b
some_is a b e = cc

pub within-put : (rows : List (Object × SemaphoreRow)) (key : Object) (row : SemaphoreRow) → RowsWithin rows → IsWithin row → RowsWithin (put object_cmp rows key row)
within-put rows key row all one q found there = by (is_at (object_cmp q) key) refl
  where
    by : (b : Bool) → is_at (object_cmp q) key ≡ b → IsWithin found
    by true e = let same : q ≡ key = object_key.same q key (equal_is _ e) in
        let is : find object_cmp (put object_cmp rows key row) q ≡ Some row = ap (λ (k : Object). find object_cmp (put object_cmp rows key row) k) same ∙ find-put_same object_cmp object_key rows key row in
        subst IsWithin (some_is row found (sym is ∙ there)) one
    by false e = all q found (sym (find-put_other object_cmp object_key rows key q row e) ∙ there)

pub within-without : (rows : List (Object × SemaphoreRow)) (key : Object) → IsRising object_cmp rows → RowsWithin rows → RowsWithin (without object_cmp rows key)
within-without rows key rises all q found there = by (is_at (object_cmp q) key) refl
  where
    none_some : None ≡ Some found → ⊥
    none_some e = cc

    by : (b : Bool) → is_at (object_cmp q) key ≡ b → IsWithin found
    by true e = let same : q ≡ key = object_key.same q key (equal_is _ e) in
        let none : find object_cmp (without object_cmp rows key) q ≡ None = ap (λ (k : Object). find object_cmp (without object_cmp rows key) k) same ∙ find-without_same object_cmp object_key object_total rows key rises in
        absurd (none_some (sym none ∙ there))
    by false e = all q found (sym (find-without_other object_cmp object_key rows key q e) ∙ there)

pub within-take : (key : Object) (row : SemaphoreRow) (session n : ℕ) (s : Semaphores) → RowsWithin s.rows → IsWithin row → neg_ℤ (pos (2 ^ 31)) ≤ℤ (row.available -ℤ pos n) → RowsWithin (take key row session n s).rows
within-take key row session n s all one low = cases (λ (x : Semaphores). RowsWithin x.rows) (is_held key.1) _ _
    (λ e. within-put s.rows key (record row { available = row.available -ℤ pos n }) all (record { low = low; high = one.high }))
    (λ e. within-put s.rows key (record { total = row.total -ℤ pos n; available = row.available -ℤ pos n }) all (record { low = low; high = high-less row.total n one.high }))

pub within-step : (key : Object) (o : SemOp) (s : Semaphores) → Fits o → RowsWithin s.rows → RowsWithin (sem_step key o s).after.rows
within-step key o s fits all = on (find object_cmp s.rows key) refl o fits
  where
    raise : (row : SemaphoreRow) (n : ℕ) → IsWithin row → RowsWithin (raise_total key row n s).after.rows
    raise row n one = cases (λ (r : SemStep). RowsWithin r.after.rows) (int_lt (pos (2 ^ 31 - 1)) (row.total +ℤ pos n)) _ _ (λ e. all)
        (λ e. within-put s.rows key (record { total = row.total +ℤ pos n; available = row.available +ℤ pos n }) all (record { low = low-returned row.available n one.low; high = high-raised row.total n e }))

    release : (row : SemaphoreRow) (session n : ℕ) → IsWithin row → RowsWithin (release_held key row session n s).after.rows
    release row session n one = cases (λ (r : SemStep). RowsWithin r.after.rows) (nat_lt (held s.holdings session key.0) n) _ _ (λ e. all)
        (λ e. within-put s.rows key (record row { available = row.available +ℤ pos n }) all (record { low = low-returned row.available n one.low; high = one.high }))

    on : (row : Option SemaphoreRow) → find object_cmp s.rows key ≡ row → (o : SemOp) → Fits o → RowsWithin (sem_step_on key o row s).after.rows
    on None is sem.Available f = all
    on None is (sem.Init n) f = cases (λ (r : SemStep). RowsWithin r.after.rows) (has_room object_cmp most s.rows key) _ _
        (λ e. within-put s.rows key (record { total = pos n; available = pos n }) all (record { low = low-made n; high = high-made n f })) (λ e. all)
    on None is (sem.Acquire session n wish) f = all
    on None is (sem.Release session n) f = all
    on None is (sem.Drain session) f = all
    on None is (sem.Increase session n) f = all
    on None is (sem.Reduce session n) f = all
    on (Some row) is sem.Available f = all
    on (Some row) is (sem.Init n) f = all
    on (Some row) is (sem.Acquire session n wish) f = cases (λ (r : SemStep). RowsWithin r.after.rows) (int_lt row.available (pos n)) _ _ (λ e. all)
        (λ e. within-take key row session n s all (all key row is) (low-taken row.available n e))
    on (Some row) is (sem.Release session n) f = cases (λ (r : SemStep). RowsWithin r.after.rows) (is_held key.1) _ _ (λ e. release row session n (all key row is)) (λ e. raise row n (all key row is))
    on (Some row) is (sem.Drain session) f = within-take key row session (at_least_none row.available) s all (all key row is) (low-drained row.available (all key row is).low)
    on (Some row) is (sem.Increase session n) f = raise row n (all key row is)
    on (Some row) is (sem.Reduce session n) f = cases (λ (r : SemStep). RowsWithin r.after.rows) (int_lt (row.available -ℤ pos n) (neg_ℤ (pos (2 ^ 31)))) _ _ (λ e. all)
        (λ e. within-put s.rows key (record { total = row.total +ℤ neg_ℤ (pos n); available = row.available +ℤ neg_ℤ (pos n) }) all (record { low = low-reduced row.available n e; high = high-reduced row.total n (all key row is).high }))

-- how many rows there are
put-none : (rows : List (Object × SemaphoreRow)) (key : Object) (row : SemaphoreRow) → length (put object_cmp rows key row) ≤ length rows + 1
put-none [] key row = omega arith
put-none (e ∷ es) key row = by (object_cmp key e.0) (put-none es key row)
  where
    by : (o : Ordering) → length (put object_cmp es key row) ≤ length es + 1 → length (match_ordering o ((key, row) ∷ e ∷ es) ((e.0, row) ∷ es) (e ∷ put object_cmp es key row)) ≤ length (e ∷ es) + 1
    by Less rest = omega arith
    by Equal rest = omega arith
    by Greater rest = omega arith

put-some : (rows : List (Object × SemaphoreRow)) (key : Object) (row old : SemaphoreRow) → IsRising object_cmp rows → find object_cmp rows key ≡ Some old → length (put object_cmp rows key row) ≡ length rows
unfolding IsStrictlySortedBy
put-some [] key row old rises there = cc
put-some (e ∷ es) key row old rises there = by (object_cmp key e.0) refl there (put-some es key row old rises.1)
  where
    none_some : None ≡ Some old → ⊥
    none_some e = cc

    by : (o : Ordering) → object_cmp key e.0 ≡ o → cond (is_eq o) (Some e.1) (find object_cmp es key) ≡ Some old → (find object_cmp es key ≡ Some old → length (put object_cmp es key row) ≡ length es)
        → length (match_ordering o ((key, row) ∷ e ∷ es) ((e.0, row) ∷ es) (e ∷ put object_cmp es key row)) ≡ length (e ∷ es)
    by Less i there rest = absurd (none_some (sym (less-none object_cmp object_key object_total key es (above-all object_cmp object_key object_total key e.0 es i rises.0)) ∙ there))
    by Equal i there rest = omega arith
    by Greater i there rest = let h = rest there in omega arith

pub few-put : (rows : List (Object × SemaphoreRow)) (key : Object) (row : SemaphoreRow) → IsRising object_cmp rows → length rows ≤ most → has_room object_cmp most rows key ≡ true → length (put object_cmp rows key row) ≤ most
few-put rows key row rises few room = by (find object_cmp rows key) refl room
  where
    by : (o : Option SemaphoreRow) → find object_cmp rows key ≡ o → (is_some o || nat_lt (length rows) most) ≡ true → length (put object_cmp rows key row) ≤ most
    by (Some old) is h = let same = put-some rows key row old rises is in omega arith
    by None is h = let more = put-none rows key row in below (length rows) (length (put object_cmp rows key row)) h more
      where
        below : (n m : ℕ) → nat_lt n most ≡ true → m ≤ n + 1 → m ≤ most
        below n m h k = grind (arith, nat_tests)

few-there : (rows : List (Object × SemaphoreRow)) (key : Object) (row old : SemaphoreRow) → IsRising object_cmp rows → length rows ≤ most → find object_cmp rows key ≡ Some old → length (put object_cmp rows key row) ≤ most
few-there rows key row old rises few there = few-put rows key row rises few (ap (λ (o : Option SemaphoreRow). is_some o || nat_lt (length rows) most) there)

pub few-take : (key : Object) (row : SemaphoreRow) (session n : ℕ) (s : Semaphores) → IsRising object_cmp s.rows → length s.rows ≤ most → find object_cmp s.rows key ≡ Some row → length (take key row session n s).rows ≤ most
few-take key row session n s rises few there = cases (λ (x : Semaphores). length x.rows ≤ most) (is_held key.1) _ _
    (λ e. few-there s.rows key (record row { available = row.available -ℤ pos n }) row rises few there)
    (λ e. few-there s.rows key (record { total = row.total -ℤ pos n; available = row.available -ℤ pos n }) row rises few there)

pub few-step : (key : Object) (o : SemOp) (s : Semaphores) → IsRising object_cmp s.rows → length s.rows ≤ most → length (sem_step key o s).after.rows ≤ most
few-step key o s rises few = on (find object_cmp s.rows key) refl o
  where
    raise : (row : SemaphoreRow) (n : ℕ) → find object_cmp s.rows key ≡ Some row → length (raise_total key row n s).after.rows ≤ most
    raise row n is = cases (λ (r : SemStep). length r.after.rows ≤ most) (int_lt (pos (2 ^ 31 - 1)) (row.total +ℤ pos n)) _ _ (λ e. few)
        (λ e. few-there s.rows key (record { total = row.total +ℤ pos n; available = row.available +ℤ pos n }) row rises few is)

    release : (row : SemaphoreRow) (session n : ℕ) → find object_cmp s.rows key ≡ Some row → length (release_held key row session n s).after.rows ≤ most
    release row session n is = cases (λ (r : SemStep). length r.after.rows ≤ most) (nat_lt (held s.holdings session key.0) n) _ _ (λ e. few)
        (λ e. few-there s.rows key (record row { available = row.available +ℤ pos n }) row rises few is)

    on : (row : Option SemaphoreRow) → find object_cmp s.rows key ≡ row → (o : SemOp) → length (sem_step_on key o row s).after.rows ≤ most
    on None is sem.Available = few
    on None is (sem.Init n) = cases (λ (r : SemStep). length r.after.rows ≤ most) (has_room object_cmp most s.rows key) _ _
        (λ e. few-put s.rows key (record { total = pos n; available = pos n }) rises few e) (λ e. few)
    on None is (sem.Acquire session n wish) = few
    on None is (sem.Release session n) = few
    on None is (sem.Drain session) = few
    on None is (sem.Increase session n) = few
    on None is (sem.Reduce session n) = few
    on (Some row) is sem.Available = few
    on (Some row) is (sem.Init n) = few
    on (Some row) is (sem.Acquire session n wish) = cases (λ (r : SemStep). length r.after.rows ≤ most) (int_lt row.available (pos n)) _ _ (λ e. few) (λ e. few-take key row session n s rises few is)
    on (Some row) is (sem.Release session n) = cases (λ (r : SemStep). length r.after.rows ≤ most) (is_held key.1) _ _ (λ e. release row session n is) (λ e. raise row n is)
    on (Some row) is (sem.Drain session) = few-take key row session (at_least_none row.available) s rises few is
    on (Some row) is (sem.Increase session n) = raise row n is
    on (Some row) is (sem.Reduce session n) = cases (λ (r : SemStep). length r.after.rows ≤ most) (int_lt (row.available -ℤ pos n) (neg_ℤ (pos (2 ^ 31)))) _ _ (λ e. few)
        (λ e. few-there s.rows key (record { total = row.total +ℤ neg_ℤ (pos n); available = row.available +ℤ neg_ℤ (pos n) }) row rises few is)
