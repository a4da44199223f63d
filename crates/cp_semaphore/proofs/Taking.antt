-- Waiters that are served take what stands available.
use Rattle.std.proofs.Math.Seq.{take-length}
use Rattle.std.proofs.Common.{◌-◌, get_or, drop, ◌≡◌, ◌^◌, ◌≤◌, length, take, Bool, true, false, ℕ, List, [], ◌∷◌, Option, Some, None, refl, ap, sym, ◌∙◌, subst, arith}
use Rattle.std.specs.Prelude.{ℤ, pos, neg_ℤ, ◌-ℤ◌, ◌≤ℤ◌, int_lt, if◌then◌else◌}
use Rattle.std.proofs.lemmas.Int.{ints}
use Rattle.cp_group_state.specs.Rows.{Object, find, most, object_cmp}
use Rattle.cp_group_state.specs.Waiters.{waits_on}
use Rattle.cp_group_state.specs.Semaphores.{Semaphores, is_held, take as taken, take_on, served}
use Rattle.cp_group_state.specs.declared.rows.SemaphoreRow.{SemaphoreRow}
use Rattle.cp_group_state.specs.declared.rows.Waiter.{Waiter}
use Rattle.cp_group_state.proofs.Keyed.{find-put_same, object_key}
use Rattle.cp_group_state.proofs.Ordered.{SemsRise, take_all-rises}
use Rattle.cp_group_state.proofs.Balance.{take_all-balanced}
use Rattle.cp_group_state.proofs.Walk.{cases}
use Rattle.cp_semaphore.specs.Tables.{seen, RowsWithin, IsSound, IsTable}
use Rattle.cp_semaphore.specs.Nested.{IsNested}
use Rattle.cp_semaphore.specs.Serving.{AreServed, IsEnough, CanTake}
use Rattle.cp_semaphore.specs.declared.tables.Tables.{Tables}
use Rattle.cp_semaphore.proofs.Within.{within-take, few-take}

no_less : (a b : ℤ) → int_lt a b ≡ false → b ≤ℤ a
no_less a b h = grind (arith, ints)

enough-served : (key : Object) (available : ℤ) (ws : List Waiter) → IsEnough available (served key available ws)
enough-served key available [] = tt
enough-served key available (w ∷ ws) = by (waits_on key.1 key.0 w) (int_lt available (pos w.permits)) refl (λ left. enough-served key left ws)
  where
    by : (a b : Bool) → int_lt available (pos w.permits) ≡ b → ((left : ℤ) → IsEnough left (served key left ws))
        → IsEnough available (if a then (if b then [] else w ∷ served key (available -ℤ pos w.permits) ws) else served key available ws)
    by true true e rest = tt
    by true false e rest = (no_less available (pos w.permits) e, rest (available -ℤ pos w.permits))
    by false b e rest = rest available

pub can-served : (key : Object) (waiters : List Waiter) (s : Semaphores) → AreServed key waiters s → CanTake key waiters s
can-served key waiters s are row there = subst (IsEnough row.available) (sym (are.1 row there)) (enough-served key row.available are.0)

low-enough : (a : ℤ) (n : ℕ) → pos n ≤ℤ a → neg_ℤ (pos (2 ^ 31)) ≤ℤ (a -ℤ pos n)
low-enough a n h = omega (arith, ints)

some_is : (a b : SemaphoreRow) → Some a ≡ Some b → a ≡ b
some_is a b e = cc

-- the row after a take
taken-row : (key : Object) (row : SemaphoreRow) (session n : ℕ) (s : Semaphores) (after : SemaphoreRow) → find object_cmp (taken key row session n s).rows key ≡ Some after → after.available ≡ row.available -ℤ pos n
taken-row key row session n s after = cases (λ (x : Semaphores). find object_cmp x.rows key ≡ Some after → after.available ≡ row.available -ℤ pos n) (is_held key.1) _ _
    (λ e there. ap (λ (r : SemaphoreRow). r.available) (some_is after (record row { available = row.available -ℤ pos n }) (sym there ∙ find-put_same object_cmp object_key s.rows key (record row { available = row.available -ℤ pos n }))))
    (λ e there. ap (λ (r : SemaphoreRow). r.available) (some_is after (record { total = row.total -ℤ pos n; available = row.available -ℤ pos n }) (sym there ∙ find-put_same object_cmp object_key s.rows key (record { total = row.total -ℤ pos n; available = row.available -ℤ pos n }))))

pub can-rest : (key : Object) (w : Waiter) (ws : List Waiter) (s : Semaphores) → CanTake key (w ∷ ws) s → CanTake key ws (take_on key (find object_cmp s.rows key) w s)
can-rest key w ws s can = by (find object_cmp s.rows key) refl
  where
    no_some : (row : SemaphoreRow) → None ≡ Some row → ⊥
    no_some row e = cc

    by : (o : Option SemaphoreRow) → find object_cmp s.rows key ≡ o → CanTake key ws (take_on key o w s)
    by None is = λ row there. absurd (no_some row (sym is ∙ there))
    by (Some row) is = λ after there. subst (λ (a : ℤ). IsEnough a ws) (sym (taken-row key row w.session w.permits s after there)) (can row is).1

pub sound-take : (key : Object) (w : Waiter) (ws : List Waiter) (s : Semaphores) → CanTake key (w ∷ ws) s → IsSound s → IsSound (take_on key (find object_cmp s.rows key) w s)
sound-take key w ws s can is = record {
  rows = rises.0;
  holdings = rises.1;
  balanced = take_all-balanced key (w ∷ []) s (is.rows, is.holdings) is.balanced;
  within = within (find object_cmp s.rows key) refl;
  few = few (find object_cmp s.rows key) refl;
}
  where
    rises : SemsRise (take_on key (find object_cmp s.rows key) w s)
    rises = take_all-rises key (w ∷ []) s (is.rows, is.holdings)

    within : (o : Option SemaphoreRow) → find object_cmp s.rows key ≡ o → RowsWithin (take_on key o w s).rows
    within None there = is.within
    within (Some row) there = within-take key row w.session w.permits s is.within (is.within key row there) (low-enough row.available w.permits (can row there).0)

    few : (o : Option SemaphoreRow) → find object_cmp s.rows key ≡ o → length (take_on key o w s).rows ≤ most
    few None there = is.few
    few (Some row) there = few-take key row w.session w.permits s is.rows is.few there

pub next-table : (key : Object) (w : Waiter) (ws : List Waiter) (t u : Tables) → IsTable t → CanTake key (w ∷ ws) (seen t) → seen u ≡ take_on key (find object_cmp t.rows.entries key) w (seen t) → IsNested u.holdings.entries → IsTable u
next-table key w ws t u is can same nested = record { nested = nested; sound = subst IsSound (sym same) (sound-take key w ws (seen t) can is.sound) }

pub next-can : (key : Object) (w : Waiter) (ws : List Waiter) (t u : Tables) → CanTake key (w ∷ ws) (seen t) → seen u ≡ take_on key (find object_cmp t.rows.entries key) w (seen t) → CanTake key ws (seen u)
next-can key w ws t u can same = subst (CanTake key ws) (sym same) (can-rest key w ws (seen t) can)

pub same-table : (t u : Tables) → IsTable t → seen u ≡ seen t → IsNested u.holdings.entries → IsTable u
same-table t u is same nested = record { nested = nested; sound = subst IsSound (sym same) is.sound }

-- a list that is not empty has a first element, and the others
pub front : {X : Type 0} (xs : List X) (x : X) → 1 ≤ length xs → x ≡ get_or xs 0 x → xs ≡ x ∷ take (length xs - 1) (drop 1 xs)
front [] x h is = absurd (omega arith)
front {X} (y ∷ ys) x h is = ap (λ (zs : List X). y ∷ zs) (sym (ap (λ (n : ℕ). take n ys) one_less ∙ take-length ys)) ∙ ap (λ (z : X). z ∷ take (length (y ∷ ys) - 1) ys) (sym is)
  where
    one_less : length (y ∷ ys) - 1 ≡ length ys
    one_less = omega arith
