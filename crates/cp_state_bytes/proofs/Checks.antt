-- What the tests of the rules tell.
use Rattle.std.proofs.Common.{◌≡◌, ℕ, ◌+◌, ◌-◌, ◌^◌, ◌≤◌, ◌<◌, Bool, true, false, ◌&&◌, List, [], ◌∷◌, ◌++◌, length, append_assoc, Option, Some, None, refl, ap, sym, ◌∙◌, subst, cond, arith, unwrap_or, min, is_some}
use Rattle.std.specs.Prelude.{ℤ, pos, ◌+ℤ◌, bytes_eq}
use Rattle.std.specs.List.{AllByRecursion, list_all}
use Rattle.std.specs.Ordering.{nat_cmp, int_eq}
use Rattle.std.proofs.lemmas.Int.{ints}
use Rattle.std.proofs.lemmas.List.{append-nil, nil_from_length}
use Rattle.std.proofs.lemmas.Slice.Eq.{bytes_eq-Decides}
use Rattle.cp_base.proofs.Tests.{no_true}
use Rattle.cp_group_state.specs.declared.rows.SessionRow.{SessionRow}
use Rattle.cp_group_state.specs.declared.rows.SemaphoreRow.{SemaphoreRow}
use Rattle.cp_group_state.specs.declared.rows.Waiter.{Waiter}
use Rattle.cp_group_state.specs.Rows.{Object, find, most, put, name_cmp}
use Rattle.cp_group_state.specs.Semaphores.{Semaphores, is_held}
use Rattle.cp_group_state.specs.Invariants.{IsRising, CallsDiffer, held_by_all, held_of}
use Rattle.cp_group_state.proofs.Keyed.{name_key, is_at_apart, find-put_same, find-put_other}
use Rattle.cp_session.specs.Tables.{IsTable, MakesTable}
use Rattle.cp_group_ranges.specs.Rows.{IsPermits, SemaphoreFits}
use Rattle.cp_state_bytes.specs.Lists.{Holdings}
use Rattle.cp_state_bytes.specs.Rules.{clients_differ, calls_differ}
use Rattle.cp_state_bytes.specs.Sums.{AreSums, sum_under, are_balanced_by}
use Rattle.cp_state_bytes.proofs.Consistent.{sessions_are, sessions_pass, calls_are, calls_pass}

-- ---- sessions and waiters

clients_apart : (rows : List (ℕ × SessionRow)) → IsTable rows → true ≡ clients_differ rows
clients_apart rows table = sym (sessions_pass rows table.rising table.one)

clients_alike : (rows : List (ℕ × SessionRow)) → IsRising nat_cmp rows → (IsTable rows → ⊥) → false ≡ clients_differ rows
clients_alike rows rising none = by (clients_differ rows) refl
  where
    by : (b : Bool) → clients_differ rows ≡ b → false ≡ b
    by true h = absurd (none (record { rising = rising; one = sessions_are rows h }))
    by false h = refl

-- a table is made of the rows exactly where no client has two
pub clients_told : (rows copy : List (ℕ × SessionRow)) (made : Option (List (ℕ × SessionRow))) → copy ≡ rows → IsRising nat_cmp rows → MakesTable copy made → is_some made ≡ clients_differ rows
clients_told rows copy None same rising makes = clients_alike rows rising (λ table. makes (subst IsTable (sym same) table))
clients_told rows copy (Some sessions) same rising makes = clients_apart rows (subst IsTable same makes.1)

pub calls_apart : (rows copy : List Waiter) → copy ≡ rows → CallsDiffer copy → true ≡ calls_differ rows
calls_apart rows copy same differ = sym (calls_pass rows (subst CallsDiffer same differ))

pub calls_alike : (rows copy : List Waiter) → copy ≡ rows → (CallsDiffer copy → ⊥) → false ≡ calls_differ rows
calls_alike rows copy same none = by (calls_differ rows) refl
  where
    by : (b : Bool) → calls_differ rows ≡ b → false ≡ b
    by true h = absurd (none (subst CallsDiffer (sym same) (calls_are rows h)))
    by false h = refl

-- there are no more waiters than the limit
pub too_many : (rows copy : List Waiter) → copy ≡ rows → most < length copy → length rows ≤ most → false ≡ calls_differ rows
too_many rows copy same more few = let count : length copy ≡ length rows = ap (λ (ws : List Waiter). length ws) same in absurd (omega (arith, count, more, few))

-- ---- sums of what sessions hold

-- what was added, and what is still to be added
pub record AreAdded (sums : List (List ℕ × ℕ)) (rest all : Holdings) : Type 0 where
  pub bound : (name : List ℕ) → sum_under sums name ≤ 2 ^ 64 - 1
  pub sum : (name : List ℕ) → min (sum_under sums name + held_by_all name rest) (2 ^ 64 - 1) ≡ min (held_by_all name all) (2 ^ 64 - 1)

from_nothing : (n : ℕ) → 0 + n ≡ n
from_nothing n = omega arith

pub none_added : (sums : List (List ℕ × ℕ)) (all : Holdings) → sums ≡ [] → AreAdded sums all all
none_added sums all none = rw none (record { bound = λ name. omega arith; sum = λ name. ap (λ (n : ℕ). min n (2 ^ 64 - 1)) (from_nothing (held_by_all name all)) })

sum_put : (sums : List (List ℕ × ℕ)) (name : List ℕ) (n : ℕ) (q : List ℕ) → sum_under (put name_cmp sums name n) q ≡ cond (bytes_eq q name) n (sum_under sums q)
sum_put sums name n q = by (bytes_eq q name) refl
  where
    by : (b : Bool) → bytes_eq q name ≡ b → sum_under (put name_cmp sums name n) q ≡ cond b n (sum_under sums q)
    by true h = let same : q ≡ name = (bytes_eq-Decides q name).0 h in
        ap (λ (k : List ℕ). unwrap_or (find name_cmp (put name_cmp sums name n) k) 0) same ∙ ap (λ (o : Option ℕ). unwrap_or o 0) (find-put_same name_cmp name_key sums name n)
    by false h = ap (λ (o : Option ℕ). unwrap_or o 0) (find-put_other name_cmp name_key sums name q n (is_at_apart name_cmp name_key q name (λ same. no_true (sym ((bytes_eq-Decides q name).1 same) ∙ h))))

capped : (a p rest cap : ℕ) → min (min (a + p) cap + rest) cap ≡ min (a + (p + rest)) cap
capped a p rest cap = omega arith

below_cap : (a cap : ℕ) → min a cap ≤ cap
below_cap a cap = omega arith

pub one_added : (sums next : List (List ℕ × ℕ)) (e : (ℕ × List ℕ) × ℕ) (rest after all : Holdings) → next ≡ put name_cmp sums e.0.1 (min (sum_under sums e.0.1 + e.1) (2 ^ 64 - 1)) → rest ≡ e ∷ after → AreAdded sums rest all → AreAdded next after all
one_added sums next e rest after all is first added = record {
  bound = λ q. subst (λ (n : ℕ). n ≤ 2 ^ 64 - 1) (sym (at q)) (bounded q (bytes_eq q e.0.1));
  sum = λ q. ap (λ (n : ℕ). min (n + held_by_all q after) (2 ^ 64 - 1)) (at q) ∙ stepped q (bytes_eq q e.0.1) refl ∙ ap (λ (xs : Holdings). min (sum_under sums q + held_by_all q xs) (2 ^ 64 - 1)) (sym first) ∙ added.sum q;
}
  where
    at : (q : List ℕ) → sum_under next q ≡ cond (bytes_eq q e.0.1) (min (sum_under sums e.0.1 + e.1) (2 ^ 64 - 1)) (sum_under sums q)
    at q = ap (λ (s : List (List ℕ × ℕ)). sum_under s q) is ∙ sum_put sums e.0.1 (min (sum_under sums e.0.1 + e.1) (2 ^ 64 - 1)) q

    bounded : (q : List ℕ) (b : Bool) → cond b (min (sum_under sums e.0.1 + e.1) (2 ^ 64 - 1)) (sum_under sums q) ≤ 2 ^ 64 - 1
    bounded q true = below_cap (sum_under sums e.0.1 + e.1) (2 ^ 64 - 1)
    bounded q false = added.bound q

    stepped : (q : List ℕ) (b : Bool) → bytes_eq q e.0.1 ≡ b → min (cond b (min (sum_under sums e.0.1 + e.1) (2 ^ 64 - 1)) (sum_under sums q) + held_by_all q after) (2 ^ 64 - 1) ≡ min (sum_under sums q + held_by_all q (e ∷ after)) (2 ^ 64 - 1)
    stepped q true h = let same : e.0.1 ≡ q = sym ((bytes_eq-Decides q e.0.1).0 h) in
        rw h (ap (λ (k : List ℕ). min (min (sum_under sums k + e.1) (2 ^ 64 - 1) + held_by_all q after) (2 ^ 64 - 1)) same ∙ capped (sum_under sums q) e.1 (held_by_all q after) (2 ^ 64 - 1))
    stepped q false h = rw h (ap (λ (n : ℕ). min (sum_under sums q + n) (2 ^ 64 - 1)) (sym (from_nothing (held_by_all q after))))

nothing_left : (rest : Holdings) → length rest ≡ 0 → rest ≡ []
nothing_left rest none = nil_from_length rest none

pub all_added : (sums : List (List ℕ × ℕ)) (rest all : Holdings) → length rest ≡ 0 → AreAdded sums rest all → AreSums sums all
all_added sums rest all empty added name =
    let none : rest ≡ [] = nothing_left rest empty in
    let whole : min (sum_under sums name + held_by_all name []) (2 ^ 64 - 1) ≡ min (held_by_all name all) (2 ^ 64 - 1) = ap (λ (xs : Holdings). min (sum_under sums name + held_by_all name xs) (2 ^ 64 - 1)) (sym none) ∙ added.sum name in
    let bound : sum_under sums name ≤ 2 ^ 64 - 1 = added.bound name in
    ends (sum_under sums name) (2 ^ 64 - 1) bound ∙ whole
  where
    ends : (n cap : ℕ) → n ≤ cap → n ≡ min (n + 0) cap
    ends n cap le = omega arith

-- ---- permits are balanced by the sums where they are

same_test : (t a : ℤ) (n : ℕ) → IsPermits t → IsPermits a → int_eq t (a +ℤ pos (min n (2 ^ 64 - 1))) ≡ int_eq t (a +ℤ pos n)
same_test t a n ht ha = let least = ht.least in let most = ht.most in let low = ha.least in let high = ha.most in grind (arith, ints)

pub by_sums : (sums : List (List ℕ × ℕ)) (s : Semaphores) (rows : List (Object × SemaphoreRow)) → AreSums sums s.holdings → AllByRecursion SemaphoreFits rows → are_balanced_by sums rows ≡ list_all (λ e. int_eq e.1.total (e.1.available +ℤ pos (held_of e.0 s.holdings))) rows
by_sums sums s [] are fits = refl
by_sums sums s (e ∷ es) are fits = ap (λ (b : Bool). b && are_balanced_by sums es) (by (is_held e.0.1)) ∙ ap (λ (b : Bool). int_eq e.1.total (e.1.available +ℤ pos (held_of e.0 s.holdings)) && b) (by_sums sums s es are fits.1)
  where
    by : (b : Bool) → int_eq e.1.total (e.1.available +ℤ pos (cond b (sum_under sums e.0.0) 0)) ≡ int_eq e.1.total (e.1.available +ℤ pos (cond b (held_by_all e.0.0 s.holdings) 0))
    by true = ap (λ (n : ℕ). int_eq e.1.total (e.1.available +ℤ pos n)) (are e.0.0) ∙ same_test e.1.total e.1.available (held_by_all e.0.0 s.holdings) fits.0.total fits.0.available
    by false = refl

pub balanced_told : (b : Bool) (sums : List (List ℕ × ℕ)) (rows : List (Object × SemaphoreRow)) (holdings : Holdings) → b ≡ are_balanced_by sums rows → AreSums sums holdings → AllByRecursion SemaphoreFits rows → b ≡ list_all (λ e. int_eq e.1.total (e.1.available +ℤ pos (held_of e.0 holdings))) rows
balanced_told b sums rows holdings told are fits = told ∙ by_sums sums (record { rows = rows; holdings = holdings }) rows are fits

-- ---- copies

module _ {A : Type 0} where
  pub moved : (front next left rest all : List A) (x : A) → left ≡ x ∷ rest → next ≡ front ++ x ∷ [] → front ++ left ≡ all → next ++ rest ≡ all
  moved front next left rest all x first push so_far =
      ap (λ (xs : List A). xs ++ rest) push ∙ append_assoc front (x ∷ []) rest ∙ ap (λ (xs : List A). front ++ xs) (sym first) ∙ so_far

  pub all_moved : (front left all : List A) → length left ≡ 0 → front ++ left ≡ all → front ≡ all
  all_moved front left all empty so_far = sym (append-nil front) ∙ ap (λ (xs : List A). front ++ xs) (sym (nil_from_length left empty)) ∙ so_far
