-- Tables stay sound.
use Rattle.std.proofs.Common.{◌≡◌, ◌^◌, ◌<◌, ◌≤◌, ◌+◌, ℕ, Bool, true, false, List, [], ◌∷◌, Option, Some, None, refl, sym, subst, cond, arith}
use Rattle.std.specs.Prelude.{ℤ, pos, neg_ℤ, ◌+ℤ◌, ◌≤ℤ◌, ◌<ℤ◌, bytes_eq, unwrap_or, if◌then◌else◌}
use Rattle.std.specs.declared.cmp.Ordering.{Ordering}
use Rattle.std.specs.declared.cmp.Ordering.TheVariants.{Less, Equal, Greater}
use Rattle.std.specs.Ordering.{is_eq}
use Rattle.std.specs.BTreeMap.{BTreeMap}
use Rattle.std.specs.List.Sorted.{IsStrictlySortedBy}
use Rattle.std.specs.Prelude.{OnOk, OnErr}
use Rattle.std.specs.declared.result.Result.{Result}
use Rattle.std.specs.declared.result.Result.TheVariants.{Ok, Err}
use Rattle.std.proofs.lemmas.Int.{ints}
use Rattle.std.proofs.lemmas.Slice.Eq.{bytes_eq-Decides}
use Rattle.cp_op_values.specs.declared.kind.Kind.TheVariants as kind
use Rattle.cp_object_ops.specs.declared.sem_op.SemOp.{SemOp}
use Rattle.cp_group_state.specs.Rows.{Object, find, object_cmp, holding_cmp}
use Rattle.cp_group_state.specs.Semaphores.{Semaphores, held, is_held, sem_step}
use Rattle.cp_group_state.specs.Invariants.{IsBalanced, IsBalancedAt, held_by_all, held_of}
use Rattle.cp_group_state.specs.declared.rows.SemaphoreRow.{SemaphoreRow}
use Rattle.cp_group_state.proofs.Ordered.{step-rises, holding_key}
use Rattle.cp_group_state.proofs.Balance.{step-balanced}
use Rattle.cp_semaphore.specs.Tables.{seen, IsInRange, IsSound, IsTable, IsMet}
use Rattle.cp_semaphore.specs.Nested.{flat, IsNested}
use Rattle.cp_semaphore.specs.Fitting.{Fits}
use Rattle.cp_semaphore.specs.declared.tables.Tables.{Tables}
use Rattle.cp_semaphore.proofs.Within.{within-step, few-step}

-- a session holds no more of a name than all do together
pub one-of-all : (session : ℕ) (name : List ℕ) (h : List ((ℕ × List ℕ) × ℕ)) → held h session name ≤ held_by_all name h
one-of-all session name [] = omega arith
one-of-all session name (e ∷ es) = by (holding_cmp (session, name) e.0) refl (one-of-all session name es)
  where
    name_itself : bytes_eq name name ≡ true
    name_itself = (bytes_eq-Decides name name).1 refl

    by : (o : Ordering) → holding_cmp (session, name) e.0 ≡ o → held es session name ≤ held_by_all name es
        → unwrap_or (cond (is_eq o) (Some e.1) (find holding_cmp es (session, name))) 0 ≤ (if bytes_eq name e.0.1 then e.1 else 0) + held_by_all name es
    by Less i rest = omega arith
    by Greater i rest = omega arith
    by Equal i rest = let here : bytes_eq name e.0.1 ≡ true = subst (λ (q : ℕ × List ℕ). bytes_eq name q.1 ≡ true) (holding_key.same (session, name) e.0 i) name_itself in
        rw here (omega arith)

pub balance-at : (s : Semaphores) (key : Object) (row : SemaphoreRow) → IsBalanced s → find object_cmp s.rows key ≡ Some row → row.total ≡ row.available +ℤ pos (held_of key s.holdings)
balance-at s key row b is = subst (λ (o : Option SemaphoreRow). IsBalancedAt o (held_of key s.holdings)) is (b key)

between : (t a : ℤ) (n : ℕ) → t ≡ a +ℤ pos n → a ≤ℤ t
between t a n h = omega (arith, ints)

all-few : (t a : ℤ) (n : ℕ) → t ≡ a +ℤ pos n → neg_ℤ (pos (2 ^ 31)) ≤ℤ a → t <ℤ pos (2 ^ 32) → n < 2 ^ 33
all-few t a n h low high = omega (arith, ints)

held-few : (s : Semaphores) (name : List ℕ) → IsSound s → held_by_all name s.holdings < 2 ^ 33
held-few s name is = by (find object_cmp s.rows (name, kind.Sem)) refl
  where
    by : (o : Option SemaphoreRow) → find object_cmp s.rows (name, kind.Sem) ≡ o → held_by_all name s.holdings < 2 ^ 33
    by None there = let none : held_by_all name s.holdings ≡ 0 = subst (λ (o : Option SemaphoreRow). IsBalancedAt o (held_by_all name s.holdings)) there (is.balanced (name, kind.Sem)) in omega arith
    by (Some row) there = all-few row.total row.available (held_by_all name s.holdings) (balance-at s (name, kind.Sem) row is.balanced there) (is.within (name, kind.Sem) row there).low (is.within (name, kind.Sem) row there).high

pub in-range : (s : Semaphores) (key : Object) (row : SemaphoreRow) → IsSound s → find object_cmp s.rows key ≡ Some row → IsInRange row
in-range s key row is there = record {
  low = (is.within key row there).low;
  between = between row.total row.available (held_of key s.holdings) (balance-at s key row is.balanced there);
  high = (is.within key row there).high;
}

-- what a call meets
pub met : (t : Tables) (key : Object) (row : SemaphoreRow) → IsTable t → find object_cmp t.rows.entries key ≡ Some row → IsMet t key row
met t key row is there = record {
  there = there;
  nested = is.nested;
  range = in-range (seen t) key row is.sound there;
  fits = λ session. let few = held-few (seen t) key.0 is.sound in let one = one-of-all session key.0 (flat t.holdings.entries) in omega arith;
}

pub sound-step : (key : Object) (o : SemOp) (s : Semaphores) → Fits o → IsSound s → IsSound (sem_step key o s).after
sound-step key o s fits is = let rises = step-rises key o s (is.rows, is.holdings) in record {
  rows = rises.0;
  holdings = rises.1;
  balanced = step-balanced key o s (is.rows, is.holdings) is.balanced;
  within = within-step key o s fits is.within;
  few = few-step key o s is.rows is.few;
}

-- an operation leaves a table a table
pub kept-step : {A E : Type 0} (r : Result A E) (key : Object) (o : SemOp) (t u : Tables) → Fits o → IsTable t → OnOk r (seen u ≡ (sem_step key o (seen t)).after) → OnErr r (seen u ≡ seen t) → IsNested u.holdings.entries → IsTable u
kept-step (Ok a) key o t u fits is after same nested = record { nested = nested; sound = subst IsSound (sym after) (sound-step key o (seen t) fits is.sound) }
kept-step (Err e) key o t u fits is after same nested = record { nested = nested; sound = subst IsSound (sym same) is.sound }

none-held : (key : Object) → held_of key [] ≡ 0
none-held key = by (is_held key.1)
  where
    by : (b : Bool) → ◌≡◌ {A = ℕ} (if b then 0 else 0) 0
    by true = refl
    by false = refl

sound-first : IsSound (record { rows = []; holdings = [] })
unfolding IsStrictlySortedBy
sound-first = record {
  rows = tt;
  holdings = tt;
  balanced = none-held;
  within = λ key row there. absurd (no_row row there);
  few = omega arith;
}
  where
    no_row : (row : SemaphoreRow) → None ≡ Some row → ⊥
    no_row row e = cc

nested-first : IsNested []
unfolding IsStrictlySortedBy
nested-first = record { sessions = tt; names = λ session held there. absurd (no_map held there) }
  where
    no_map : (held : BTreeMap (List ℕ) ℕ) → None ≡ Some held → ⊥
    no_map held e = cc

pub first-table : (t : Tables) → t.rows.entries ≡ [] → t.holdings.entries ≡ [] → IsTable t
first-table t rows holdings = record {
  nested = subst IsNested (sym holdings) nested-first;
  sound = subst IsSound (λ i. record { rows = sym rows i; holdings = flat (sym holdings i) }) sound-first;
}
