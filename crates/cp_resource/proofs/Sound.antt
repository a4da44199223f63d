-- What the rows of a sound state keep, table by table.
use Rattle.std.proofs.Common.{◌≡◌, ◌≤◌, ◌^◌, ℕ, zero, suc, ℤ, Bool, true, false, List, [], ◌∷◌, Option, Some, subst, arith, cond}
use Rattle.std.proofs.Math.Dec.{eqb-suc-zero}
use Rattle.std.specs.Prelude.{◌==◌, ◌-◌, IsTrue, nat_le, pos, ◌≤ℤ◌, ◌<ℤ◌}
use Rattle.std.specs.Map.{values_of}
use Rattle.cp_group_state.specs.declared.rows.LockRow.{LockRow}
use Rattle.cp_group_state.specs.Invariants.{IsHeldOrFree, LocksWell}
use Rattle.std.specs.List.{AllByRecursion}
use Rattle.std.specs.Ordering.{is_eq}
use Rattle.std.proofs.lemmas.List.Elements.{All-nil, All-cons}
use Rattle.std.proofs.lemmas.Int.{ints}
use Rattle.cp_grammar.specs.Common.{index}
use Rattle.cp_group_state.specs.declared.rows.LatchRow.{LatchRow}
use Rattle.cp_group_state.specs.declared.rows.SemaphoreRow.{SemaphoreRow}
use Rattle.cp_group_state.specs.Rows.{Named, Object, find, object_cmp}
use Rattle.cp_group_state.specs.GroupState.{GroupState}
use Rattle.cp_latch.specs.Rounds.{AreRounds}
use Rattle.cp_lock.specs.Tables as locks
use Rattle.cp_session.specs.Tables as sessions
use Rattle.cp_semaphore.specs.Tables as semaphores
use Rattle.cp_group_ranges.specs.Rows.{SemaphoreFits, HoldingFits, LatchFits, LockFits}
use Rattle.cp_group_ranges.specs.States.{IsSound}
use Rattle.cp_resource.specs.States.{HoldSome}

pub sessions_table : (s : GroupState) → IsSound s → sessions.IsTable s.sessions
sessions_table s h = record { rising = h.ordered.sessions; one = h.one_session }

well : (rows : Named LockRow) → AllByRecursion LockFits rows → LocksWell rows
well [] all = All-nil IsHeldOrFree
well (e ∷ es) all = All-cons IsHeldOrFree e.1 (values_of es) all.0.held_or_free (well es all.1)

pub locks_table : (s : GroupState) → IsSound s → locks.IsTable s.locks
locks_table s h = record { rising = h.ordered.locks; well = well s.locks h.fits.locks }

round_of : (n : ℕ) → index.Fits n → n ≤ 2 ^ 62
unfolding index
round_of n h = h

all_rounds : (rows : Named LatchRow) → AllByRecursion LatchFits rows → AreRounds rows
all_rounds [] all = All-nil (λ (e : List ℕ × LatchRow). e.1.round ≤ 2 ^ 62)
all_rounds (e ∷ es) all = All-cons (λ (e : List ℕ × LatchRow). e.1.round ≤ 2 ^ 62) e es (round_of e.1.round all.0.round) (all_rounds es all.1)

pub rounds : (s : GroupState) → IsSound s → AreRounds s.latches
rounds s h = all_rounds s.latches h.fits.latches

one_or_more : (n : ℕ) → IsTrue (nat_le 1 n) → (n == 0) ≡ false
one_or_more zero h = cc
one_or_more (suc n) h = eqb-suc-zero n

all_some : (holdings : List ((ℕ × List ℕ) × ℕ)) → AllByRecursion HoldingFits holdings → HoldSome holdings
all_some [] all = tt
all_some (e ∷ es) all = (one_or_more e.1 all.0.permits.1, all_some es all.1)

pub hold_some : (s : GroupState) → IsSound s → HoldSome s.semaphores.holdings
hold_some s h = all_some s.semaphores.holdings h.fits.holdings

below : (z : ℤ) → z ≤ℤ pos (2 ^ 31 - 1) → z <ℤ pos (2 ^ 32)
below z h = omega (arith, ints, h)

within : (e : Object × SemaphoreRow) → SemaphoreFits e → semaphores.IsWithin e.1
within e h = record { low = h.available.least; high = below e.1.total h.total.most }

one_within : (e : Object × SemaphoreRow) (more : Option SemaphoreRow) (row : SemaphoreRow) (b : Bool) → semaphores.IsWithin e.1 → (more ≡ Some row → semaphores.IsWithin row) → cond b (Some e.1) more ≡ Some row → semaphores.IsWithin row
one_within e more row true first rest h = let same : e.1 ≡ row = cc in subst semaphores.IsWithin same first
one_within e more row false first rest h = rest h

all_within : (rows : List (Object × SemaphoreRow)) → AllByRecursion SemaphoreFits rows → semaphores.RowsWithin rows
all_within [] all key row there = cc
all_within (e ∷ es) all key row there = one_within e (find object_cmp es key) row (is_eq (object_cmp key e.0)) (within e all.0) (all_within es all.1 key row) there

pub semaphores_sound : (s : GroupState) → IsSound s → semaphores.IsSound s.semaphores
semaphores_sound s h = record {
  rows = h.ordered.semaphores;
  holdings = h.ordered.holdings;
  balanced = h.balanced;
  within = all_within s.semaphores.rows h.fits.semaphores;
  few = h.fits.limits.semaphores;
}
