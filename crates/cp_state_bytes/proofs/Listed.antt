-- What the spelling of a list says of it, and which lists have one.
use Rattle.std.proofs.Common.{ℕ, ◌-◌, ◌^◌, ◌≤◌, List, [], ◌∷◌, ◌++◌, length, Option, refl, sym, subst, arith}
use Rattle.std.specs.Prelude.{ℤ}
use Rattle.std.specs.List.{AllByRecursion}
use Rattle.std.specs.declared.cmp.Ordering.{Ordering}
use Rattle.std.specs.Ordering.{nat_cmp}
use Rattle.std.specs.Cmp.{IsTotalOrder}
use Rattle.std.proofs.lemmas.Cmp.{nat_cmp_total, nat_list_cmp_total, on_total, then_total}
use Rattle.std.specs.List.Sorted.{IsStrictlySortedBy}
use Rattle.cp_grammar.specs.Lists.{ItemsFit, each}
use Rattle.cp_group_state.specs.Rows.{Named, Object, most, name_cmp, object_cmp, holding_cmp, holder_cmp, pair_cmp}
use Rattle.cp_group_state.specs.Latches.{counted_calls, most_counted}
use Rattle.cp_group_state.specs.Invariants.{IsRising}
use Rattle.cp_group_state.specs.declared.rows.SessionRow.{SessionRow}
use Rattle.cp_group_state.specs.declared.rows.LockRow.{LockRow}
use Rattle.cp_group_state.specs.declared.rows.SemaphoreRow.{SemaphoreRow}
use Rattle.cp_group_state.specs.declared.rows.LatchRow.{LatchRow}
use Rattle.cp_group_state.specs.declared.rows.Waiter.{Waiter}
use Rattle.cp_group_state.specs.declared.rows.MemoryRow.{MemoryRow}
use Rattle.cp_group_state.proofs.Ordered.{object_total}
use Rattle.cp_group_ranges.specs.Rows.{SessionFits, LockFits, SemaphoreFits, HoldingFits, LatchFits, LongFits, RefFits, PairFits, GoneFits, WaiterFits, MemoryFits}
use Rattle.cp_group_ranges.proofs.Calls.{holder_total}
use Rattle.cp_state_bytes.specs.declared.version.Version.{Version}
use Rattle.cp_state_bytes.specs.declared.version.Version.TheVariants as versions
use Rattle.cp_state_bytes.specs.Keys.{held_cmp}
use Rattle.cp_state_bytes.specs.Rows.{session_row, lock_row, semaphore_row, held_row, latch_row, long_row, ref_row, gone_row, waiter_row, memory_row, pair_row}
use Rattle.cp_state_bytes.specs.Lists.{by_session, by_name, Holdings, Held, session_list, lock_list, semaphore_list, held_list, holding_list, latch_list, long_list, ref_list, gone_list, waiter_list, memory_list, pair_list}
use Rattle.cp_state_bytes.proofs.Behind.{rows_fit, rows_rise}
use Rattle.cp_state_bytes.proofs.Facts.{Any, FewCounted, LockFields, HeldFits, session_fits, session_facts, lock_fits, lock_facts, semaphore_fits, semaphore_facts, held_fits, held_facts, latch_fits, latch_facts, long_fits, long_facts, ref_fits, ref_facts, gone_fits, gone_facts, waiter_fits, waiter_facts, memory_fits, memory_facts, pair_fits, pair_facts}
use Rattle.cp_state_bytes.proofs.Resorted.{held_total, by_session-by_name, by_name-rises, by_session-rises, each-by_name, each-by_session, length-by_name, length-by_session}

-- at most so many rows, each of which has a property, by rising keys
pub record AreRows {K X : Type 0} (limit : ℕ) (P : K × X → Type 0) (cmp : K → K → Ordering) (rows : List (K × X)) : Type 0 where
  pub few : length rows ≤ limit
  pub each : AllByRecursion P rows
  pub rising : IsRising cmp rows

pub session_list_fits : (rows : List (ℕ × SessionRow)) → AreRows most SessionFits nat_cmp rows → session_list.Fits rows
unfolding session_list
session_list_fits rows are = (are.few, (refl, rows_fit nat_cmp nat_cmp_total session_row SessionFits Any session_fits rows tt are.each are.rising))

pub session_list_facts : (rows : List (ℕ × SessionRow)) → session_list.Fits rows → AreRows most SessionFits nat_cmp rows
unfolding session_list
session_list_facts rows h = let r = rows_rise nat_cmp nat_cmp_total session_row SessionFits Any session_facts rows tt h.1.1 in record { few = h.0; each = r.0; rising = r.1 }

pub lock_list_fits : (rows : Named LockRow) → AreRows most LockFits name_cmp rows → lock_list.Fits rows
unfolding lock_list
lock_list_fits rows are = (are.few, (refl, rows_fit name_cmp nat_list_cmp_total lock_row LockFits Any lock_fits rows tt are.each are.rising))

pub lock_list_facts : (rows : Named LockRow) → lock_list.Fits rows → AreRows most LockFields name_cmp rows
unfolding lock_list
lock_list_facts rows h = let r = rows_rise name_cmp nat_list_cmp_total lock_row LockFields Any lock_facts rows tt h.1.1 in record { few = h.0; each = r.0; rising = r.1 }

pub semaphore_list_fits : (rows : List (Object × SemaphoreRow)) → AreRows most SemaphoreFits object_cmp rows → semaphore_list.Fits rows
unfolding semaphore_list
semaphore_list_fits rows are = (are.few, (refl, rows_fit object_cmp object_total semaphore_row SemaphoreFits Any semaphore_fits rows tt are.each are.rising))

pub semaphore_list_facts : (rows : List (Object × SemaphoreRow)) → semaphore_list.Fits rows → AreRows most SemaphoreFits object_cmp rows
unfolding semaphore_list
semaphore_list_facts rows h = let r = rows_rise object_cmp object_total semaphore_row SemaphoreFits Any semaphore_facts rows tt h.1.1 in record { few = h.0; each = r.0; rising = r.1 }

pub held_list_fits : (rows : Held) → AreRows (2 ^ 32 - 1) HeldFits held_cmp rows → held_list.Fits rows
unfolding held_list
held_list_fits rows are = (are.few, (refl, rows_fit held_cmp held_total held_row HeldFits Any held_fits rows tt are.each are.rising))

pub held_list_facts : (rows : Held) → held_list.Fits rows → AreRows (2 ^ 32 - 1) HeldFits held_cmp rows
unfolding held_list
held_list_facts rows h = let r = rows_rise held_cmp held_total held_row HeldFits Any held_facts rows tt h.1.1 in record { few = h.0; each = r.0; rising = r.1 }

pub holding_list_fits : (rows : Holdings) → AreRows (2 ^ 32 - 1) HoldingFits holding_cmp rows → holding_list.Fits rows
unfolding holding_list
holding_list_fits rows are = (
  held_list_fits (by_name rows) (record {
    few = omega (arith, are.few, length-by_name rows);
    each = each-by_name HoldingFits HeldFits (λ e h. record { row = h }) rows are.each;
    rising = by_name-rises rows;
  }),
  by_session-by_name rows are.rising,
)

pub holding_list_facts : (rows : Holdings) → holding_list.Fits rows → AreRows (2 ^ 32 - 1) HoldingFits holding_cmp rows
unfolding holding_list
holding_list_facts rows h =
    let r = held_list_facts (by_name rows) h.0 in
    let few : length (by_session (by_name rows)) ≤ 2 ^ 32 - 1 = omega (arith, r.few, length-by_session (by_name rows)) in
    subst (λ xs. AreRows (2 ^ 32 - 1) HoldingFits holding_cmp xs) h.1 (record { few = few; each = each-by_session HeldFits HoldingFits (λ e f. f.row) (by_name rows) r.each; rising = by_session-rises (by_name rows) })

pub latch_list_fits : (rows : Named LatchRow) → AreRows most LatchFits name_cmp rows → counted_calls rows ≤ most_counted → latch_list.Fits rows
unfolding latch_list
latch_list_fits rows are counted = (are.few, (refl, rows_fit name_cmp nat_list_cmp_total latch_row LatchFits FewCounted latch_fits rows (record { most = counted }) are.each are.rising))

pub latch_list_facts : (rows : Named LatchRow) → latch_list.Fits rows → AreRows most LatchFits name_cmp rows × (counted_calls rows ≤ most_counted)
unfolding latch_list
latch_list_facts rows h = let r = rows_rise name_cmp nat_list_cmp_total latch_row LatchFits FewCounted latch_facts rows (record { most = omega arith }) h.1.1 in (record { few = h.0; each = r.0; rising = r.1 }, r.2.most)

pub long_list_fits : (rows : Named ℤ) → AreRows most LongFits name_cmp rows → long_list.Fits rows
unfolding long_list
long_list_fits rows are = (are.few, (refl, rows_fit name_cmp nat_list_cmp_total long_row LongFits Any long_fits rows tt are.each are.rising))

pub long_list_facts : (rows : Named ℤ) → long_list.Fits rows → AreRows most LongFits name_cmp rows
unfolding long_list
long_list_facts rows h = let r = rows_rise name_cmp nat_list_cmp_total long_row LongFits Any long_facts rows tt h.1.1 in record { few = h.0; each = r.0; rising = r.1 }

pub ref_list_fits : (rows : Named (Option (List ℕ))) → AreRows most RefFits name_cmp rows → (ref_list versions.Third).Fits rows
unfolding ref_list
ref_list_fits rows are = (are.few, (refl, rows_fit name_cmp nat_list_cmp_total (ref_row versions.Third) RefFits Any ref_fits rows tt are.each are.rising))

pub ref_list_facts : (version : Version) (rows : Named (Option (List ℕ))) → (ref_list version).Fits rows → AreRows most RefFits name_cmp rows
unfolding ref_list
ref_list_facts version rows h = let r = rows_rise name_cmp nat_list_cmp_total (ref_row version) RefFits Any (ref_facts version) rows tt h.1.1 in record { few = h.0; each = r.0; rising = r.1 }

pub gone_list_fits : (rows : List (Object × Unit {0})) → AreRows most GoneFits object_cmp rows → (gone_list versions.Third).Fits rows
unfolding gone_list
gone_list_fits rows are = (are.few, (refl, rows_fit object_cmp object_total (gone_row versions.Third) GoneFits Any gone_fits rows tt are.each are.rising))

pub gone_list_facts : (version : Version) (rows : List (Object × Unit {0})) → (gone_list version).Fits rows → AreRows most GoneFits object_cmp rows
unfolding gone_list
gone_list_facts version rows h = let r = rows_rise object_cmp object_total (gone_row version) GoneFits Any (gone_facts version) rows tt h.1.1 in record { few = h.0; each = r.0; rising = r.1 }

waiters_fit : (before rows : List Waiter) → AllByRecursion WaiterFits rows → ItemsFit (each waiter_row) before rows
unfolding ItemsFit each
waiters_fit before [] all = tt
waiters_fit before (w ∷ ws) all = (waiter_fits w all.0, waiters_fit (before ++ w ∷ []) ws all.1)

waiters_facts : (before rows : List Waiter) → ItemsFit (each waiter_row) before rows → AllByRecursion WaiterFits rows
unfolding ItemsFit each
waiters_facts before [] fit = tt
waiters_facts before (w ∷ ws) fit = (waiter_facts w fit.0, waiters_facts (before ++ w ∷ []) ws fit.1)

pub waiter_list_fits : (rows : List Waiter) → length rows ≤ most → AllByRecursion WaiterFits rows → waiter_list.Fits rows
unfolding waiter_list
waiter_list_fits rows few all = (few, (refl, waiters_fit [] rows all))

pub waiter_list_facts : (rows : List Waiter) → waiter_list.Fits rows → (length rows ≤ most) × AllByRecursion WaiterFits rows
unfolding waiter_list
waiter_list_facts rows h = (h.0, waiters_facts [] rows h.1.1)

pub memory_list_fits : (rows : List ((ℕ × ℕ) × MemoryRow)) → AreRows (2 ^ 32 - 1) MemoryFits holder_cmp rows → (memory_list versions.Third).Fits rows
unfolding memory_list
memory_list_fits rows are = (are.few, (refl, rows_fit holder_cmp holder_total (memory_row versions.Third) MemoryFits Any memory_fits rows tt are.each are.rising))

pub memory_list_facts : (version : Version) (rows : List ((ℕ × ℕ) × MemoryRow)) → (memory_list version).Fits rows → AreRows (2 ^ 32 - 1) MemoryFits holder_cmp rows
unfolding memory_list
memory_list_facts version rows h = let r = rows_rise holder_cmp holder_total (memory_row version) MemoryFits Any (memory_facts version) rows tt h.1.1 in record { few = h.0; each = r.0; rising = r.1 }

pub pair_total : IsTotalOrder pair_cmp
pair_total = then_total (on_total (λ (k : List ℕ × List ℕ). k.0) nat_list_cmp_total) (on_total (λ (k : List ℕ × List ℕ). k.1) nat_list_cmp_total)

no_pairs : AreRows most PairFits pair_cmp []
unfolding IsStrictlySortedBy
no_pairs = record { few = omega arith; each = tt; rising = tt }

pub pair_list_fits : (rows : List ((List ℕ × List ℕ) × List ℕ)) → AreRows most PairFits pair_cmp rows → (pair_list versions.Third).Fits rows
unfolding pair_list
pair_list_fits rows are = (are.few, (refl, rows_fit pair_cmp pair_total pair_row PairFits Any pair_fits rows tt are.each are.rising))

pub pair_list_facts : (version : Version) (rows : List ((List ℕ × List ℕ) × List ℕ)) → (pair_list version).Fits rows → AreRows most PairFits pair_cmp rows
unfolding pair_list
pair_list_facts versions.First rows h = subst (λ xs. AreRows most PairFits pair_cmp xs) (sym h) no_pairs
pair_list_facts versions.Second rows h = subst (λ xs. AreRows most PairFits pair_cmp xs) (sym h) no_pairs
pair_list_facts versions.Third rows h = let r = rows_rise pair_cmp pair_total pair_row PairFits Any pair_facts rows tt h.1.1 in record { few = h.0; each = r.0; rising = r.1 }
