-- What a row's spelling says of it: each field is within its range, and the key is behind the row before it.
use Rattle.std.proofs.Common.{◌≡◌, ℕ, ◌+◌, ◌-◌, ◌^◌, ◌≤◌, Bool, true, List, [], ◌∷◌, ◌++◌, length, Option, Some, None, refl, arith}
use Rattle.std.specs.Prelude.{ℤ, pos, neg_ℤ, ◌≤ℤ◌, int_le}
use Rattle.std.proofs.lemmas.Int.{ints}
use Rattle.std.specs.List.{sum_by}
use Rattle.std.proofs.lemmas.List.Sums.{sum-map, sum_by-append, sum_by-cons}
use Rattle.std.specs.List.{AllByRecursion}
use Rattle.std.specs.declared.cmp.Ordering.{Ordering}
use Rattle.std.specs.declared.cmp.Ordering.TheVariants.{Less, Equal, Greater}
use Rattle.std.specs.Ordering.{nat_cmp, is_lt, is_le, ordering_then}
use Rattle.std.proofs.lemmas.Bool.{and_parts}
use Rattle.cp_base.specs.declared.identifier.Invocation.{Invocation}
use Rattle.cp_grammar.specs.Fields.{number, optional}
use Rattle.cp_grammar.specs.Lists.{ItemsFit, each}
use Rattle.cp_grammar.specs.Common.{name, invocation}
use Rattle.cp_op_values.specs.declared.kind.Kind.{Kind}
use Rattle.cp_op_values.specs.Values.{reference}
use Rattle.cp_answers.specs.declared.answer.Answer.{Answer}
use Rattle.cp_answers.specs.declared.answer.Answer.TheVariants as answer
use Rattle.cp_answers.specs.Answers.{answer_within, answer_grammar}
use Rattle.cp_group_state.specs.Rows.{Object, name_cmp, object_cmp, holder_cmp, pair_cmp}
use Rattle.cp_group_state.specs.Latches.{counted_calls, most_counted}
use Rattle.cp_group_state.specs.Invariants.{IsHeldOrFree}
use Rattle.cp_group_state.specs.declared.rows.SessionRow.{SessionRow}
use Rattle.cp_group_state.specs.declared.rows.LockRow.{LockRow}
use Rattle.cp_group_state.specs.declared.rows.SemaphoreRow.{SemaphoreRow}
use Rattle.cp_group_state.specs.declared.rows.LatchRow.{LatchRow}
use Rattle.cp_group_state.specs.declared.rows.Waiter.{Waiter}
use Rattle.cp_group_state.specs.declared.rows.MemoryRow.{MemoryRow}
use Rattle.cp_group_ranges.specs.Rows.{SessionFits, LockFits, SemaphoreFits, HoldingFits, LatchFits, LongFits, RefFits, PairFits, GoneFits, WaiterFits, MemoryFits, IsPermits, is_semaphore}
use Rattle.cp_group_ranges.proofs.Fitting.{kind_fits, signed_permits}
use Rattle.cp_state_bytes.specs.declared.version.Version.{Version}
use Rattle.cp_state_bytes.specs.declared.version.Version.TheVariants as versions
use Rattle.cp_state_bytes.specs.Versions.{most_reference, has_kind}
use Rattle.cp_state_bytes.specs.Keys.{last_of, follows, is_behind, reaches, held_cmp}
use Rattle.cp_state_bytes.specs.Rows as rows
use Rattle.cp_state_bytes.specs.Rows.{name_behind, object_behind, session_row, lock_row, is_permits, semaphore_row, held_row, counted_list, latch_row, long_row, ref_row, gone_row, waiter_row, holder_behind, memory_row, place_behind, pair_row}

-- what holds of every list of rows
abbrev pub Any : {A : Type 0} → A → Type 0
Any x = Unit {0}

-- ---- sessions

pub session_fits : (before rest : List (ℕ × SessionRow)) (e : ℕ × SessionRow) → Any (before ++ e ∷ rest) → SessionFits e → is_behind nat_cmp before e.0 ≡ true → (session_row before).Fits e
unfolding session_row
session_fits before rest e q h b = (((h.number, b), (h.client, h.version)), refl)

pub session_facts : (before : List (ℕ × SessionRow)) (e : ℕ × SessionRow) → Any before → (session_row before).Fits e → SessionFits e × (is_behind nat_cmp before e.0 ≡ true) × Any (before ++ e ∷ [])
unfolding session_row
session_facts before e q h = (record { number = h.0.0.0; client = h.0.1.0; version = h.0.1.1 }, h.0.0.1, tt)

-- ---- locks; whether a row is held or free is no rule of its fields

pub record LockFields (e : List ℕ × LockRow) : Type 0 where
  pub fits : IsHeldOrFree e.1 → LockFits e

pub lock_fits : (before rest : List (List ℕ × LockRow)) (e : List ℕ × LockRow) → Any (before ++ e ∷ rest) → LockFits e → is_behind name_cmp before e.0 ≡ true → (lock_row before).Fits e
unfolding lock_row name_behind
lock_fits before rest e q h b = (((h.name, b), (h.session, (h.thread, (h.fence, h.holds)))), refl)

pub lock_facts : (before : List (List ℕ × LockRow)) (e : List ℕ × LockRow) → Any before → (lock_row before).Fits e → LockFields e × (is_behind name_cmp before e.0 ≡ true) × Any (before ++ e ∷ [])
unfolding lock_row name_behind
lock_facts before e q h = (record { fits = λ held. record { name = h.0.0.0; session = h.0.1.0; thread = h.0.1.1.0; fence = h.0.1.1.1.0; holds = h.0.1.1.1.1; held_or_free = held } }, h.0.0.1, tt)

-- ---- semaphores, and what sessions hold

within : (z : ℤ) → neg_ℤ (pos (2 ^ 31)) ≤ℤ z → z ≤ℤ pos (2 ^ 31 - 1) → is_permits z ≡ true
within z low high = grind (arith, ints)

permits_fit : (z : ℤ) → IsPermits z → rows.signed_permits.Fits z
unfolding rows.signed_permits
permits_fit z h = (signed_permits z h, within z h.least h.most)

at_least_le : (a b : ℤ) → int_le a b ≡ true → a ≤ℤ b
at_least_le a b h = grind (arith, ints)

permits_facts : (z : ℤ) → rows.signed_permits.Fits z → IsPermits z
unfolding rows.signed_permits
permits_facts z h =
    let two = and_parts (int_le (neg_ℤ (pos (2 ^ 31))) z) (int_le z (pos (2 ^ 31 - 1))) h.1 in
    record { least = at_least_le (neg_ℤ (pos (2 ^ 31))) z two.0; most = at_least_le z (pos (2 ^ 31 - 1)) two.1 }

pub object_fits : {X : Type 0} (kinds : Kind → Bool) (before : List (Object × X)) (o : Object) → name.Fits o.0 → kinds o.1 ≡ true → is_behind object_cmp before o ≡ true → (object_behind kinds before).Fits o
unfolding object_behind
object_fits kinds before o n k b = (((kind_fits o.1, k), (n, b)), refl)

pub semaphore_fits : (before rest : List (Object × SemaphoreRow)) (e : Object × SemaphoreRow) → Any (before ++ e ∷ rest) → SemaphoreFits e → is_behind object_cmp before e.0 ≡ true → (semaphore_row before).Fits e
unfolding semaphore_row
semaphore_fits before rest e q h b = ((object_fits is_semaphore before e.0 h.name h.kind b, (permits_fit e.1.total h.total, permits_fit e.1.available h.available)), refl)

pub semaphore_facts : (before : List (Object × SemaphoreRow)) (e : Object × SemaphoreRow) → Any before → (semaphore_row before).Fits e → SemaphoreFits e × (is_behind object_cmp before e.0 ≡ true) × Any (before ++ e ∷ [])
unfolding semaphore_row object_behind
semaphore_facts before e q h = (record { name = h.0.0.0.1.0; kind = h.0.0.0.0.1; total = permits_facts e.1.total h.0.1.0; available = permits_facts e.1.available h.0.1.1 }, h.0.0.0.1.1, tt)

-- a row of what sessions hold, by name
pub record HeldFits (e : (List ℕ × ℕ) × ℕ) : Type 0 where
  pub row : HoldingFits ((e.0.1, e.0.0), e.1)

pub held_fits : (before rest : List ((List ℕ × ℕ) × ℕ)) (e : (List ℕ × ℕ) × ℕ) → Any (before ++ e ∷ rest) → HeldFits e → is_behind held_cmp before e.0 ≡ true → (held_row before).Fits e
unfolding held_row
held_fits before rest e q h b = (((h.row.session, (h.row.name, b)), h.row.permits), refl)

pub held_facts : (before : List ((List ℕ × ℕ) × ℕ)) (e : (List ℕ × ℕ) × ℕ) → Any before → (held_row before).Fits e → HeldFits e × (is_behind held_cmp before e.0 ≡ true) × Any (before ++ e ∷ [])
unfolding held_row
held_facts before e q h = (record { row = record { session = h.0.0.0; name = h.0.0.1.0; permits = h.0.1 } }, h.0.0.1.1, tt)

-- ---- longs, references, maps

pub long_fits : (before rest : List (List ℕ × ℤ)) (e : List ℕ × ℤ) → Any (before ++ e ∷ rest) → LongFits e → is_behind name_cmp before e.0 ≡ true → (long_row before).Fits e
unfolding long_row name_behind
long_fits before rest e q h b = ((h.name, b), h.long)

pub long_facts : (before : List (List ℕ × ℤ)) (e : List ℕ × ℤ) → Any before → (long_row before).Fits e → LongFits e × (is_behind name_cmp before e.0 ≡ true) × Any (before ++ e ∷ [])
unfolding long_row name_behind
long_facts before e q h = (record { name = h.0.0; long = h.1 }, h.0.1, tt)

pub ref_fits : (before rest : List (List ℕ × Option (List ℕ))) (e : List ℕ × Option (List ℕ)) → Any (before ++ e ∷ rest) → RefFits e → is_behind name_cmp before e.0 ≡ true → (ref_row versions.Third before).Fits e
unfolding ref_row name_behind
ref_fits before rest e q h b = ((h.name, b), h.reference)

ref_more : (version : Version) (o : Option (List ℕ)) → (reference (most_reference version)).Fits o → (reference 4000).Fits o
unfolding reference
ref_more version None h = (omega arith, refl)
ref_more versions.First (Some xs) h = (omega arith, (omega (arith, h.1.0), refl))
ref_more versions.Second (Some xs) h = h
ref_more versions.Third (Some xs) h = h

pub ref_facts : (version : Version) (before : List (List ℕ × Option (List ℕ))) (e : List ℕ × Option (List ℕ)) → Any before → (ref_row version before).Fits e → RefFits e × (is_behind name_cmp before e.0 ≡ true) × Any (before ++ e ∷ [])
unfolding ref_row name_behind
ref_facts version before e q h = (record { name = h.0.0; reference = ref_more version e.1 h.1 }, h.0.1, tt)

-- keys of two parts in order have the first parts in order
first_follows : (o p : Ordering) → is_lt (ordering_then o p) ≡ true → is_le o ≡ true
first_follows Less p h = refl
first_follows Equal p h = refl
first_follows Greater p h = h

place_reaches : (o : Option ((List ℕ × List ℕ) × List ℕ)) (k : List ℕ × List ℕ) → follows pair_cmp o k ≡ true → reaches name_cmp (λ (p : List ℕ × List ℕ). p.0) o k.0 ≡ true
place_reaches None k h = refl
place_reaches (Some e) k h = first_follows (name_cmp e.0.0 k.0) (name_cmp e.0.1 k.1) h

pub pair_fits : (before rest : List ((List ℕ × List ℕ) × List ℕ)) (e : (List ℕ × List ℕ) × List ℕ) → Any (before ++ e ∷ rest) → PairFits e → is_behind pair_cmp before e.0 ≡ true → (pair_row before).Fits e
unfolding pair_row place_behind
pair_fits before rest e q h b = (((h.name, place_reaches (last_of before) e.0 b), (h.key, b)), h.value)

pub pair_facts : (before : List ((List ℕ × List ℕ) × List ℕ)) (e : (List ℕ × List ℕ) × List ℕ) → Any before → (pair_row before).Fits e → PairFits e × (is_behind pair_cmp before e.0 ≡ true) × Any (before ++ e ∷ [])
unfolding pair_row place_behind
pair_facts before e q h = (record { name = h.0.0.0; key = h.0.1.0; value = h.1 }, h.0.1.1, tt)

-- ---- latches: all of them together have only so many counted calls

pub record FewCounted (before : List (List ℕ × LatchRow)) : Type 0 where
  pub most : counted_calls before ≤ most_counted

by_sums : (rows : List (List ℕ × LatchRow)) → counted_calls rows ≡ sum_by (λ e. length e.1.counted) rows
by_sums rows = sum-map (λ (e : List ℕ × LatchRow). length e.1.counted) rows

pub counted_push : (before rest : List (List ℕ × LatchRow)) (e : List ℕ × LatchRow) → counted_calls (before ++ e ∷ rest) ≡ counted_calls before + (length e.1.counted + counted_calls rest)
counted_push before rest e =
    omega (arith, by_sums (before ++ e ∷ rest), by_sums before, by_sums rest, sum_by-append (λ (x : List ℕ × LatchRow). length x.1.counted) before (e ∷ rest), sum_by-cons (λ (x : List ℕ × LatchRow). length x.1.counted) e rest)

pub each_fits : (before calls : List Invocation) → AllByRecursion invocation.Fits calls → ItemsFit (each invocation) before calls
unfolding ItemsFit each
each_fits before [] all = tt
each_fits before (c ∷ cs) all = (all.0, each_fits (before ++ c ∷ []) cs all.1)

pub each_facts : (before calls : List Invocation) → ItemsFit (each invocation) before calls → AllByRecursion invocation.Fits calls
unfolding ItemsFit each
each_facts before [] fit = tt
each_facts before (c ∷ cs) fit = (fit.0, each_facts (before ++ c ∷ []) cs fit.1)

pub latch_fits : (before rest : List (List ℕ × LatchRow)) (e : List ℕ × LatchRow) → FewCounted (before ++ e ∷ rest) → LatchFits e → is_behind name_cmp before e.0 ≡ true → (latch_row before).Fits e
unfolding latch_row name_behind counted_list
latch_fits before rest e q h b =
    let few : length e.1.counted ≤ most_counted - counted_calls before = omega (arith, q.most, counted_push before rest e) in
    (((h.name, b), (h.round, (h.count, (few, (refl, each_fits [] e.1.counted h.counted))))), refl)

pub latch_facts : (before : List (List ℕ × LatchRow)) (e : List ℕ × LatchRow) → FewCounted before → (latch_row before).Fits e → LatchFits e × (is_behind name_cmp before e.0 ≡ true) × FewCounted (before ++ e ∷ [])
unfolding latch_row name_behind counted_list
latch_facts before e q h =
    let few : counted_calls (before ++ e ∷ []) ≤ most_counted = omega (arith, q.most, counted_push before [] e, h.0.1.1.1.0) in
    (record { name = h.0.0.0; round = h.0.1.0; count = h.0.1.1.0; counted = each_facts [] e.1.counted h.0.1.1.1.1.1 }, h.0.0.1, record { most = few })

-- ---- destroyed objects

pub gone_fits : (before rest : List (Object × Unit {0})) (e : Object × Unit {0}) → Any (before ++ e ∷ rest) → GoneFits e → is_behind object_cmp before e.0 ≡ true → (gone_row versions.Third before).Fits e
unfolding gone_row
gone_fits before rest e q h b = (object_fits (has_kind versions.Third) before e.0 h.name refl b, refl)

pub gone_facts : (version : Version) (before : List (Object × Unit {0})) (e : Object × Unit {0}) → Any before → (gone_row version before).Fits e → GoneFits e × (is_behind object_cmp before e.0 ≡ true) × Any (before ++ e ∷ [])
unfolding gone_row object_behind
gone_facts version before e q h = (record { name = h.0.0.1.0; kind = h.0.0.0.0 }, h.0.0.1.1, tt)

-- ---- what is remembered of threads

holder_reaches : (o : Option ((ℕ × ℕ) × MemoryRow)) (k : ℕ × ℕ) → follows holder_cmp o k ≡ true → reaches nat_cmp (λ (p : ℕ × ℕ). p.0) o k.0 ≡ true
holder_reaches None k h = refl
holder_reaches (Some e) k h = first_follows (nat_cmp e.0.0 k.0) (nat_cmp e.0.1 k.1) h

pub memory_fits : (before rest : List ((ℕ × ℕ) × MemoryRow)) (e : (ℕ × ℕ) × MemoryRow) → Any (before ++ e ∷ rest) → MemoryFits e → is_behind holder_cmp before e.0 ≡ true → (memory_row versions.Third before).Fits e
unfolding memory_row holder_behind
memory_fits before rest e q h b = ((((h.session, holder_reaches (last_of before) e.0 b), (h.thread, b)), (h.number, h.answer)), refl)

answer_first : (a : Answer) → (answer_within 1024).Fits a → answer_grammar.Fits a
unfolding answer_within
answer_first (answer.Ref v) h = (h.0, (ref_more versions.First v h.1.0, h.1.1))
answer_first answer.Ok h = h
answer_first (answer.Bool b) h = h
answer_first (answer.Value v) h = h
answer_first (answer.Fence f) h = h
answer_first answer.Free h = h
answer_first (answer.Held s t n f) h = h
answer_first (answer.Session s) h = h
answer_first (answer.Group g l) h = h
answer_first answer.NotOwner h = h
answer_first (answer.LimitReached n) h = h
answer_first answer.OwnershipLost h = h
answer_first (answer.SessionExpired s) h = h
answer_first answer.TimedOut h = h
answer_first (answer.WaitCancelled n) h = h
answer_first (answer.Stale n) h = h
answer_first (answer.NotHeld n) h = h
answer_first answer.NotInitialized h = h
answer_first answer.ObjectDestroyed h = h
answer_first (answer.GroupDestroyed g) h = h
answer_first (answer.TableFull n) h = h
answer_first (answer.BadArgument a) h = h
answer_first (answer.Indeterminate c) h = h

pub answer_more : (version : Version) (a : Answer) → (answer_within (most_reference version)).Fits a → answer_grammar.Fits a
answer_more versions.First a h = answer_first a h
answer_more versions.Second a h = h
answer_more versions.Third a h = h

optional_more : (version : Version) (o : Option Answer) → (optional (answer_within (most_reference version))).Fits o → (optional answer_grammar).Fits o
optional_more version None h = h
optional_more version (Some a) h = (h.0, (answer_more version a h.1.0, refl))

pub memory_facts : (version : Version) (before : List ((ℕ × ℕ) × MemoryRow)) (e : (ℕ × ℕ) × MemoryRow) → Any before → (memory_row version before).Fits e → MemoryFits e × (is_behind holder_cmp before e.0 ≡ true) × Any (before ++ e ∷ [])
unfolding memory_row holder_behind
memory_facts version before e q h = (record { session = h.0.0.0.0; thread = h.0.0.1.0; number = h.0.1.0; answer = optional_more version e.1.answer h.0.1.1 }, h.0.0.1.1, tt)

-- ---- waiters

pub waiter_fits : (w : Waiter) → WaiterFits w → waiter_row.Fits w
unfolding waiter_row
waiter_fits w h = ((h.call, ((kind_fits w.kind, h.kind), (h.name, (h.session, (h.permits, h.wish))))), refl)

pub waiter_facts : (w : Waiter) → waiter_row.Fits w → WaiterFits w
unfolding waiter_row
waiter_facts w h = record { call = h.0.0; kind = h.0.1.0.1; name = h.0.1.1.0; session = h.0.1.1.1.0; permits = h.0.1.1.1.1.0; wish = h.0.1.1.1.1.1 }
