-- Rows as bytes, each behind the rows before it. A key that isn't above that of the row before it fails at the field with which it is known.
use Rattle.std.specs.Prelude.{ℕ, ◌-◌, ◌^◌, ℤ, pos, neg_ℤ, Bool, ◌&&◌, List, Option, int_le}
use Rattle.std.specs.Int.{w32}
use Rattle.std.specs.Ordering.{nat_cmp}
use Rattle.cp_base.specs.declared.limits.TheConstants.{MOST_COUNT}
use Rattle.cp_base.specs.declared.identifier.Invocation.{Invocation}
use Rattle.cp_grammar.specs.Grammar.{Grammar, always, checked, mapped, seq, ◌then◌}
use Rattle.cp_grammar.specs.Fields.{byte, number, at_least, signed, optional}
use Rattle.cp_grammar.specs.Lists.{listed, each}
use Rattle.cp_grammar.specs.Common.{index, name, thread_no, client_id, invocation}
use Rattle.cp_op_values.specs.declared.kind.Kind.{Kind}
use Rattle.cp_op_values.specs.Numbers.{any_u32, permits}
use Rattle.cp_op_values.specs.Values.{reference, key, value, kind_grammar}
use Rattle.cp_op_values.specs.Wishes.{wish_grammar}
use Rattle.cp_answers.specs.Answers.{answer_within}
use Rattle.cp_group_state.specs.Rows.{Object, name_cmp, object_cmp, holder_cmp, pair_cmp}
use Rattle.cp_group_state.specs.Latches.{counted_calls, most_counted}
use Rattle.cp_group_state.specs.declared.rows.SessionRow.{SessionRow}
use Rattle.cp_group_state.specs.declared.rows.LockRow.{LockRow}
use Rattle.cp_group_state.specs.declared.rows.SemaphoreRow.{SemaphoreRow}
use Rattle.cp_group_state.specs.declared.rows.LatchRow.{LatchRow}
use Rattle.cp_group_state.specs.declared.rows.Waiter.{Waiter}
use Rattle.cp_group_state.specs.declared.rows.MemoryRow.{MemoryRow}
use Rattle.cp_group_ranges.specs.Rows.{is_semaphore, can_wait}
use Rattle.cp_state_bytes.specs.declared.version.Version.{Version}
use Rattle.cp_state_bytes.specs.Versions.{most_reference, has_kind}
use Rattle.cp_state_bytes.specs.Keys.{is_behind, may_follow, held_cmp}

-- ---- keys

-- a name above that of the last row
unfoldable pub name_behind : {X : Type 0} → List (List ℕ × X) → Grammar ℕ (List ℕ)
name_behind before = checked name (λ n. is_behind name_cmp before n)

-- an object of these kinds: its kind, and its name, above the last row by name and kind
unfoldable pub object_behind : {X : Type 0} → (Kind → Bool) → List (Object × X) → Grammar ℕ Object
object_behind kinds before = mapped (λ p. (p.1, p.0)) (λ o. (o.1, o.0))
    (seq (checked kind_grammar kinds) (λ which. checked name (λ n. is_behind object_cmp before (n, which))))

-- ---- rows

unfoldable pub session_row : List (ℕ × SessionRow) → Grammar ℕ (ℕ × SessionRow)
session_row before = mapped (λ p. (p.0, record { client = p.1.0; version = p.1.1 })) (λ e. (e.0, (e.1.client, e.1.version)))
    (checked index (λ n. is_behind nat_cmp before n) then client_id then index)

unfoldable pub lock_row : List (List ℕ × LockRow) → Grammar ℕ (List ℕ × LockRow)
lock_row before = mapped (λ p. (p.0, record { holder = record { session = p.1.0; thread = p.1.1.0 }; fence = p.1.1.1.0; holds = p.1.1.1.1 })) (λ e. (e.0, (e.1.holder.session, (e.1.holder.thread, (e.1.fence, e.1.holds)))))
    (name_behind before then index then thread_no then index then any_u32)

-- a number of permits, which may be below 0
abbrev pub is_permits : ℤ → Bool
is_permits z = int_le (neg_ℤ (pos (2 ^ 31))) z && int_le z (pos (2 ^ 31 - 1))

unfoldable pub signed_permits : Grammar ℕ ℤ
signed_permits = checked signed is_permits

unfoldable pub semaphore_row : List (Object × SemaphoreRow) → Grammar ℕ (Object × SemaphoreRow)
semaphore_row before = mapped (λ p. (p.0, record { total = p.1.0; available = p.1.1 })) (λ e. (e.0, (e.1.total, e.1.available)))
    (object_behind is_semaphore before then signed_permits then signed_permits)

-- a session's permits: the session, the semaphore's name, and how many, from 1
unfoldable pub held_row : List ((List ℕ × ℕ) × ℕ) → Grammar ℕ ((List ℕ × ℕ) × ℕ)
held_row before = mapped (λ p. ((p.0.1, p.0.0), p.1)) (λ e. ((e.0.1, e.0.0), e.1))
    (seq index (λ session. checked name (λ n. is_behind held_cmp before (n, session))) then at_least 1 permits)

-- the calls that were counted in a latch's round, as many as all latches together may still have
unfoldable pub counted_list : ℕ → Grammar ℕ (List Invocation)
counted_list so_far = listed (number w32 (most_counted - so_far)) (each invocation)

unfoldable pub latch_row : List (List ℕ × LatchRow) → Grammar ℕ (List ℕ × LatchRow)
latch_row before = mapped (λ p. (p.0, record { round = p.1.0; count = p.1.1.0; counted = p.1.1.1 })) (λ e. (e.0, (e.1.round, (e.1.count, e.1.counted))))
    (name_behind before then index then number w32 MOST_COUNT then counted_list (counted_calls before))

unfoldable pub long_row : List (List ℕ × ℤ) → Grammar ℕ (List ℕ × ℤ)
long_row before = name_behind before then signed

unfoldable pub ref_row : Version → List (List ℕ × Option (List ℕ)) → Grammar ℕ (List ℕ × Option (List ℕ))
ref_row version before = name_behind before then reference (most_reference version)

unfoldable pub gone_row : Version → List (Object × Unit {0}) → Grammar ℕ (Object × Unit {0})
gone_row version before = object_behind (has_kind version) before then always tt

unfoldable pub waiter_row : Grammar ℕ Waiter
waiter_row = mapped (λ p. record { call = p.0; kind = p.1.0; name = p.1.1.0; session = p.1.1.1.0; permits = p.1.1.1.1.0; wish = p.1.1.1.1.1 }) (λ w. (w.call, (w.kind, (w.name, (w.session, (w.permits, w.wish))))))
    (invocation then checked kind_grammar can_wait then name then index then permits then wish_grammar)

-- a thread of a session, above the last row by session and thread
unfoldable pub holder_behind : List ((ℕ × ℕ) × MemoryRow) → Grammar ℕ (ℕ × ℕ)
holder_behind before = seq (checked index (λ session. may_follow nat_cmp (λ k. k.0) before session)) (λ session. checked (byte 8) (λ thread. is_behind holder_cmp before (session, thread)))

-- the last call of a thread: its number, and its answer, or nothing while it waits
unfoldable pub memory_row : Version → List ((ℕ × ℕ) × MemoryRow) → Grammar ℕ ((ℕ × ℕ) × MemoryRow)
memory_row version before = mapped (λ p. (p.0, record { number = p.1.0; answer = p.1.1 })) (λ e. (e.0, (e.1.number, e.1.answer)))
    (holder_behind before then index then optional (answer_within (most_reference version)))

-- the name of a map and a key, above the last row by name and key
unfoldable pub place_behind : List ((List ℕ × List ℕ) × List ℕ) → Grammar ℕ (List ℕ × List ℕ)
place_behind before = seq (checked name (λ n. may_follow name_cmp (λ k. k.0) before n)) (λ n. checked key (λ k. is_behind pair_cmp before (n, k)))

unfoldable pub pair_row : List ((List ℕ × List ℕ) × List ℕ) → Grammar ℕ ((List ℕ × List ℕ) × List ℕ)
pair_row before = place_behind before then value
