-- Rows by rising keys: each key against that of the row before it.
use Rattle.std.specs.Prelude.{ℕ, ◌-◌, Bool, true, List, length, Option, Some, None, slice_get}
use Rattle.std.specs.declared.cmp.Ordering.{Ordering}
use Rattle.std.specs.Ordering.{nat_cmp, is_lt, is_le, ordering_then}
use Rattle.cp_group_state.specs.Rows.{name_cmp}

abbrev pub last_of : {A : Type 0} → List A → Option A
last_of xs = slice_get xs (length xs - 1)

abbrev pub follows : {K X : Type 0} → (K → K → Ordering) → Option (K × X) → K → Bool
follows cmp None key = true
follows cmp (Some e) key = is_lt (cmp e.0 key)

-- the key is above that of the last row
abbrev pub is_behind : {K X : Type 0} → (K → K → Ordering) → List (K × X) → K → Bool
is_behind cmp before key = follows cmp (last_of before) key

abbrev pub reaches : {K X P : Type 0} → (P → P → Ordering) → (K → P) → Option (K × X) → P → Bool
reaches cmp part None first = true
reaches cmp part (Some e) first = is_le (cmp (part e.0) first)

-- the first part of the key is not below that of the last row
abbrev pub may_follow : {K X P : Type 0} → (P → P → Ordering) → (K → P) → List (K × X) → P → Bool
may_follow cmp part before first = reaches cmp part (last_of before) first

-- what sessions hold, by the semaphore's name, and of one name by session
abbrev pub held_cmp : List ℕ × ℕ → List ℕ × ℕ → Ordering
held_cmp a b = ordering_then (name_cmp a.0 b.0) (nat_cmp a.1 b.1)
