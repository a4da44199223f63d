-- What an acquire and a release meet in the rows. A row that is written is there, and is one of a held lock.
use Rattle.std.specs.Prelude.{◌≡◌, ◌≢◌, ℕ, ◌+◌, ◌-◌, List, true, false, IsSome, nat_lt}
use Rattle.cp_group_state.specs.Rows.{Named, find, name_cmp}
use Rattle.cp_group_state.specs.declared.rows.Holder.{Holder}
use Rattle.cp_group_state.specs.declared.rows.LockRow.{LockRow}
use Rattle.cp_group_state.specs.Locks.{lock_at, is_free, is_held_by, most_holds}
use Rattle.cp_group_state.specs.Invariants.{IsHeldOrFree}
use Rattle.cp_lock.specs.declared.meet.Asked.{Asked}
use Rattle.cp_lock.specs.declared.meet.Asked.TheVariants as asked
use Rattle.cp_lock.specs.declared.meet.Step.{Step}
use Rattle.cp_lock.specs.declared.meet.Step.TheVariants as step

-- one's own lock again
abbrev pub IsAgain : Asked → LockRow → ℕ → Type 0
IsAgain asked.Free row limit = ⊥
IsAgain (asked.Again next) row limit = (nat_lt row.holds (most_holds limit) ≡ true) × (next ≡ record row { holds = row.holds + 1 }) × IsHeldOrFree next
IsAgain (asked.Most n) row limit = (nat_lt row.holds (most_holds limit) ≡ false) × (n ≡ most_holds limit)
IsAgain asked.Busy row limit = ⊥

-- what an acquire meets
abbrev pub IsAsked : Asked → List ℕ → Holder → ℕ → Named LockRow → Type 0
IsAsked asked.Free name who limit rows = is_free (lock_at rows name) ≡ true
IsAsked (asked.Again next) name who limit rows = IsSome (find name_cmp rows name) × (is_free (lock_at rows name) ≡ false) × (is_held_by who (lock_at rows name) ≡ true)
    × (nat_lt (lock_at rows name).holds (most_holds limit) ≡ true) × (next ≡ record (lock_at rows name) { holds = (lock_at rows name).holds + 1 }) × IsHeldOrFree next
IsAsked (asked.Most n) name who limit rows = (is_free (lock_at rows name) ≡ false) × (is_held_by who (lock_at rows name) ≡ true)
    × (nat_lt (lock_at rows name).holds (most_holds limit) ≡ false) × (n ≡ most_holds limit)
IsAsked asked.Busy name who limit rows = (is_free (lock_at rows name) ≡ false) × (is_held_by who (lock_at rows name) ≡ false)

-- what a release meets
abbrev pub IsStep : Step → List ℕ → Holder → Named LockRow → Type 0
IsStep step.Not name who rows = is_held_by who (lock_at rows name) ≡ false
IsStep step.Last name who rows = IsSome (find name_cmp rows name) × (is_held_by who (lock_at rows name) ≡ true) × ((lock_at rows name).holds ≡ 1)
IsStep (step.Less next) name who rows = IsSome (find name_cmp rows name) × (is_held_by who (lock_at rows name) ≡ true) × ((lock_at rows name).holds ≢ 1)
    × (next ≡ record (lock_at rows name) { holds = (lock_at rows name).holds - 1 }) × IsHeldOrFree next
