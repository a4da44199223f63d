-- How the errors of the calls stand for what the group's definitions say. Want of memory stands for nothing.
use Rattle.std.specs.Prelude.{◌≡◌, Option, Some, None, if◌then◌else◌}
use Rattle.cp_group_state.specs.Rows.{most}
use Rattle.cp_group_state.specs.declared.rows.Holder.{Holder}
use Rattle.cp_group_state.specs.declared.rows.LockRow.{LockRow}
use Rattle.cp_group_state.specs.declared.outcome.Taken.{Taken}
use Rattle.cp_group_state.specs.Locks.{is_free}
use Rattle.cp_lock.specs.declared.error.LockError.{LockError}
use Rattle.cp_lock.specs.declared.error.LockError.TheVariants as error

-- an acquire leads to nothing where there is no room for the lock
abbrev pub IsLockError : LockError → Option Taken → Type 0
IsLockError (error.TableFull n) taken = (taken ≡ None) × (n ≡ most)
IsLockError error.NoMemory taken = Unit {0}

-- who holds the lock, if anybody
abbrev pub owner_of : LockRow → Option Holder
owner_of row = if is_free row then None else Some row.holder
