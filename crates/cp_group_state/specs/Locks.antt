-- Reentrant locks with fences.
use Rattle.std.specs.Prelude.{ℕ, ◌+◌, ◌-◌, Bool, not, ◌&&◌, ◌==◌, List, map, Option, Some, None, if◌then◌else◌, nat_lt}
use Rattle.std.specs.List.{filter}
use Rattle.cp_base.specs.declared.limits.TheConstants.{MOST_HOLDS}
use Rattle.cp_group_state.specs.Rows.{Named, find, put, has_room, most, name_cmp}
use Rattle.cp_group_state.specs.Sessions.{is_among}
pub use Rattle.cp_group_state.specs.declared.rows.Holder.{Holder}
pub use Rattle.cp_group_state.specs.declared.rows.LockRow.{LockRow}
pub use Rattle.cp_group_state.specs.declared.outcome.Taken.{Taken}
pub use Rattle.cp_group_state.specs.declared.outcome.Taken.TheVariants.{Fence, Limit, Busy}
pub use Rattle.cp_group_state.specs.declared.outcome.Released.{Released}
pub use Rattle.cp_group_state.specs.declared.outcome.Released.TheVariants.{Freed, Kept, NotOwner}

abbrev pub free_lock : LockRow
free_lock = record { holder = record { session = 0; thread = record { 0 = 0 } }; fence = 0; holds = 0 }

-- held once, under this fence
abbrev pub held_once : Holder → ℕ → LockRow
held_once who fence = record { holder = who; fence = fence; holds = 1 }

-- an absent lock is a free one
abbrev pub or_free : Option LockRow → LockRow
or_free None = free_lock
or_free (Some row) = row

abbrev pub lock_at : Named LockRow → List ℕ → LockRow
lock_at rows name = or_free (find name_cmp rows name)

abbrev pub is_free : LockRow → Bool
is_free row = row.holds == 0

abbrev pub is_held_by : Holder → LockRow → Bool
is_held_by who row = not (is_free row) && ((row.holder.session == who.session) && (row.holder.thread.0 == who.thread.0))

-- the rows after an acquire, and what it leads to: nothing where there is no room for the lock
pub record Acquired : Type 0 where
  pub rows : Named LockRow
  pub taken : Option Taken

-- the most holds under a limit, where 0 stands for none
abbrev pub most_holds : ℕ → ℕ
most_holds limit = if limit == 0 then MOST_HOLDS else limit

abbrev pub acquired_free : Named LockRow → ℕ → List ℕ → Holder → Acquired
acquired_free rows index name who = if has_room name_cmp most rows name
    then record { rows = put name_cmp rows name (held_once who index); taken = Some (Fence index) }
    else record { rows = rows; taken = None }

abbrev pub acquired_again : Named LockRow → List ℕ → LockRow → ℕ → Acquired
acquired_again rows name row limit = if nat_lt row.holds (most_holds limit)
    then record { rows = put name_cmp rows name (record row { holds = row.holds + 1 }); taken = Some (Fence row.fence) }
    else record { rows = rows; taken = Some (Limit (most_holds limit)) }

abbrev pub acquired : Named LockRow → ℕ → List ℕ → Holder → ℕ → Acquired
acquired rows index name who limit = let row = lock_at rows name in
    if is_free row then acquired_free rows index name who
    else if is_held_by who row then acquired_again rows name row limit
    else record { rows = rows; taken = Some Busy }

-- the rows after a release, and what it leads to
pub record Release : Type 0 where
  pub rows : Named LockRow
  pub released : Released

abbrev pub released_by : Named LockRow → List ℕ → Holder → Release
released_by rows name who = let row = lock_at rows name in
    if is_held_by who row
    then (if row.holds == 1
    then record { rows = put name_cmp rows name free_lock; released = Freed }
    else record { rows = put name_cmp rows name (record row { holds = row.holds - 1 }); released = Kept })
    else record { rows = rows; released = NotOwner }

abbrev pub is_held_among : List ℕ → LockRow → Bool
is_held_among sessions row = not (is_free row) && is_among sessions row.holder.session

-- the locks that these sessions hold, by name
abbrev pub held_among : List ℕ → Named LockRow → List (List ℕ)
held_among sessions rows = map (λ e. e.0) (filter (λ e. is_held_among sessions e.1) rows)

abbrev pub freed : List ℕ → LockRow → LockRow
freed sessions row = if is_held_among sessions row then free_lock else row

abbrev pub freed_all : List ℕ → Named LockRow → Named LockRow
freed_all sessions rows = map (λ e. (e.0, freed sessions e.1)) rows
