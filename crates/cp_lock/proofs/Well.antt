-- In the row of a free lock every number is 0.
use Rattle.std.proofs.Common.{ℕ, Bool, true, false, List, [], ◌∷◌, refl, cond}
use Rattle.std.specs.Map.{values_of}
use Rattle.std.specs.BTreeMap.{is_at}
use Rattle.std.proofs.lemmas.List.Elements.{All-cons, All-head, All-tail}
use Rattle.std.proofs.lemmas.Map.Views.{All-values-insert_entry, All-map-remove_entry}
use Rattle.cp_group_state.specs.declared.rows.LockRow.{LockRow}
use Rattle.cp_group_state.specs.Rows.{Named, put, without, name_cmp}
use Rattle.cp_group_state.specs.Locks.{free_lock, is_held_among, freed, freed_all}
use Rattle.cp_group_state.specs.Invariants.{IsHeldOrFree, LocksWell}

pub put_well : (rows : Named LockRow) (name : List ℕ) (row : LockRow) → LocksWell rows → IsHeldOrFree row → LocksWell (put name_cmp rows name row)
put_well rows name row old h = All-values-insert_entry name_cmp name row IsHeldOrFree rows old h

pub without_well : (rows : Named LockRow) (name : List ℕ) → LocksWell rows → LocksWell (without name_cmp rows name)
without_well rows name h = All-map-remove_entry (is_at (name_cmp name)) (λ e. e.1) IsHeldOrFree rows h

one_well : (sessions : List ℕ) (row : LockRow) → IsHeldOrFree row → IsHeldOrFree (freed sessions row)
one_well sessions row h = by (is_held_among sessions row) where
  by : (b : Bool) → IsHeldOrFree (cond b free_lock row)
  by true = λ e. refl
  by false = h

pub freed_well : (sessions : List ℕ) (rows : Named LockRow) → LocksWell rows → LocksWell (freed_all sessions rows)
freed_well sessions [] h = h
freed_well sessions (e ∷ es) h = All-cons IsHeldOrFree (freed sessions e.1) (values_of (freed_all sessions es))
    (one_well sessions e.1 (All-head IsHeldOrFree e.1 (values_of es) h)) (freed_well sessions es (All-tail IsHeldOrFree e.1 (values_of es) h))
