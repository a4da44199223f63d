-- Locks that have rows.
use Rattle.std.proofs.Common.{ℕ, List, [], ◌∷◌}
use Rattle.std.specs.Prelude.{IsSome}
use Rattle.std.proofs.lemmas.List.Elements.{All-head, All-tail}
use Rattle.cp_group_state.specs.declared.rows.LockRow.{LockRow}
use Rattle.cp_group_state.specs.Rows.{Named, find, name_cmp}
use Rattle.cp_lock.specs.Tables.{AreThere}
use Rattle.cp_group_tables.specs.Stand.{EachStands}

pub each_stands : (names : List (List ℕ)) (rows : Named LockRow) → AreThere names rows → EachStands names rows
each_stands [] rows all = tt
each_stands (name ∷ names) rows all = (All-head (λ (n : List ℕ). IsSome (find name_cmp rows n)) name names all, each_stands names rows (All-tail (λ (n : List ℕ). IsSome (find name_cmp rows n)) name names all))

-- where no lock loses its row
pub still_stands : (names : List (List ℕ)) (old new : Named LockRow) → ((other : List ℕ) → IsSome (find name_cmp old other) → IsSome (find name_cmp new other)) → EachStands names old → EachStands names new
still_stands [] old new keeps all = tt
still_stands (name ∷ names) old new keeps all = (keeps name all.0, still_stands names old new keeps all.1)
