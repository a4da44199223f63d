-- How sessions go, one after the other.
use Rattle.std.specs.Prelude.{ℕ, not, ◌==◌, List, [], ◌∷◌}
use Rattle.std.specs.List.{filter}
use Rattle.cp_group_state.specs.declared.rows.SessionRow.{SessionRow}

abbrev pub without_session : ℕ → List (ℕ × SessionRow) → List (ℕ × SessionRow)
without_session session rows = filter (λ e. not (session == e.0)) rows

abbrev pub closed_each : List ℕ → List (ℕ × SessionRow) → List (ℕ × SessionRow)
closed_each [] rows = rows
closed_each (session ∷ sessions) rows = closed_each sessions (without_session session rows)
