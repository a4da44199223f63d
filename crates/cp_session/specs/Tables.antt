-- Tables of sessions.
use Rattle.std.specs.Prelude.{◌≡◌, ℕ, List, [], ◌∷◌, ◌++◌, Option, Some, None}
use Rattle.std.specs.BTreeMap.{BTreeMap}
use Rattle.cp_base.specs.declared.identifier.ClientId.{ClientId}
use Rattle.std.specs.Ordering.{nat_cmp}
use Rattle.cp_group_state.specs.declared.rows.SessionRow.{SessionRow}
use Rattle.cp_group_state.specs.Invariants.{IsRising, OneSession}
use Rattle.cp_session.specs.Index.{IsIndexed}
use Rattle.cp_session.specs.declared.restore.Pushed.{Pushed}
use Rattle.cp_session.specs.declared.restore.Pushed.TheVariants as pushed

-- rows that a table may have
pub record IsTable (rows : List (ℕ × SessionRow)) : Type 0 where
  pub rising : IsRising nat_cmp rows
  pub one : OneSession rows

-- the table of these rows, or none where they are no table's
abbrev pub MakesTable : List (ℕ × SessionRow) → Option (List (ℕ × SessionRow)) → Type 0
MakesTable rows None = IsTable rows → ⊥
MakesTable rows (Some sessions) = (sessions ≡ rows) × IsTable rows

-- the row stands behind the others, or no table has it there
abbrev pub IsPushed : Pushed → ℕ → SessionRow → List (ℕ × SessionRow) → List (ℕ × SessionRow) → Type 0
IsPushed pushed.Behind number row old new = new ≡ old ++ (number, row) ∷ []
IsPushed pushed.Unfit number row old new = (rest : List (ℕ × SessionRow)) → IsTable (old ++ (number, row) ∷ rest) → ⊥

-- both maps of these rows, or none where they are no table's
abbrev pub MakesMaps : List (ℕ × SessionRow) → Option (BTreeMap ℕ SessionRow × BTreeMap ClientId ℕ) → Type 0
MakesMaps rows None = IsTable rows → ⊥
MakesMaps rows (Some maps) = (maps.0.entries ≡ rows) × IsIndexed maps.0.entries maps.1.entries × IsTable rows
