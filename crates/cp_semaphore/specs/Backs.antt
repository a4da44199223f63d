-- Permits that go back when sessions close.
use Rattle.std.specs.Prelude.{◌≡◌, ◌^◌, ◌≤ℤ◌, ◌<ℤ◌, ◌+ℤ◌, ◌+◌, ℕ, ℤ, pos, neg_ℤ, List, [], ◌∷◌, Option, Some, None, bytes_eq, if◌then◌else◌}
use Rattle.cp_op_values.specs.declared.kind.Kind.TheVariants as kind
use Rattle.cp_group_state.specs.Rows.{Object, find, put, object_cmp}
use Rattle.cp_group_state.specs.Semaphores.{with_back}
use Rattle.cp_group_state.specs.declared.rows.SemaphoreRow.{SemaphoreRow}

abbrev pub back_at : List (Object × SemaphoreRow) → Object → ℕ → Option SemaphoreRow → List (Object × SemaphoreRow)
back_at rows key n None = rows
back_at rows key n (Some row) = put object_cmp rows key (with_back n row)

-- so many permits go back to a semaphore, where it is there
abbrev pub back_one : List (Object × SemaphoreRow) → Object → ℕ → List (Object × SemaphoreRow)
back_one rows key n = back_at rows key n (find object_cmp rows key)

-- what stands under each name goes back to its semaphore
abbrev pub back_each : List (List ℕ × ℕ) → List (Object × SemaphoreRow) → List (Object × SemaphoreRow)
back_each [] rows = rows
back_each (e ∷ es) rows = back_each es (back_one rows (e.0, kind.Sem) e.1)

-- how much stands under a name
abbrev pub amount : List (List ℕ × ℕ) → List ℕ → ℕ
amount [] name = 0
amount (e ∷ es) name = (if bytes_eq name e.0 then e.1 else 0) + amount es name

-- so many more still fit
pub record HasRoom (row : SemaphoreRow) (n : ℕ) : Type 0 where
  pub low : neg_ℤ (pos (2 ^ 31)) ≤ℤ row.available
  pub high : (row.available +ℤ pos n) <ℤ pos (2 ^ 34)

-- all that goes back fits
abbrev pub CanBack : List (List ℕ × ℕ) → List (Object × SemaphoreRow) → Type 0
CanBack [] rows = Unit {0}
CanBack (e ∷ es) rows = ((row : SemaphoreRow) → find object_cmp rows (e.0, kind.Sem) ≡ Some row → HasRoom row e.1) × CanBack es (back_one rows (e.0, kind.Sem) e.1)
