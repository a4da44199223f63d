-- Rows that come behind all others, as where a list of rows is read from bytes.
use Rattle.std.specs.Prelude.{◌≡◌, Bool, false, List, Option, Some, None}
use Rattle.std.specs.List.{list_all}
use Rattle.std.specs.declared.cmp.Ordering.{Ordering}
use Rattle.std.specs.Ordering.{is_lt}
use Rattle.std.specs.BTreeMap.{BTreeMap}
use Rattle.cp_group_state.specs.Invariants.{IsRising}
use Rattle.cp_rows.specs.declared.changing.PushError.{PushError}
use Rattle.cp_rows.specs.declared.changing.PushError.TheVariants as error

-- whether the key is above those of all rows
abbrev pub is_above : {K X : Type 0} → (K → K → Ordering) → List (K × X) → K → Bool
is_above cmp rows key = list_all (λ e. is_lt (cmp e.0 key)) rows

-- want of memory comes where it may
abbrev pub IsPushError : PushError → Bool → Type 0
IsPushError error.OutOfOrder above = above ≡ false
IsPushError error.NoMemory above = Unit {0}

-- the map of these rows, or none where their keys don't rise
abbrev pub MakesMap : {K X : Type 0} → (K → K → Ordering) → List (K × X) → Option (BTreeMap K X) → Type 0
MakesMap cmp rows None = IsRising cmp rows → ⊥
MakesMap cmp rows (Some map) = map.entries ≡ rows
