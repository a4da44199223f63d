-- Which bytes are a name.
use Rattle.std.specs.Prelude.{◌≡◌, ◌<◌, ◌≤◌, ℕ, Bool, ◌||◌, ◌&&◌, not, ◌==◌, nat_le, nat_lt, List, length, Option, Some, None, position, if◌then◌else◌, IsTrue}
use Rattle.std.specs.List.{list_all}
use Rattle.cp_base.specs.declared.limits.TheConstants.{MOST_NAME}
use Rattle.cp_base.specs.declared.name.NameError.{NameError}
use Rattle.cp_base.specs.declared.name.NameError.TheVariants.{BadName, NoMemory}

abbrev pub is_between : ℕ → ℕ → ℕ → Bool
is_between low high b = nat_le low b && nat_le b high

-- a-z A-Z 0-9 . _ -
abbrev pub is_name_byte : ℕ → Bool
is_name_byte b = is_between 97 122 b || is_between 65 90 b || is_between 48 57 b || (b == 46) || (b == 95) || (b == 45)

-- 1 to 64 bytes, each of which may stand in a name
pub record IsName (bytes : List ℕ) : Type 0 where
  pub some : 0 < length bytes
  pub few : length bytes ≤ MOST_NAME
  pub alphabet : IsTrue (list_all is_name_byte bytes)

abbrev pub length_fault : List ℕ → Option ℕ
length_fault bytes = if nat_lt MOST_NAME (length bytes) then Some MOST_NAME else if length bytes == 0 then Some 0 else None

abbrev pub fault_at : Option ℕ → List ℕ → Option ℕ
fault_at (Some place) bytes = Some place
fault_at None bytes = length_fault bytes

-- The place at which bytes are no name: that of the first byte that may not stand in one, else 64 where there are more, else 0 where there are none.
abbrev pub name_fault : List ℕ → Option ℕ
name_fault bytes = fault_at (position (λ b. not (is_name_byte b)) bytes) bytes

-- when each error comes
abbrev pub IsNameFault : NameError → List ℕ → Type 0
IsNameFault (BadName place) bytes = (¬ IsName bytes) × (name_fault bytes ≡ Some place)
IsNameFault NoMemory bytes = Unit {0}
