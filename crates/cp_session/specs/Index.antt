-- The numbers of sessions by client: a second map, which says where a client's session stands.
use Rattle.std.specs.Prelude.{◌≡◌, ℕ, true, cond, List, Option, Some}
use Rattle.std.specs.declared.cmp.Ordering.{Ordering}
use Rattle.std.specs.Ordering.{nat_cmp}
use Rattle.std.specs.BTreeMap.{is_at}
use Rattle.cp_base.specs.declared.identifier.ClientId.{ClientId}
use Rattle.cp_group_state.specs.declared.rows.SessionRow.{SessionRow}
use Rattle.cp_group_state.specs.Rows.{find, name_cmp}
use Rattle.cp_group_state.specs.Sessions.{is_open_for}

-- clients in the order of their bytes
abbrev pub client_cmp : ClientId → ClientId → Ordering
client_cmp a b = name_cmp a.0 b.0

-- this stands under the key, or nothing, and what stands under others stays
abbrev pub Sets : {K X : Type 0} → (K → K → Ordering) → K → Option X → List (K × X) → List (K × X) → Type 0
Sets {K} cmp key row old new = (q : K) → find cmp new q ≡ cond (is_at (cmp key) q) row (find cmp old q)

-- Each client's number is that of its open session, and there are no others.
pub record IsIndexed (rows : List (ℕ × SessionRow)) (numbers : List (ClientId × ℕ)) : Type 0 where
  pub are_named : (n : ℕ) (row : SessionRow) → find nat_cmp rows n ≡ Some row → find client_cmp numbers row.client ≡ Some n
  pub are_open : (client : ClientId) (n : ℕ) → find client_cmp numbers client ≡ Some n → is_open_for rows n client ≡ true
