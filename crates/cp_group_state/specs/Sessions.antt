-- Sessions by number. A session's number is the index at which it was opened.
use Rattle.std.specs.Prelude.{ℕ, ◌+◌, Bool, false, ◌==◌, List, map, min, Option, Some, None}
use Rattle.std.specs.List.{filter, list_any}
use Rattle.std.specs.Ordering.{nat_cmp}
use Rattle.cp_base.specs.declared.identifier.ClientId.{ClientId}
use Rattle.cp_base.specs.declared.limits.TheConstants.{LAST_NUMBER}
use Rattle.cp_group_state.specs.Rows.{find}
use Rattle.cp_group_state.specs.Waiters.{first, same_client}
pub use Rattle.cp_group_state.specs.declared.rows.SessionRow.{SessionRow}

abbrev pub is_of : ClientId → Option SessionRow → Bool
is_of client None = false
is_of client (Some row) = same_client row.client client

-- whether the session is open, and this client's
abbrev pub is_open_for : List (ℕ × SessionRow) → ℕ → ClientId → Bool
is_open_for rows session client = is_of client (find nat_cmp rows session)

-- the client's open session
abbrev pub session_of : List (ℕ × SessionRow) → ClientId → Option (ℕ × SessionRow)
session_of rows client = first (filter (λ e. same_client e.1.client client) rows)

abbrev pub is_at_version : ℕ → Option SessionRow → Bool
is_at_version version None = false
is_at_version version (Some row) = row.version == version

-- the sessions named with the version that they have
abbrev pub unchanged_since : List (ℕ × SessionRow) → List (ℕ × ℕ) → List ℕ
unchanged_since rows pairs = map (λ p. p.0) (filter (λ p. is_at_version p.1 (find nat_cmp rows p.0)) pairs)

-- a beat raises the version
abbrev pub beaten : SessionRow → SessionRow
beaten row = record row { version = min (row.version + 1) LAST_NUMBER }

abbrev pub is_among : List ℕ → ℕ → Bool
is_among sessions s = list_any (λ x. x == s) sessions
