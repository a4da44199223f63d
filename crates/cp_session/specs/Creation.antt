-- What becomes of the sessions where a client asks for one.
use Rattle.std.specs.Prelude.{◌≡◌, ℕ, List, Option, Some, None, if◌then◌else◌}
use Rattle.std.specs.Ordering.{nat_cmp}
use Rattle.cp_base.specs.declared.identifier.ClientId.{ClientId}
use Rattle.cp_group_state.specs.declared.rows.SessionRow.{SessionRow}
use Rattle.cp_group_state.specs.Rows.{put, has_room, most}
use Rattle.cp_group_state.specs.Sessions.{session_of}
use Rattle.cp_session.specs.declared.error.SessionError.{SessionError}
use Rattle.cp_session.specs.declared.error.SessionError.TheVariants as error

-- the rows then, and the number of the client's session: none where there is no room for one
pub record Created : Type 0 where
  pub rows : List (ℕ × SessionRow)
  pub number : Option ℕ

-- the client's open session, or a new one under the index as its number
abbrev pub created_from : List (ℕ × SessionRow) → ℕ → ClientId → Option (ℕ × SessionRow) → Created
created_from rows index client (Some e) = record { rows = rows; number = Some e.0 }
created_from rows index client None = if has_room nat_cmp most rows index
    then record { rows = put nat_cmp rows index (record { client = client; version = 0 }); number = Some index }
    else record { rows = rows; number = None }

abbrev pub created : List (ℕ × SessionRow) → ℕ → ClientId → Created
created rows index client = created_from rows index client (session_of rows client)

-- want of memory stands for nothing
abbrev pub IsSessionError : SessionError → Option ℕ → Type 0
IsSessionError (error.TableFull n) number = (number ≡ None) × (n ≡ most)
IsSessionError error.NoMemory number = Unit {0}
