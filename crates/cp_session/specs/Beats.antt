-- Sessions that get a beat.
use Rattle.std.specs.Prelude.{ℕ, List, Option, Some, None}
use Rattle.std.specs.Ordering.{nat_cmp}
use Rattle.cp_group_state.specs.declared.rows.SessionRow.{SessionRow}
use Rattle.cp_group_state.specs.Rows.{put}
use Rattle.cp_group_state.specs.Sessions.{beaten}

-- the rows after a beat of the session whose row this is, if it is open
abbrev pub with_beat : List (ℕ × SessionRow) → ℕ → Option SessionRow → List (ℕ × SessionRow)
with_beat rows session None = rows
with_beat rows session (Some row) = put nat_cmp rows session (beaten row)

abbrev pub version_after : SessionRow → ℕ
version_after row = (beaten row).version
