-- What a client meets that asks for a session.
use Rattle.std.specs.Prelude.{◌≡◌, ℕ, List, Some, None}
use Rattle.std.specs.Ordering.{nat_cmp}
use Rattle.cp_base.specs.declared.identifier.ClientId.{ClientId}
use Rattle.cp_group_state.specs.declared.rows.SessionRow.{SessionRow}
use Rattle.cp_group_state.specs.Rows.{find, put}
use Rattle.cp_session.specs.Index.{client_cmp}
use Rattle.cp_session.specs.Creation.{created}
use Rattle.cp_session.specs.declared.open.Met.{Met}
use Rattle.cp_session.specs.declared.open.Met.TheVariants as met

abbrev pub IsMet : Met → List (ℕ × SessionRow) → List (ClientId × ℕ) → ℕ → ClientId → Type 0
IsMet (met.Has n) rows numbers index client = created rows index client ≡ record { rows = rows; number = Some n }
IsMet met.Room rows numbers index client = (find client_cmp numbers client ≡ None)
    × (created rows index client ≡ record { rows = put nat_cmp rows index (record { client = client; version = 0 }); number = Some index })
IsMet met.Full rows numbers index client = created rows index client ≡ record { rows = rows; number = None }
