-- The open request of a thread.
use Rattle.std.specs.Prelude.{ℕ, Bool, ◌&&◌, ◌==◌, Option, Some, None, is_some}
use Rattle.cp_base.specs.declared.identifier.Invocation.{Invocation}
use Rattle.cp_client_rules.specs.declared.rows.Pending.{Pending}
use Rattle.cp_client_rules.specs.declared.rows.Thread.{Thread}

-- whether this request of the thread is open
abbrev pub is_open : Invocation → Thread → Bool
is_open request row = (row.number == request.number) && is_some row.pending

-- the number of the open request, if there is one
abbrev pub open_number : ℕ → Option Pending → Option ℕ
open_number number None = None
open_number number (Some now) = Some number

abbrev pub idle_row : Thread → Thread
idle_row row = record { number = row.number; pending = None }
