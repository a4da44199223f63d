-- Clients whose numbers may grow.
use Rattle.cp_base.specs.declared.limits.TheConstants.{LAST_NUMBER}
use Rattle.std.specs.Prelude.{◌≡◌, ◌≤◌, ◌<◌, Some}
use Rattle.cp_base.specs.declared.identifier.ThreadNo.{ThreadNo}
use Rattle.cp_group_state.specs.Rows.{find}
use Rattle.cp_client_rules.specs.declared.rows.HoldRecord.{HoldRecord}
use Rattle.cp_client_rules.specs.Clients.{Client, Holds, LockKey, lock_cmp, thread_at}

-- no count of holds is near the end of its range
abbrev pub HoldsHaveRoom : Holds → Type 0
HoldsHaveRoom holds = (key : LockKey) (h : HoldRecord) → find lock_cmp holds key ≡ Some h → h.holds < LAST_NUMBER

-- A thread may make requests, and its calls may end.
pub record HasRoom (t : ThreadNo) (c : Client) : Type 0 where
  pub clock : c.clock ≤ LAST_NUMBER
  pub number : (thread_at c t).number < LAST_NUMBER
  pub holds : HoldsHaveRoom c.holds
