-- How far the numbers of clients go.
use Rattle.cp_base.specs.declared.limits.TheConstants.{LAST_NUMBER}
use Rattle.std.specs.Prelude.{◌≡◌, ◌≤◌, ◌+◌, ℕ, true, Some, None, Option, length, All}
use Rattle.cp_base.specs.declared.identifier.ClientNo.{ClientNo}
use Rattle.cp_base.specs.declared.identifier.ThreadNo.{ThreadNo}
use Rattle.cp_client_rules.specs.declared.rows.HoldRecord.{HoldRecord}
use Rattle.cp_client_rules.specs.declared.rows.Pending.{Pending}
use Rattle.cp_client_rules.specs.declared.rows.Purpose.{Purpose}
use Rattle.cp_client_rules.specs.declared.rows.Purpose.TheVariants as purpose
use Rattle.cp_client_rules.specs.declared.rows.Task.{Task}
use Rattle.cp_client_rules.specs.declared.rows.Task.TheVariants as task
use Rattle.cp_client_rules.specs.Asking.{need_of}
use Rattle.cp_client_rules.specs.Clients.{Client, LockKey, thread_at}
use Rattle.cp_world_rules.specs.Requests.{needs_session}
use Rattle.cp_world_rules.specs.World.{World, client_at}

-- how many requests a thread has open, 1 or none
abbrev pub open_requests : Option Pending → ℕ
open_requests None = 0
open_requests (Some now) = 1

-- the thread has made at least so many requests, and one more where one is open
abbrev pub HasMade : Client → ThreadNo → ℕ → Type 0
HasMade c t n = n + open_requests (thread_at c t).pending ≤ (thread_at c t).number

-- a thread has made a request for each hold
abbrev pub IsEarned : Client → LockKey → HoldRecord → Type 0
IsEarned c key h = HasMade c (record { 0 = key.0 }) h.holds

-- a session is opened for calls that need one
abbrev pub OpensForNeed : Task → Purpose → Type 0
OpensForNeed (task.Calls o) purpose.ForSession = needs_session (need_of o) ≡ true
OpensForNeed x p = Unit {0}

pub record IsWithin (most : ℕ) (c : Client) : Type 0 where
  pub clock : c.clock ≤ LAST_NUMBER
  -- the numbers of requests
  pub numbers : (t : ThreadNo) → (thread_at c t).number ≤ most
  pub begun : (t : ThreadNo) → HasMade c t 0
  pub holds : All (λ (e : LockKey × HoldRecord). IsEarned c e.0 e.1) c.holds
  pub needed : (t : ThreadNo) (now : Pending) → (thread_at c t).pending ≡ Some now → OpensForNeed now.task now.purpose

-- No number of a request, and no count of holds, is above that of the entries, and so many more.
abbrev pub AllWithin : ℕ → World → Type 0
AllWithin more w = (me : ClientNo) → IsWithin (length w.history + more) (client_at w me)
