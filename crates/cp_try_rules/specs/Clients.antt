-- A client that knows groups by name, and what one of its steps gives.
use Rattle.std.specs.Prelude.{ℕ, ◌+◌, List, [], ◌∷◌, ◌++◌, Option, Some, None}
use Rattle.std.specs.Ordering.{nat_cmp}
use Rattle.cp_base.specs.declared.identifier.ClientId.{ClientId}
use Rattle.cp_base.specs.declared.identifier.GroupId.{GroupId}
use Rattle.cp_base.specs.declared.identifier.Invocation.{Invocation}
use Rattle.cp_base.specs.declared.identifier.ThreadNo.{ThreadNo}
use Rattle.cp_answers.specs.declared.answer.Answer.{Answer}
use Rattle.cp_answers.specs.declared.answer.Answer.TheVariants as answer
use Rattle.cp_events.specs.declared.effects.Ending.TheVariants as ending
use Rattle.cp_events.specs.declared.effects.Opened.{Opened}
use Rattle.cp_events.specs.declared.effects.Return.{Return}
use Rattle.cp_group_state.specs.Rows.{find, put}
pub use Rattle.cp_client_rules.specs.Clients.{Sessions, Holds, LockKey, lock_cmp, id_of}
pub use Rattle.cp_client_rules.specs.declared.rows.HoldRecord.{HoldRecord}
pub use Rattle.cp_client_rules.specs.declared.rows.OwnSession.{OwnSession}
pub use Rattle.cp_client_rules.specs.declared.rows.Task.{Task}
pub use Rattle.cp_try_rules.specs.declared.event.Asked.{Asked}
pub use Rattle.cp_try_rules.specs.declared.rows.Pending.{Pending}
pub use Rattle.cp_try_rules.specs.declared.rows.Purpose.{Purpose}
pub use Rattle.cp_try_rules.specs.declared.rows.Thread.{Thread}

-- the numbers of the groups that the client knows by their names; that of `default` needs no row
abbrev pub Names : Type 0
Names = List (List ℕ × ℕ)

-- Lists under keys are in rising order of the keys.
pub record Client : Type 0 where
  pub clock : ℕ
  -- by their numbers
  pub threads : List (ℕ × Thread)
  pub names : Names
  pub sessions : Sessions
  pub holds : Holds

abbrev pub new_client : Client
new_client = record { clock = 0; threads = []; names = []; sessions = []; holds = [] }

-- a thread that has asked nothing
abbrev pub or_new : Option Thread → Thread
or_new None = record { number = 0; pending = None }
or_new (Some t) = t

abbrev pub thread_at : Client → ThreadNo → Thread
thread_at c t = or_new (find nat_cmp c.threads t.0)

abbrev pub with_thread : Client → ThreadNo → Thread → Client
with_thread c t row = record c { threads = put nat_cmp c.threads t.0 row }

-- the thread's open request is over
abbrev pub idle : ThreadNo → Client → Client
idle t c = with_thread c t (record { number = (thread_at c t).number; pending = None })

-- the number of the client's session in a group
abbrev pub session_in_group : Client → GroupId → Option ℕ
session_in_group c g = id_of (find nat_cmp c.sessions g.0)

-- What a step of a client gives: the client after it, the requests that begin, those that an answer ended, the sessions
-- that it opened, and the calls that return.
pub record Did : Type 0 where
  pub client : Client
  pub asked : List Asked
  pub ended : List (Invocation × Answer)
  pub opened : List Opened
  pub returns : List Return

abbrev pub nothing : Client → Did
nothing c = record { client = c; asked = []; ended = []; opened = []; returns = [] }

abbrev pub and_then : Did → (Client → Did) → Did
and_then d f = let e = f d.client in record {
  client = e.client;
  asked = d.asked ++ e.asked;
  ended = d.ended ++ e.ended;
  opened = d.opened ++ e.opened;
  returns = d.returns ++ e.returns;
}

-- the open request of this thread, as it began
abbrev pub as_asked : ClientId → ThreadNo → ℕ → Option Pending → Option Asked
as_asked me t number None = None
as_asked me t number (Some now) = Some (record { group = now.group; call = record { client = me; thread = t; number = number }; op = now.op })

abbrev pub open_at : ClientId → ThreadNo → Client → Option Asked
open_at me t c = as_asked me t (thread_at c t).number (thread_at c t).pending

-- the call of this thread returns with an answer
abbrev pub answers : ThreadNo → ℕ → Answer → List Return
answers t number a = record { thread = t; number = number; ending = ending.Answered a } ∷ []

module _ (me : ClientId) where
  -- the thread's next request
  abbrev pub next_request : ThreadNo → Client → Invocation
  next_request t c = record { client = me; thread = t; number = (thread_at c t).number + 1 }

  abbrev pub ask : ThreadNo → Pending → Client → Did
  ask t now c = record (nothing (with_thread c t (record { number = (thread_at c t).number + 1; pending = Some now })))
      { asked = record { group = now.group; call = next_request t c; op = now.op } ∷ [] }

-- a call that is done without a request takes a number too
abbrev pub done_at_once : ThreadNo → Client → Did
done_at_once t c = record (nothing (with_thread c t (record { number = (thread_at c t).number + 1; pending = None })))
    { returns = answers t ((thread_at c t).number + 1) answer.Ok }
