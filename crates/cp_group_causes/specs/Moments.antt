-- Moments of a history.
use Rattle.std.specs.Prelude.{◌≡◌, ℕ, ◌<◌, ◌≤◌, true, Option, Some, None, slice_get}
use Rattle.cp_base.specs.declared.identifier.ClientId.{ClientId}
use Rattle.cp_base.specs.declared.identifier.Invocation.{Invocation}
use Rattle.cp_ops.specs.declared.entry.Entry.{Entry}
use Rattle.cp_ops.specs.declared.entry.Entry.TheVariants as entry
use Rattle.cp_ops.specs.declared.op.Op.{Op}
use Rattle.cp_ops.specs.declared.op.Op.TheVariants as op
use Rattle.cp_ops.specs.declared.session_op.SessionOp.{SessionOp}
use Rattle.cp_ops.specs.declared.session_op.SessionOp.TheVariants as session
use Rattle.cp_group_state.specs.Sessions.{is_open_for}
use Rattle.cp_group_state.specs.History.{History}
pub use Rattle.cp_group_state.specs.History.{state_after, state_before}
use Rattle.cp_group_state.specs.Protected.{session_in}

-- The entry has this index in the history, or a lower one. Indexes are counted from 1, places from 0.
pub record StandsBy (history : History) (index : ℕ) (e : Entry) : Type 0 where
  pub place : ℕ
  pub in_time : place < index
  pub there : slice_get history place ≡ Some e

abbrev pub session_of_session : SessionOp → Option ℕ
session_of_session session.Open = None
session_of_session (session.Beat s) = Some s
session_of_session (session.Close s) = None

-- the session that an operation works in: the one that it names, or the one that it keeps alive
abbrev pub session_used : Op → Option ℕ
session_used (op.Session o) = session_of_session o
session_used o = session_in o

-- the session was open for this client when the entry at this place was met, or earlier
pub record WasOpenFor (history : History) (place : ℕ) (s : ℕ) (client : ClientId) : Type 0 where
  pub moment : ℕ
  pub before : moment ≤ place
  pub is_open : is_open_for (state_before history moment).sessions s client ≡ true

-- calls work in sessions that were open for their clients
abbrev pub SessionsAreOwn : History → Type 0
SessionsAreOwn history = (place : ℕ) (call : Invocation) (o : Op) (s : ℕ) → slice_get history place ≡ Some (entry.Call call o) → session_used o ≡ Some s → WasOpenFor history place s call.client
