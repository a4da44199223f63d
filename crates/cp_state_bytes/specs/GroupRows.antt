-- The rows of a group's state are a state.
use Rattle.std.specs.Prelude.{◌≡◌, ℕ, Result, Ok, Err}
use Rattle.cp_grammar.specs.declared.stop.ReadError.{ReadError}
use Rattle.cp_grammar.specs.Readers.{Fails}
use Rattle.cp_group_state.specs.GroupState.{GroupState}
use Rattle.cp_state_bytes.specs.declared.group_rows.GroupRows.{GroupRows}

abbrev pub state_of : GroupRows → GroupState
state_of r = record {
  destroyed_group = r.destroyed_group;
  sessions = r.sessions;
  locks = r.locks;
  semaphores = record { rows = r.semaphores; holdings = r.holdings };
  latches = r.latches;
  longs = r.longs;
  refs = r.refs;
  maps = r.maps;
  gone = r.gone;
  waiters = r.waiters;
  memory = r.memory;
}

-- the rows of the state that the bytes restore, or the place at which they fail
abbrev pub Restores : Result GroupRows ReadError → Result GroupState ℕ → Type 0
Restores (Ok rows) restored = restored ≡ Ok (state_of rows)
Restores (Err error) restored = Fails error restored
