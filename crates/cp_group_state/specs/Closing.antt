-- The end of sessions.
use Rattle.std.specs.Prelude.{ℕ, Bool, not, ◌&&◌, ◌||◌, List, bytes_eq}
use Rattle.std.specs.List.{filter, list_any}
use Rattle.std.specs.Map.{keys_of}
use Rattle.cp_answers.specs.declared.answer.Answer.TheVariants as answer
use Rattle.cp_group_state.specs.Rows.{Object}
use Rattle.cp_group_state.specs.Waiters.{Ended, waits_on}
use Rattle.cp_group_state.specs.Sessions.{is_among}
use Rattle.cp_group_state.specs.Locks.{held_among, freed_all}
use Rattle.cp_group_state.specs.Semaphores.{is_held, all_back}
use Rattle.cp_group_state.specs.GroupState.{GroupState}
use Rattle.cp_group_state.specs.Changes.{Change, and_then, for_each, end_all}
use Rattle.cp_group_state.specs.Serving.{serve, hand_over}

-- the sessions and their memory go
abbrev pub forget : List ℕ → GroupState → GroupState
forget sessions s = record s {
  sessions = filter (λ e. not (is_among sessions e.0)) s.sessions;
  memory = filter (λ e. not (is_among sessions e.0.0)) s.memory;
}

abbrev pub free_locks : List ℕ → GroupState → GroupState
free_locks sessions s = record s { locks = freed_all sessions s.locks }

abbrev pub free_permits : List ℕ → GroupState → GroupState
free_permits sessions s = record s { semaphores = all_back sessions s.semaphores }

abbrev pub is_held_by_some : List ℕ → GroupState → Object → Bool
is_held_by_some sessions s key = is_held key.1 && list_any (λ e. is_among sessions e.0.0 && bytes_eq key.0 e.0.1) s.semaphores.holdings

-- the semaphores of which these sessions hold permits, or on which they waited
abbrev pub concerned : List ℕ → List Ended → GroupState → List Object
concerned sessions ended s =
    filter (λ key. is_held_by_some sessions s key || list_any (λ e. waits_on key.1 key.0 e.waiter) ended) (keys_of s.semaphores.rows)

-- their waiters end
abbrev pub end_sessions : List ℕ → GroupState → Change
end_sessions sessions s = end_all (λ w. is_among sessions w.session) (λ w. answer.SessionExpired w.session) (forget sessions s)

-- These sessions are closed at this index: they and their waiters end; then each of their locks is freed and handed over,
-- by name; then their permits go back, and each semaphore that they held or waited on is served, by name.
abbrev pub close : ℕ → List ℕ → GroupState → Change
close index sessions s =
    and_then (and_then (end_sessions sessions s) (λ t. for_each (hand_over index) (held_among sessions s.locks) (free_locks sessions t)))
    (λ t. for_each serve (concerned sessions (end_sessions sessions s).ended s) (free_permits sessions t))
