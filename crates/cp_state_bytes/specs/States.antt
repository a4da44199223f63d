-- A group's state as bytes: which bytes spell one, and the state that they restore.
use Rattle.std.specs.Prelude.{◌<◌, ◌^◌, ℕ, ℤ, List, length, Option, Result, Ok, Err}
use Rattle.cp_base.specs.declared.identifier.GroupId.{GroupId}
use Rattle.cp_grammar.specs.Grammar.{Grammar, mapped, settled, seq, ◌then◌, whole}
use Rattle.cp_grammar.specs.Common.{group_id}
use Rattle.cp_group_state.specs.declared.rows.SessionRow.{SessionRow}
use Rattle.cp_group_state.specs.declared.rows.LockRow.{LockRow}
use Rattle.cp_group_state.specs.declared.rows.SemaphoreRow.{SemaphoreRow}
use Rattle.cp_group_state.specs.declared.rows.LatchRow.{LatchRow}
use Rattle.cp_group_state.specs.declared.rows.Waiter.{Waiter}
use Rattle.cp_group_state.specs.declared.rows.MemoryRow.{MemoryRow}
use Rattle.cp_group_state.specs.Rows.{Named, Object}
use Rattle.cp_group_state.specs.GroupState.{GroupState}
use Rattle.cp_state_bytes.specs.declared.version.Version.{Version}
use Rattle.cp_state_bytes.specs.declared.version.Version.TheVariants as versions
use Rattle.cp_state_bytes.specs.Versions.{version_grammar}
use Rattle.cp_state_bytes.specs.Lists.{Holdings, session_list, lock_list, semaphore_list, holding_list, latch_list, long_list, ref_list, gone_list, waiter_list, memory_list, pair_list}
use Rattle.cp_state_bytes.specs.Rules.{is_consistent}

-- the number of the destroyed group, sessions, locks, semaphores, and what is held of them
abbrev pub Owners : Type 0
Owners = GroupId × (List (ℕ × SessionRow) × (Named LockRow × (List (Object × SemaphoreRow) × Holdings)))

unfoldable pub owners : Grammar ℕ Owners
owners = group_id then session_list then lock_list then semaphore_list then holding_list

-- latches, longs, references, and destroyed objects
abbrev pub Objects : Type 0
Objects = Named LatchRow × (Named ℤ × (Named (Option (List ℕ)) × List (Object × Unit {0})))

unfoldable pub objects : Version → Grammar ℕ Objects
objects version = latch_list then long_list then ref_list version then gone_list version

-- calls that wait, what is remembered of calls, and the pairs of maps
abbrev pub Calls : Type 0
Calls = List Waiter × (List ((ℕ × ℕ) × MemoryRow) × List ((List ℕ × List ℕ) × List ℕ))

unfoldable pub calls : Version → Grammar ℕ Calls
calls version = waiter_list then memory_list version then pair_list version

abbrev pub Parts : Type 0
Parts = Owners × (Objects × Calls)

abbrev pub state_of_parts : Parts → GroupState
state_of_parts p = record {
  destroyed_group = p.0.0;
  sessions = p.0.1.0;
  locks = p.0.1.1.0;
  semaphores = record { rows = p.0.1.1.1.0; holdings = p.0.1.1.1.1 };
  latches = p.1.0.0;
  longs = p.1.0.1.0;
  refs = p.1.0.1.1.0;
  gone = p.1.0.1.1.1;
  waiters = p.1.1.0;
  memory = p.1.1.1.0;
  maps = p.1.1.1.1;
}

abbrev pub parts_of_state : GroupState → Parts
parts_of_state s = ((s.destroyed_group, (s.sessions, (s.locks, (s.semaphores.rows, s.semaphores.holdings)))), ((s.latches, (s.longs, (s.refs, s.gone))), (s.waiters, (s.memory, s.maps))))

-- what follows the version: the lists, and at their end the rules that bind them
unfoldable pub lists_in : Version → Grammar ℕ GroupState
lists_in version = mapped state_of_parts parts_of_state (owners then objects version then calls version)

unfoldable pub state_in : Version → Grammar ℕ GroupState
state_in version = settled (lists_in version) is_consistent

-- a state with the version in which it is spelled
unfoldable pub any_version : Grammar ℕ (Version × GroupState)
any_version = seq version_grammar state_in

-- The bytes of a state, which are of the newest version.
unfoldable pub spelled : GroupState → List ℕ
spelled s = any_version.spelling (versions.Third, s)

abbrev pub unversioned : Result (Version × GroupState) ℕ → Result GroupState ℕ
unversioned (Ok p) = Ok p.1
unversioned (Err place) = Err place

-- The state that all of the bytes spell in some version, else the place of the first field that fails.
unfoldable pub restored : List ℕ → Result GroupState ℕ
restored bytes = unversioned (whole any_version bytes)

-- lists without a limit of their own have fewer rows than their counts can say
pub record HasCounts (s : GroupState) : Type 0 where
  pub holdings : length s.semaphores.holdings < 2 ^ 32
  pub memory : length s.memory < 2 ^ 32
