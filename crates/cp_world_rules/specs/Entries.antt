-- What is promised of the entries of a history.
use Rattle.std.specs.Prelude.{◌≡◌, ◌≤◌, ◌<◌, ◌⊎◌, ℕ, List, [], Some, length, slice_get, Contains}
use Rattle.cp_base.specs.declared.identifier.GroupId.{GroupId}
use Rattle.cp_base.specs.declared.identifier.Invocation.{Invocation}
use Rattle.cp_ops.specs.declared.entry.Entry.{Entry}
use Rattle.cp_ops.specs.declared.entry.Entry.TheVariants as entry
use Rattle.cp_ops.specs.declared.op.Op.{Op}
use Rattle.cp_events.specs.declared.plan.Plan.{Plan}
use Rattle.cp_group_state.specs.History.{History, IsFullyOrderly, sessions_in}
use Rattle.cp_group_state.specs.Fences.{HasFences}
use Rattle.cp_group_state.specs.Repeats.{ActsAtMostOnce}
use Rattle.cp_group_causes.specs.Moments.{WasOpenFor}
use Rattle.cp_world_rules.specs.Rows.{Committed, End, Request, entries_of}
use Rattle.cp_world_rules.specs.Execution.{Execution, history}

-- The events in which entries were committed never fall along a history.
abbrev pub EventsRise : List Committed → Type 0
EventsRise rows = (j k : ℕ) (a b : Committed) → j ≤ k → slice_get rows j ≡ Some a → slice_get rows k ≡ Some b → a.event ≤ b.event

-- The entry of a request, which began when the history was shorter.
pub record IsOfRequest (x : Execution) (g : GroupId) (place : ℕ) (c : Committed) : Type 0 where
  pub request : Request
  pub began : Contains x.requests request
  pub in_group : request.group ≡ g
  pub entry_is : c.entry ≡ entry.Call request.call request.op
  pub begins_early : request.event ≤ c.event
  pub begins_first : request.length ≤ place

-- Or one that members make themselves. Without members there is none.
abbrev pub IsOwnEntry : Plan → GroupId → Entry → Type 0
IsOwnEntry plan g e = ⊥

abbrev pub EntriesAreAsked : Plan → Execution → Type 0
EntriesAreAsked plan x = (g : GroupId) (place : ℕ) (c : Committed) → slice_get (history x g) place ≡ Some c → IsOfRequest x g place c ⊎ IsOwnEntry plan g c.entry

-- The sessions that a call names were open for its client before.
abbrev pub NamesOwnSessions : History → Type 0
NamesOwnSessions entries = (place : ℕ) (call : Invocation) (o : Op) (s : ℕ) → slice_get entries place ≡ Some (entry.Call call o)
    → Contains (sessions_in (entry.Call call o)) s → WasOpenFor entries place s call.client

-- the history had this length at a moment of this event
pub record IsLengthAt (rows : List Committed) (event len : ℕ) : Type 0 where
  pub within : len ≤ length rows
  pub before : (place : ℕ) (c : Committed) → slice_get rows place ≡ Some c → place < len → c.event ≤ event
  pub behind : (place : ℕ) (c : Committed) → slice_get rows place ≡ Some c → len ≤ place → event ≤ c.event

pub record LengthsAreTrue (x : Execution) : Type 0 where
  pub requests : (r : Request) → Contains x.requests r → IsLengthAt (history x r.group) r.event r.length
  pub ends : (e : End) → Contains x.ends e → IsLengthAt (history x e.group) e.event e.length

-- Requests, and their ends, are listed in the order of time.
pub record RowsAreInOrder (x : Execution) : Type 0 where
  pub requests : (j k : ℕ) (a b : Request) → j ≤ k → slice_get x.requests j ≡ Some a → slice_get x.requests k ≡ Some b → (a.event ≤ b.event) × (a.group ≡ b.group → a.length ≤ b.length)
  pub ends : (j k : ℕ) (a b : End) → j ≤ k → slice_get x.ends j ≡ Some a → slice_get x.ends k ≡ Some b → (a.event ≤ b.event) × (a.group ≡ b.group → a.length ≤ b.length)

-- A group has one history, which has an entry; histories stand in the order of their groups.
pub record HistoriesStand (histories : List (GroupId × List Committed)) : Type 0 where
  pub apart : (j k : ℕ) (a b : GroupId × List Committed) → j < k → slice_get histories j ≡ Some a → slice_get histories k ≡ Some b → a.0.0 < b.0.0
  pub some : (j : ℕ) (a : GroupId × List Committed) → slice_get histories j ≡ Some a → a.1 ≡ [] → ⊥

-- What is promised of the history of each group.
pub record HistoryIsGood (rows : List Committed) : Type 0 where
  -- the order of entries is that of their events
  pub rises : EventsRise rows
  pub orderly : IsFullyOrderly (entries_of rows)
  pub own_sessions : NamesOwnSessions (entries_of rows)
  -- protected calls act at most once
  pub at_most_once : ActsAtMostOnce (entries_of rows)
  -- fences rise, and a lock has one owner
  pub fences : HasFences (entries_of rows)
