-- One event at a group of a member: the step that Raft takes, what it newly commits, and what is said.
use Rattle.std.specs.Prelude.{ℕ, suc, ◌-◌, Bool, true, false, not, ◌&&◌, ◌||◌, List, [], ◌∷◌, ◌++◌, map, Option, Some, None, is_some, nat_le, if◌then◌else◌, is_ok}
use Rattle.cp_log_rules.specs.Persistent.{PersistentState}
use Rattle.cp_rules.specs.declared.outcome.Outcome.{Outcome}
use Rattle.cp_rules.specs.declared.outcome.Outcome.TheVariants as outcome
use Rattle.cp_rules.specs.Limits.{beat_period}
use Rattle.cp_rules.specs.Local as raft
use Rattle.cp_rules.specs.Local.{Body, LocalStep, Snapshot, is_leader}
use Rattle.cp_rules.specs.Persistent.{Part, after_part}
use Rattle.cp_rules.specs.Snapshots.{completes}
use Rattle.cp_rules.specs.Steps.{step}
use Rattle.cp_rules.specs.Ticks.{is_proposed}
use Rattle.cp_rules.specs.Volatile.{VolatileState}
use Rattle.cp_group_rules.specs.declared.attempt.Attempt.{Attempt}
use Rattle.cp_group_rules.specs.declared.running.Running.{Running}
use Rattle.cp_group_rules.specs.Machines.{Machine}
use Rattle.cp_group_rules.specs.Views.{Given, machine_in, entries_between, answers_of, base_view, view_at}
use Rattle.cp_group_rules.specs.Times.{anew, for_leader, runs_after}
use Rattle.cp_group_rules.specs.Groups.{VolatileGroup, Said, refuses, tells}
use Rattle.cp_group_rules.specs.Answering.{waiting_after, replies_of, lost, kept, without_reads, lost_reads, read_replies}
use Rattle.cp_group_rules.specs.Events.{Event, Ticks, Gets, Asks, Settings, raft_event}

-- What one event does: the one part that is written, if any; what is then kept; what is said to clients first, and what is said after it;
-- the answer to the member; and what the member's own rules ask of the step.
pub record GroupStep : Type 0 where
  pub part : Option Part
  pub group : VolatileGroup
  pub replies : List Said
  pub sends : List Said
  pub outcome : Outcome
  pub took_office : Bool
  pub stepped_down : Bool
  -- a leader's beat, at a tick
  pub beats : Bool

-- what changes nothing
abbrev pub stays : VolatileGroup → GroupStep
stays g = record { part = None; group = g; replies = []; sends = []; outcome = outcome.Done; took_office = false; stepped_down = false; beats = false }

-- ---- attempts

-- the attempt that comes, with the index of its entry or the number of its round
abbrev pub attempt_at : ℕ → Event → List Attempt
attempt_at index (Asks from call attempt o) = record { call = call; number = attempt; from = from; index = index } ∷ []
attempt_at index event = []

abbrev pub newly_pending : Event → Outcome → List Attempt
newly_pending event (outcome.Proposed index) = attempt_at index event
newly_pending event other = []

-- `e` is the event of Raft.
abbrev pub newly_reading : raft.Event → Event → LocalStep → Outcome → List Attempt
newly_reading (raft.Read call attempt op) event s outcome.Done = attempt_at s.state.reads.round event
newly_reading e event s other = []

abbrev pub refused : Event → Outcome → List Said
refused event (outcome.Refused refusal) = map (refuses refusal) (attempt_at 0 event)
refused event other = []

-- ---- snapshots of others

abbrev pub completed_by : PersistentState → VolatileState → Body → Option (List ℕ)
completed_by p v (Snapshot term index offset is_last bytes) = completes p v term index offset is_last bytes
completed_by p v other = None

-- the whole snapshot that a message completes, if it does
abbrev pub completed : PersistentState → VolatileState → Event → Option (List ℕ)
completed p v (Gets from body) = completed_by p v body
completed p v event = None

-- ---- what a step of Raft did

abbrev pub is_tick : Event → Bool
is_tick (Ticks clock may_write) = true
is_tick event = false

-- Who led before and leads after a tick beats where it made an entry, or its last beat before is a period ago.
abbrev pub is_beat : Event → VolatileState → LocalStep → Bool
is_beat event v s = is_tick event && (is_leader v.role && (is_leader s.state.role && (is_proposed s.outcome || nat_le beat_period (s.state.clock - v.beat))))

module _ {V : Type 0} (m : Machine V) where
  -- A snapshot that is completed restores a machine.
  abbrev pub restores : Option (List ℕ) → Bool
  restores None = true
  restores (Some bytes) = is_ok (m.restored (machine_in bytes))

  -- the answers of what is newly committed: `p` is what was stored before the step, and `q` after it
  abbrev pub news : PersistentState → PersistentState → ℕ → ℕ → List Given
  news p q before commit = answers_of m (suc before) (entries_between q before commit) (view_at m p before)

  -- Where another's snapshot was installed, all that waits begins anew.
  abbrev pub runs : Bool → PersistentState → PersistentState → VolatileGroup → VolatileState → List Running
  runs true p q g v = anew v.clock (m.timers (base_view m q))
  runs false p q g v = runs_after m v.clock (suc g.raft.commit) (entries_between q g.raft.commit v.commit) (view_at m p g.raft.commit) g.running

  abbrev pub settles : Event → raft.Event → Bool → PersistentState → PersistentState → VolatileGroup → LocalStep → GroupStep
  settles event e installed p q g s =
      let took = not (is_leader g.raft.role) && is_leader s.state.role in
      let down = is_leader g.raft.role && not (is_leader s.state.role) in
      let given = news p q g.raft.commit s.state.commit in
      let asking = g.pending ++ newly_pending event s.outcome in
      let waiting = waiting_after given asking in
      let reading = g.reading ++ newly_reading e event s s.outcome in
      let running = runs installed p q g s.state in
      record {
        part = s.part;
        group = record {
          raft = s.state;
          pending = if down then kept s.state.commit waiting else waiting;
          reading = without_reads (s.answered ++ s.lost) reading;
          running = if took then for_leader s.state.clock running else running;
        };
        replies = replies_of given asking ++ (read_replies m (view_at m q s.state.commit) reading s.answered
            ++ ((if down then lost s.state.commit waiting else []) ++ lost_reads reading s.lost));
        sends = tells s.sends ++ refused event s.outcome;
        outcome = s.outcome;
        took_office = took;
        stepped_down = down;
        beats = is_beat event g.raft s;
      }

  abbrev pub takes : ℕ → PersistentState → VolatileGroup → Event → raft.Event → Bool → GroupStep
  takes me p g event e installed =
      let s = step me p g.raft e in
      settles event e installed p (after_part s.part p) g s

  -- What the event does at member `me`, which has stored `p` and keeps `g` in memory. A message that completes a snapshot which restores
  -- no machine changes nothing.
  abbrev pub group_step : Settings → ℕ → PersistentState → VolatileGroup → Event → GroupStep
  group_step settings me p g event =
      let whole = completed p g.raft event in
      if restores whole then takes me p g event (raft_event m settings p g event) (is_some whole) else stays g
