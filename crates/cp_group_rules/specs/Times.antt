-- Since when the times of sessions and waits run at a member, and whose is over.
use Rattle.std.specs.Prelude.{ℕ, suc, ◌-◌, Bool, true, false, ◌&&◌, ◌==◌, List, [], ◌∷◌, map, filter, nat_le, bytes_eq, if◌then◌else◌}
use Rattle.cp_base.specs.declared.identifier.Invocation.{Invocation}
use Rattle.cp_machine.specs.declared.timer.Timed.{Timed}
use Rattle.cp_machine.specs.declared.timer.Timed.TheVariants as timed
use Rattle.cp_machine.specs.declared.timer.Timer.{Timer}
use Rattle.cp_parts.specs.declared.log_entry.LogEntry.{LogEntry}
use Rattle.cp_group_rules.specs.declared.running.Running.{Running}
use Rattle.cp_group_rules.specs.Machines.{Machine}

abbrev pub same_call : Invocation → Invocation → Bool
same_call a b = bytes_eq a.client.0 b.client.0 && ((a.thread.0 == b.thread.0) && (a.number == b.number))

-- A session is the same while it has the same version.
abbrev pub same_timed : Timed → Timed → Bool
same_timed (timed.Session s v) (timed.Session t w) = (s == t) && (v == w)
same_timed (timed.Session s v) (timed.Wait c) = false
same_timed (timed.Wait c) (timed.Session s v) = false
same_timed (timed.Wait c) (timed.Wait d) = same_call c d

abbrev pub is_session : Timed → Bool
is_session (timed.Session s v) = true
is_session (timed.Wait c) = false

-- ---- what runs

-- since when it runs, or now where it didn't run
abbrev pub since : ℕ → List Running → Timed → ℕ
since now [] what = now
since now (x ∷ running) what = if same_timed what x.what then x.since else since now running what

-- What still waits runs on, what is new begins now, and what waits no more is gone. The order is the machine's.
abbrev pub runs_on : ℕ → List Running → List Timer → List Running
runs_on now running timers = map (λ t. record { what = t.what; since = since now running t.what }) timers

-- each begins now
abbrev pub anew : ℕ → List Timer → List Running
anew now timers = runs_on now [] timers

abbrev pub session_anew : ℕ → Running → Running
session_anew now x = if is_session x.what then record x { since = now } else x

-- A new leader gives each session its whole time again, and no wait.
abbrev pub for_leader : ℕ → List Running → List Running
for_leader now running = map (session_anew now) running

module _ {V : Type 0} (m : Machine V) where
  -- what runs once entries from this index on are applied, one after another
  abbrev pub runs_after : ℕ → ℕ → List LogEntry → V → List Running → List Running
  runs_after now index [] view running = running
  runs_after now index (e ∷ entries) view running =
      let next = (m.step view index e.bytes).view in
      runs_after now (suc index) entries next (runs_on now running (m.timers next))

-- ---- what is over

abbrev pub is_due : ℕ → List Running → Timer → Bool
is_due now running t = nat_le t.after (now - since now running t.what)

abbrev pub due : ℕ → List Running → List Timer → List Timed
due now running timers = map (λ t. t.what) (filter (is_due now running) timers)
