-- Cases worked out by hand: sessions and waits whose time is over.
use Rattle.std.specs.Prelude.{ℕ, List, [], ◌∷◌, Option, Some}
use Rattle.cp_machine.specs.declared.timer.Timed.TheVariants as timed
use Rattle.cp_ops.specs.declared.entry.Entry.TheVariants as entry
use Rattle.cp_ops.specs.declared.op.Op.TheVariants as op
use Rattle.cp_ops.specs.declared.session_op.SessionOp.TheVariants as session
use Rattle.cp_parts.specs.declared.log_entry.LogEntry.{LogEntry}
use Rattle.cp_rules.specs.Persistent.{Part, AppendPart}
use Rattle.cp_rules.specs.Volatile.{VolatileState, started}
use Rattle.cp_group_rules.specs.declared.running.Running.{Running}
use Rattle.cp_group_rules.specs.Groups.{VolatileGroup}
use Rattle.cp_group_rules.specs.Events.{Asks}
use Rattle.cp_group_rules.specs.Steps.{GroupStep, group_step}
use Rattle.cp_group_rules.specs.Worked.{queue, registry, far, call, add, tick, entry_at, add_entry, led, leading, holds, attempt}

abbrev pub one : List ℕ
one = 1 ∷ []

-- this entry is appended by a leader in term 1
abbrev pub appends : ℕ → LogEntry → Option Part
appends after e = Some (AppendPart (record { term = 1; vote = 1 }) after (e ∷ []))

-- ---- sessions, at a leader that is alone and has applied its session at 2,000 ms

abbrev pub open_entry : LogEntry
open_entry = entry_at 1 (entry.Call (call 1) (op.Session session.Open))

abbrev pub session_since : ℕ → Running
session_since clock = record { what = timed.Session 2 0; since = clock }

abbrev pub with_session : VolatileState → VolatileGroup
with_session v = record (holds v []) { running = session_since 2000 ∷ [] }

abbrev pub expires : ℕ → GroupStep
expires clock = group_step registry far 1 (led one (open_entry ∷ [])) (with_session (leading 2)) (tick clock)

abbrev pub expiry_entry : LogEntry
expiry_entry = entry_at 1 (entry.SessionsExpired ((2, 0) ∷ []))

-- The expiry is on its way: another one is not made.
abbrev pub expires_again : GroupStep
expires_again = group_step registry far 1 (led (1 ∷ 2 ∷ 3 ∷ []) (open_entry ∷ expiry_entry ∷ [])) (with_session (leading 2)) (tick 302000)

-- An expiry of the session's next version is on its way: this version is another session.
abbrev pub expires_other : GroupStep
expires_other = group_step registry far 1 (led (1 ∷ 2 ∷ 3 ∷ []) (open_entry ∷ entry_at 1 (entry.SessionsExpired ((2, 1) ∷ [])) ∷ [])) (with_session (leading 2)) (tick 302000)

-- One that was no leader takes leadership long after its session was applied.
abbrev pub leads_anew : GroupStep
leads_anew = group_step registry far 1 (led one (open_entry ∷ [])) (with_session (record (started 0 2000) { commit = 2 })) (tick 302000)

-- ---- a wait of 500 ms, applied at 2,000 ms

abbrev pub wait_since : ℕ → Running
wait_since clock = record { what = timed.Wait (call 1); since = clock }

abbrev pub with_wait : VolatileState → VolatileGroup
with_wait v = record (holds v (attempt 1 2 ∷ [])) { running = wait_since 2000 ∷ [] }

abbrev pub waits_till : ℕ → GroupStep
waits_till clock = group_step queue far 1 (led one (add_entry ∷ [])) (with_wait (leading 2)) (tick clock)

-- The call comes again at 2,300 ms.
abbrev pub waits_again : GroupStep
waits_again = group_step queue far 1 (led one (add_entry ∷ [])) (with_wait (record (leading 2) { clock = 2300 })) (Asks 17 (call 1) 2 add)

-- One that was no leader takes leadership at 2,400 ms.
abbrev pub waits_on : GroupStep
waits_on = group_step queue far 1 (led one (add_entry ∷ [])) (with_wait (record (started 0 0) { commit = 2 })) (tick 2400)
