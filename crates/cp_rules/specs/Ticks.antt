-- Tick: the clock moves; then timeouts, an expiry, a snapshot and a beat, in this order.
use Rattle.std.specs.Prelude.{ℕ, ◌-◌, ◌==◌, Bool, true, false, ◌&&◌, ◌||◌, if◌then◌else◌, List, [], ◌++◌, length, Option, Some, None, is_none, nat_le}
use Rattle.cp_rules.specs.declared.outcome.Outcome.{Outcome}
use Rattle.cp_rules.specs.declared.outcome.Outcome.TheVariants.{Done, Proposed, Refused}
use Rattle.cp_rules.specs.Limits.{beat_period}
use Rattle.cp_log_rules.specs.Persistent.{PersistentState}
use Rattle.cp_rules.specs.Persistent.{after_part}
use Rattle.cp_rules.specs.Volatile.{VolatileState, Reads}
use Rattle.cp_rules.specs.Local.{LocalStep, does, Sent, is_leader}
use Rattle.cp_rules.specs.Sending.{appends}
use Rattle.cp_rules.specs.PreVotes.{times_out}
use Rattle.cp_rules.specs.Requests.{refuses_entry, proposes}
use Rattle.cp_rules.specs.Snapshots.{own_snapshot}
use Rattle.cp_rules.specs.Confirming.{confirms}

-- a leader's expiry, where it may write and take an entry
abbrev pub expires : ℕ → PersistentState → VolatileState → Bool → Option (List ℕ) → LocalStep
expires me p v may_write None = does None v []
expires me p v may_write (Some entry) = if may_write && is_none (refuses_entry p v) then proposes me p v entry else does None v []

abbrev pub is_proposed : Outcome → Bool
is_proposed Done = false
is_proposed (Proposed index) = true
is_proposed (Refused refusal) = false

-- the latest round again, where reads wait
abbrev pub confirms_again : ℕ → PersistentState → Reads → List Sent
confirms_again me p reads = if length reads.looks == 0 then [] else confirms me p reads

-- A leader beats where it appended in this tick, which has sent to all others, and where the period is over.
abbrev pub beats : ℕ → PersistentState → LocalStep → LocalStep
beats me p s =
    let appended = is_proposed s.outcome in
    let now = after_part s.part p in
    let state = record s.state { beat = s.state.clock } in
    if is_leader s.state.role && (appended || nat_le beat_period (s.state.clock - s.state.beat))
    then record s { state = state; sends = (if appended then s.sends else appends me now state) ++ confirms_again me now state.reads }
    else s

abbrev pub on_tick : ℕ → PersistentState → VolatileState → ℕ → Bool → Option (List ℕ) → Option (List ℕ) → LocalStep
on_tick me p v clock may_write expiry machine =
    let ticked = record v { clock = clock } in
    let first = if is_leader v.role then expires me p ticked may_write expiry else times_out me p ticked may_write in
    beats me p (own_snapshot p first may_write machine)
