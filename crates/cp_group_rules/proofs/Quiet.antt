-- A tick that may not write.
use Rattle.std.proofs.Common.{◌≡◌, ℕ, Bool, true, false, not, ◌==◌, if◌then◌else◌, [], refl, None, length}
use Rattle.cp_log_rules.specs.Persistent.{PersistentState, last}
use Rattle.cp_rules.specs.Confirming.{settles}
use Rattle.cp_rules.specs.Local.{LocalStep, Tick, does, is_leader}
use Rattle.cp_rules.specs.Persistent.{members}
use Rattle.cp_rules.specs.PreVotes.{may_stand, stands, times_out}
use Rattle.cp_rules.specs.Steps.{step}
use Rattle.cp_rules.specs.Ticks.{expires, beats}
use Rattle.cp_rules.specs.Volatile.{VolatileState, silence}
use Rattle.cp_group_rules.specs.Machines.{Machine}
use Rattle.cp_group_rules.specs.Laws.{TicksMayBeQuiet}

-- no part, and this commit
record Keeps (commit : ℕ) (s : LocalStep) : Type 0 where
  part : s.part ≡ None
  same : s.state.commit ≡ commit

either : {n : ℕ} (c : Bool) (s t : LocalStep) → Keeps n s → Keeps n t → Keeps n (if c then s else t)
either true s t a b = a
either false s t a b = b

stays : (v : VolatileState) → Keeps v.commit (does None v [])
stays v = record { part = refl; same = refl }

settled : {n : ℕ} (me : ℕ) (p : PersistentState) (v : VolatileState) (s : LocalStep) → Keeps n s → Keeps n (settles me p v s)
settled me p v s h = either (is_leader s.state.role) _ _ (record { part = h.part; same = h.same }) (record { part = h.part; same = h.same })

beaten : {n : ℕ} (me : ℕ) (p : PersistentState) (s : LocalStep) → Keeps n s → Keeps n (beats me p s)
beaten me p s h = either _ _ s (record { part = h.part; same = h.same }) h

stood : (me : ℕ) (p : PersistentState) (v : VolatileState) → Keeps v.commit (times_out me p v false)
stood me p v =
    let alone = length (members p) == 1 in
    either (not (may_stand me (members p) p.term (last p) (silence v))) (does None v []) (if alone then does None v [] else stands me p v)
    (stays v) (either alone (does None v []) (stands me p v) (stays v) (record { part = refl; same = refl }))

-- `w` has the clock after the tick.
abbrev begins : ℕ → PersistentState → VolatileState → VolatileState → LocalStep
begins me p v w = if is_leader v.role then expires me p w false None else times_out me p w false

began : (me : ℕ) (p : PersistentState) (v w : VolatileState) → Keeps w.commit (begins me p v w)
began me p v w = either (is_leader v.role) (expires me p w false None) (times_out me p w false) (stays w) (stood me p w)

abbrev at_clock : VolatileState → ℕ → VolatileState
at_clock v clock = record v { clock = clock }

ticked : (me : ℕ) (p : PersistentState) (v : VolatileState) (clock : ℕ) → Keeps v.commit (step me p v (Tick clock false None None))
ticked me p v clock =
    let w = at_clock v clock in
    settled me p v (beats me p (begins me p v w)) (beaten me p (begins me p v w) (began me p v w))

pub quiet : {V : Type 0} (m : Machine V) → TicksMayBeQuiet m
quiet m settings me p g clock = let k = ticked me p g.raft clock in record { part = k.part; commit = k.same }
