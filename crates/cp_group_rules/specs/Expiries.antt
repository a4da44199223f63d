-- The expiry that a leader makes at a tick.
use Rattle.std.specs.Prelude.{ℕ, ◌-◌, Bool, not, List, [], ◌∷◌, take, drop, map, filter, filter_map, flat_map, Option, Some, None, Result, Ok, Err, ◌==◌, if◌then◌else◌}
use Rattle.std.specs.List.{list_any}
use Rattle.cp_base.specs.declared.identifier.Invocation.{Invocation}
use Rattle.cp_base.specs.declared.limits.TheConstants.{MOST_EXPIRED}
use Rattle.cp_grammar.specs.Grammar.{whole}
use Rattle.cp_machine.specs.declared.timer.Timed.{Timed}
use Rattle.cp_machine.specs.declared.timer.Timed.TheVariants as timed
use Rattle.cp_machine.specs.declared.timer.Timer.{Timer}
use Rattle.cp_ops.specs.declared.entry.Entry.{Entry}
use Rattle.cp_ops.specs.declared.entry.Entry.TheVariants as entry
use Rattle.cp_ops.specs.Entries.{entry_grammar}
use Rattle.cp_log_rules.specs.Persistent.{PersistentState}
use Rattle.cp_group_rules.specs.declared.running.Running.{Running}
use Rattle.cp_group_rules.specs.Times.{same_timed, due}

-- ---- what is on its way

-- what an expiry names
abbrev pub names : Entry → List Timed
names (entry.SessionsExpired pairs) = map (λ p. timed.Session p.0 p.1) pairs
names (entry.WaitsExpired calls) = map timed.Wait calls
names other = []

abbrev pub names_read : Result Entry ℕ → List Timed
names_read (Ok e) = names e
names_read (Err place) = []

-- What the expiries of this term name that are not committed: at a leader these are its own.
abbrev pub on_their_way : PersistentState → ℕ → List Timed
on_their_way p commit = flat_map (λ e. if e.term == p.term then names_read (whole entry_grammar e.bytes) else []) (drop (commit - p.base) p.log)

abbrev pub is_among : List Timed → Timed → Bool
is_among list what = list_any (same_timed what) list

-- ---- the entry

abbrev pub session_in : Timed → Option (ℕ × ℕ)
session_in (timed.Session s v) = Some (s, v)
session_in (timed.Wait c) = None

abbrev pub wait_in : Timed → Option Invocation
wait_in (timed.Session s v) = None
wait_in (timed.Wait c) = Some c

abbrev pub waits_expire : List Invocation → Option Entry
waits_expire [] = None
waits_expire (c ∷ calls) = Some (entry.WaitsExpired (take MOST_EXPIRED (c ∷ calls)))

-- sessions, where some are due, else waits; so many at most
abbrev pub expire : List (ℕ × ℕ) → List Invocation → Option Entry
expire [] calls = waits_expire calls
expire (s ∷ sessions) calls = Some (entry.SessionsExpired (take MOST_EXPIRED (s ∷ sessions)))

abbrev pub expiry_of : List Timed → Option Entry
expiry_of what = expire (filter_map session_in what) (filter_map wait_in what)

-- for what is due now and is not on its way
abbrev pub expiry : PersistentState → ℕ → ℕ → List Running → List Timer → Option Entry
expiry p commit now running timers = expiry_of (filter (λ what. not (is_among (on_their_way p commit) what)) (due now running timers))
