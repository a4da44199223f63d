-- Acts worked out by hand, and what is left that no step may leave.
use Rattle.std.specs.Prelude.{ℕ, true, false, List, [], ◌∷◌, Some, None}
use Rattle.cp_parts.specs.declared.config.Config.{Config}
use Rattle.cp_parts.specs.declared.log_entry.LogEntry.{LogEntry}
use Rattle.cp_rules.specs.declared.outcome.Outcome.TheVariants.{Done, Proposed}
use Rattle.cp_rules.specs.Volatile.{VolatileState, started}
use Rattle.cp_rules.specs.Local.{Event, Tick, Propose}
use Rattle.cp_rules.specs.Worked.{configured, second, empty, entry, call}
use Rattle.cp_rules_facts.specs.Executions.{Local, Act, local_after}
use Rattle.cp_rules_laws.specs.Writes.{After, Writes}

-- ---- a leader that nobody sees

abbrev pub alone : Config
alone = configured 0 (1 ∷ [])

-- One that is alone times out and takes leadership, and a crash cuts the step off: its entry is stored, and it is no leader.
abbrev pub cut_off : List Act
cut_off = record { actor = 1; event = Some (Tick 2000 true None None); cut = true; clock = 0 } ∷ []

abbrev pub crashed : Local
crashed = (local_after alone cut_off).member 1

-- ---- what no step leaves

-- Member 2 of three has the empty entry of term 1, which is committed, and is asked for an entry.
abbrev pub has_committed : VolatileState
has_committed = record (started 0 0) { commit = 1 }

abbrev pub asked : Event
asked = Propose call

abbrev pub left : List LogEntry → ℕ → After
left log commit = record { stored = record second { log = log }; commit = commit; leads = true; outcome = Done }

abbrev pub IsNoStep : After → Type 0
IsNoStep x = Writes second has_committed asked x → ⊥

-- the entry that is committed is gone
abbrev pub forgets : After
forgets = left [] 1

-- the commit falls
abbrev pub falls : After
falls = left (empty 1 ∷ []) 0

-- the entry is made by one that doesn't lead
abbrev pub makes_as_follower : After
makes_as_follower = record (left (empty 1 ∷ entry 1 call ∷ []) 1) { leads = false; outcome = Proposed 2 }

-- the entry is made, and its index is not answered
abbrev pub answers_nothing : After
answers_nothing = left (empty 1 ∷ entry 1 call ∷ []) 1
