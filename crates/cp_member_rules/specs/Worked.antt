-- Members in states that are written out, for events that are worked out by hand.
use Rattle.std.specs.Prelude.{ℕ, true, false, Bool, List, [], ◌∷◌, None, Result, Ok, Err}
use Rattle.cp_answers.specs.declared.answer.Answer.TheVariants as answer
use Rattle.cp_grammar.specs.Grammar.{whole}
use Rattle.cp_machine.specs.Machines.{Stepped}
use Rattle.cp_meta_state.specs.MetaState.{MetaState, first_state}
use Rattle.cp_ops.specs.declared.entry.Entry.{Entry}
use Rattle.cp_ops.specs.declared.entry.Entry.TheVariants as entry
use Rattle.cp_ops.specs.Entries.{entry_grammar}
use Rattle.cp_ops.specs.Ops.{op_grammar}
use Rattle.cp_parts.specs.declared.log_entry.LogEntry.{LogEntry}
use Rattle.cp_parts.specs.declared.part.Part.{Part}
use Rattle.cp_parts.specs.declared.part.Part.TheVariants as part
use Rattle.cp_log_rules.specs.Durable.{DurableState}
use Rattle.cp_log_rules.specs.Persistent.{PersistentState, new_group}
use Rattle.cp_rules.specs.Volatile.{started}
use Rattle.cp_group_rules.specs.Groups.{VolatileGroup}
use Rattle.cp_group_rules.specs.Machines.{Machine}
use Rattle.cp_group_rules.specs.Worked.{far, call, add, led, leading, holds}
use Rattle.cp_member_rules.specs.Letters.{Talk, Asks, letter, group_id}
use Rattle.cp_member_rules.specs.Machines.{Machines, Setup}
use Rattle.cp_member_rules.specs.Members.{MemberState, nothing_done}
use Rattle.cp_member_rules.specs.MemberSteps.{MemberStep}
use Rattle.cp_member_rules.specs.Steps.{MemberEvent, Gets, member_step}

-- ---- machines

-- METADATA's lists stand at this state, whatever is applied.
abbrev pub still : MetaState → Machine MetaState
still s = record {
  first = s;
  step = λ view index bytes. record { view = view; answers = [] };
  timers = λ view. [];
  written = λ view. [];
  restored = λ bytes. Ok s;
  looked = λ view bytes. None;
}

abbrev pub breaks : Bool → Result Entry ℕ → Stepped Bool
breaks broken (Ok (entry.Call call o)) = record { view = broken; answers = (call, answer.Ok) ∷ [] }
breaks broken (Ok (entry.Destroy group)) = record { view = true; answers = [] }
breaks broken other = record { view = broken; answers = [] }

-- Each call is answered `ok`; an entry may destroy the group. No bytes restore it.
abbrev pub fragile : Machine Bool
fragile = record {
  first = false;
  step = λ broken index bytes. breaks broken (whole entry_grammar bytes);
  timers = λ broken. [];
  written = λ broken. [];
  restored = λ bytes. Err 0;
  looked = λ broken bytes. None;
}

abbrev pub with_lists : MetaState → Machines Bool
with_lists s = record { lists = still s; objects = fragile; is_destroyed = λ broken. broken }

-- as it is at first, on one member of three
abbrev pub lists : MetaState
lists = first_state 3 1

abbrev pub machines : Machines Bool
machines = with_lists lists

abbrev pub setup : Setup
setup = record { members = 3; managed = true; settings = far }

-- ---- members

abbrev pub one : List ℕ
one = 1 ∷ []

-- the first start; group 4 has ended
abbrev pub stored : List (ℕ × PersistentState) → DurableState
stored groups = record { restart = 1; format = 2; groups = groups; ended = 4 ∷ [] }

-- at 2,000 ms
abbrev pub member : List (ℕ × PersistentState) → List (ℕ × VolatileGroup) → MemberState
member groups held = record { stored = stored groups; clock = 2000; groups = held; attempts = []; leadership = nothing_done }

-- a follower in a group, which has heard of no leader since its start
abbrev pub follower : VolatileGroup
follower = holds (started 0 0) []

-- a leader, which has committed its empty entry
abbrev pub leader : VolatileGroup
leader = holds (leading 1) []

-- METADATA and the default group, both new, with these members
abbrev pub new_member : List ℕ → MemberState
new_member members = member ((0, new_group members) ∷ (1, new_group members) ∷ []) ((0, follower) ∷ (1, follower) ∷ [])

-- who leads both alone
abbrev pub leads_both : MemberState
leads_both = member ((0, led one []) ∷ (1, led one []) ∷ []) ((0, leader) ∷ (1, leader) ∷ [])

-- ---- events

abbrev pub does : MemberState → MemberEvent → MemberStep
does x event = member_step machines setup 1 x event

-- a letter to the first member
abbrev pub comes : ℕ → Talk → MemberEvent
comes from talk = Gets (letter from 1 talk)

-- an attempt of the first call, of client 1, whose address is 17
abbrev pub asks : ℕ → ℕ → ℕ → MemberEvent
asks attempt restart group = comes 17 (Asks (call 1) attempt restart group (op_grammar.spelling add))

-- this entry is appended by a leader in term 1
abbrev pub appends : ℕ → ℕ → LogEntry → Part
appends group after e = part.Append (group_id group) 1 1 after (e ∷ [])
