-- Cases worked out by hand: what METADATA's leader tells and hears, and what members do that are told.
use Rattle.std.specs.Prelude.{ℕ, true, false, List, [], ◌∷◌, ◌++◌, None, codes}
use Rattle.cp_answers.specs.declared.answer.Answer.TheVariants as answer
use Rattle.cp_message.specs.declared.task.Task.{Task}
use Rattle.cp_message.specs.declared.task.Task.TheVariants as task
use Rattle.cp_message.specs.declared.task.TaskReply.TheVariants as task_reply
use Rattle.cp_meta_state.specs.MetaState.{MetaState}
use Rattle.cp_meta_state.specs.declared.rows.GroupRow.{GroupRow}
use Rattle.cp_meta_state.specs.declared.rows.Standing.TheVariants as standing
use Rattle.cp_ops.specs.declared.entry.Entry.TheVariants as entry
use Rattle.cp_parts.specs.declared.log_entry.LogEntry.{LogEntry}
use Rattle.cp_parts.specs.declared.part.Part.{Part}
use Rattle.cp_parts.specs.declared.part.Part.TheVariants as part
use Rattle.cp_rules.specs.Spelling.{members_entry}
use Rattle.cp_rules.specs.Volatile.{started}
use Rattle.cp_group_rules.specs.Events.{entry_bytes}
use Rattle.cp_group_rules.specs.Worked.{three, call, entry_at, led, leading, holds, attempt}
use Rattle.cp_member_rules.specs.Letters.{Letter, letter, reply, StartGroup, Told, Did, group_id}
use Rattle.cp_member_rules.specs.Members.{MemberState, Leadership, nothing_done}
use Rattle.cp_member_rules.specs.MemberSteps.{MemberStep}
use Rattle.cp_member_rules.specs.Steps.{MemberEvent, Passes, member_step}
use Rattle.cp_member_rules.specs.Worked.{lists, with_lists, setup, one, member, leader, new_member, leads_both, does, comes}

-- ---- what is told, in which order

abbrev pub row : List ℕ → GroupRow
row members = record { name = codes "g"; destroying = false; first = members; index = 0; members = members }

-- Group 2 is being destroyed, group 3 stands on member 2, group 4 moves from member 3 to member 1, group 5 has ended.
abbrev pub busy : MetaState
busy = record lists {
  groups = lists.groups ++ (2, record (row one) { destroying = true }) ∷ (3, row (2 ∷ [])) ∷ (4, row (3 ∷ [])) ∷ [];
  moves = (4, record { plan = 0; add = 1; remove = 3 }) ∷ [];
  destroyed = (5, tt) ∷ [];
}

-- member 2 has begun group 3, and ended group 5
abbrev pub confirmed : Leadership
confirmed = record nothing_done { started = (3, 2) ∷ []; ended = (5, 2) ∷ [] }

abbrev pub told : ℕ → ℕ → Task → Letter
told to group what = letter 1 to (Told group what)

abbrev pub first_tasks : List Letter
first_tasks = letter 1 1 (StartGroup 2 one) ∷ letter 1 2 (StartGroup 3 (2 ∷ [])) ∷ letter 1 1 (StartGroup 4 (3 ∷ [])) ∷ letter 1 3 (StartGroup 4 (3 ∷ []))
    ∷ told 1 2 task.Destroy ∷ told 2 2 task.Destroy ∷ told 3 2 task.Destroy
    ∷ told 1 4 (task.Move 0 1 (record { 0 = 3 })) ∷ told 3 4 (task.Move 0 1 (record { 0 = 3 }))
    ∷ told 1 5 task.End ∷ told 2 5 task.End ∷ told 3 5 task.End ∷ []

abbrev pub later_tasks : List Letter
later_tasks = letter 1 1 (StartGroup 2 one) ∷ letter 1 1 (StartGroup 4 (3 ∷ [])) ∷ letter 1 3 (StartGroup 4 (3 ∷ []))
    ∷ told 1 2 task.Destroy ∷ told 2 2 task.Destroy ∷ told 3 2 task.Destroy
    ∷ told 1 4 (task.Move 0 1 (record { 0 = 3 })) ∷ told 3 4 (task.Move 0 1 (record { 0 = 3 }))
    ∷ told 1 5 task.End ∷ told 3 5 task.End ∷ []

-- ---- METADATA's leader, alone; group 2 has ended, and member 1 is leaving

abbrev pub leaves : MetaState
leaves = record lists { members = (1, standing.Leaving) ∷ (2, standing.Active) ∷ (3, standing.Active) ∷ []; destroyed = (2, tt) ∷ [] }

abbrev pub leads : MemberState → MemberEvent → MemberStep
leads x event = member_step (with_lists leaves) setup 1 x event

abbrev pub end_task : List Letter
end_task = told 1 2 task.End ∷ told 2 2 task.End ∷ told 3 2 task.End ∷ []

abbrev pub destroyed_entry : LogEntry
destroyed_entry = entry_at 1 (entry.Destroyed (record { 0 = 2 }))

abbrev pub left_entry : LogEntry
left_entry = entry_at 1 (entry.Left (record { 0 = 1 }))

abbrev pub hears_destroyed : MemberStep
hears_destroyed = leads leads_both (comes 1 (Did 2 task_reply.Destroyed))

-- once it was proposed in this leadership
abbrev pub hears_again : MemberStep
hears_again = leads (record leads_both { leadership = record nothing_done { proposed = entry_bytes (entry.Destroyed (record { 0 = 2 })) ∷ [] } }) (comes 1 (Did 2 task_reply.Destroyed))

-- a move that doesn't stand
abbrev pub hears_moved : MemberStep
hears_moved = leads leads_both (comes 1 (Did 2 (task_reply.Moved 0 3 one)))

abbrev pub hears_ended : MemberStep
hears_ended = leads leads_both (comes 2 (Did 2 task_reply.Ended))

-- a beat
abbrev pub beats : Leadership → MemberStep
beats leadership = leads (record leads_both { leadership = leadership }) (Passes 1000)

-- `left` stands at this index, above the commit
abbrev pub has_proposed : Leadership
has_proposed = record nothing_done { left = (1, 2) ∷ [] }

abbrev pub has_ended : Leadership
has_ended = record nothing_done { ended = (2, 1) ∷ (2, 2) ∷ (2, 3) ∷ [] }

-- ---- begin and end

abbrev pub begins : MemberStep
begins = does (new_member three) (comes 3 (StartGroup 5 three))

abbrev pub begin_part : List Part
begin_part = part.Begin (record { 0 = 5 }) three ∷ []

abbrev pub waits : MemberState
waits = member ((1, led one []) ∷ []) ((1, holds (leading 1) (attempt 7 2 ∷ [])) ∷ [])

abbrev pub ends : MemberStep
ends = does waits (comes 3 (Told 1 task.End))

abbrev pub end_part : List Part
end_part = part.End (record { 0 = 1 }) ∷ []

abbrev pub last_letters : List Letter
last_letters = letter 1 17 (reply 1 (call 1) 7 (answer.GroupDestroyed (group_id 1))) ∷ letter 1 3 (Did 1 task_reply.Ended) ∷ []

-- ---- destroy: who leads alone proposes it, applies it and says so in one step

abbrev pub destroys : MemberStep
destroys = does leads_both (comes 3 (Told 1 task.Destroy))

abbrev pub destroy_entry : LogEntry
destroy_entry = entry_at 1 (entry.Destroy (record { 0 = 1 }))

-- It stands in the log of a leader of three, and is not committed.
abbrev pub destroys_again : MemberStep
destroys_again = does (member ((1, led three (destroy_entry ∷ [])) ∷ []) ((1, leader) ∷ [])) (comes 3 (Told 1 task.Destroy))

-- ---- move: by plan 0 member 2 comes to the group, and member 1 goes

abbrev pub move : MemberEvent
move = comes 3 (Told 1 (task.Move 0 2 (record { 0 = 1 })))

abbrev pub members_at : List ℕ → LogEntry
members_at members = record { term = 1; bytes = members_entry None 0 members }

abbrev pub adds : MemberStep
adds = does leads_both move

-- Member 2 has said that it holds what was added.
abbrev pub removes : MemberStep
removes = does (member ((1, led one (members_at (1 ∷ 2 ∷ []) ∷ [])) ∷ []) ((1, holds (leading 2) []) ∷ [])) move

-- another member of the group, which has that committed
abbrev pub says_moved : MemberStep
says_moved = does (member ((1, led one (members_at (1 ∷ 2 ∷ []) ∷ members_at (2 ∷ []) ∷ [])) ∷ []) ((1, holds (record (started 0 2000) { commit = 3 }) []) ∷ [])) move

abbrev pub moved : List Letter
moved = letter 1 3 (Did 1 (task_reply.Moved 0 3 (2 ∷ []))) ∷ []
