-- What a member does that is told to begin, to destroy, to move or to end a group.
use Rattle.std.specs.Prelude.{ℕ, Bool, true, false, not, ◌&&◌, ◌||◌, List, ◌++◌, map, Option, Some, None, is_some, Result, Ok, ◌==◌, nat_lt, if◌then◌else◌}
use Rattle.std.specs.List.{list_any}
use Rattle.std.specs.Ordering.{nat_cmp}
use Rattle.cp_answers.specs.declared.answer.Answer.TheVariants as answer
use Rattle.cp_grammar.specs.Grammar.{whole}
use Rattle.cp_group_state.specs.Rows.{without}
use Rattle.cp_log_rules.specs.Configurations.{config_at}
use Rattle.cp_log_rules.specs.Durable.{has_ended}
use Rattle.cp_log_rules.specs.Persistent.{PersistentState, new_group}
use Rattle.cp_message.specs.declared.task.Task.{Task}
use Rattle.cp_message.specs.declared.task.Task.TheVariants as task
use Rattle.cp_message.specs.declared.task.TaskReply.{TaskReply}
use Rattle.cp_message.specs.declared.task.TaskReply.TheVariants as task_reply
use Rattle.cp_ops.specs.declared.entry.Entry.{Entry}
use Rattle.cp_ops.specs.declared.entry.Entry.TheVariants as entry
use Rattle.cp_ops.specs.Entries.{entry_grammar}
use Rattle.cp_parts.specs.declared.config.Config.{Config}
use Rattle.cp_parts.specs.declared.part.Part.TheVariants as part
use Rattle.cp_rules.specs.declared.change.Change.{Change}
use Rattle.cp_rules.specs.Persistent.{configuration, is_member}
use Rattle.cp_group_rules.specs.Events as groups
use Rattle.cp_group_rules.specs.Events.{entry_bytes}
use Rattle.cp_group_rules.specs.Groups.{VolatileGroup, last_words}
use Rattle.cp_group_rules.specs.Views.{view_at}
use Rattle.cp_member_rules.specs.Acting.{acts}
use Rattle.cp_member_rules.specs.MemberSteps.{MemberStep, says, writes, with_group, with_groups}
use Rattle.cp_member_rules.specs.Letters.{Did, letter_of, group_id}
use Rattle.cp_member_rules.specs.Machines.{Machines, Setup, is_metadata}
use Rattle.cp_member_rules.specs.Members.{MemberState, group_at, stored_at, begins, leads}

-- ---- the log of a group that is to be destroyed

abbrev pub is_destroy : Result Entry ℕ → Bool
is_destroy (Ok (entry.Destroy group)) = true
is_destroy other = false

-- an entry that destroys the group stands in it
abbrev pub has_destroy : PersistentState → Bool
has_destroy p = list_any (λ e. is_destroy (whole entry_grammar e.bytes)) p.log

-- ---- a move

abbrev pub adds : ℕ → ℕ → Change
adds member expected = record { add = true; member = record { 0 = member }; expected = expected }

abbrev pub removes : ℕ → ℕ → Change
removes member expected = record { add = false; member = record { 0 = member }; expected = expected }

-- With the configuration that the plan begins from, who is to come is added; with one of the plan that has both, who is to go is removed, and
-- so where nobody is to come.
abbrev pub next_change : ℕ → ℕ → ℕ → Config → Option Change
next_change plan add remove c =
    if (c.index == plan) && nat_lt 0 add then Some (adds add c.index)
    else if ((c.index == plan) && (add == 0)) || ((c.plan == plan) && (is_member add c.members && is_member remove c.members)) then Some (removes remove c.index)
    else None

abbrev pub has_moved : ℕ → ℕ → Config → Bool
has_moved plan remove c = (c.plan == plan) && not (is_member remove c.members)

module _ {V : Type 0} (ms : Machines V) (setup : Setup) (me : ℕ) where
  abbrev pub says_if : Bool → ℕ → ℕ → TaskReply → MemberStep → MemberStep
  says_if said to group reply s = if said then says me to (Did group reply) s else s

  -- ---- start

  abbrev pub begins_group : ℕ → List ℕ → MemberStep → MemberStep
  begins_group group first s = with_group group (begins ms group (new_group first) s.state.clock) (writes (part.Begin (group_id group) first) s)

  abbrev pub told_start : ℕ → ℕ → List ℕ → MemberStep → MemberStep
  told_start from group first s = says me from (Did group task_reply.Started)
      (if is_some (group_at s.state group) || has_ended s.state.stored group then s else begins_group group first s)

  -- ---- end

  -- Who waits is told that the group is destroyed.
  abbrev pub forgets : ℕ → Option VolatileGroup → MemberStep → MemberStep
  forgets group None s = s
  forgets group (Some g) s = record (with_groups (without nat_cmp s.state.groups group) s) {
    sent = s.sent ++ map (letter_of me group) (last_words (answer.GroupDestroyed (group_id group)) g);
  }

  abbrev pub told_end : ℕ → ℕ → MemberStep → MemberStep
  told_end from group s = says me from (Did group task_reply.Ended)
      (if has_ended s.state.stored group then s else forgets group (group_at s.state group) (writes (part.End (group_id group)) s))

  -- ---- destroy

  abbrev pub is_destroyed_in : ℕ → MemberState → Option VolatileGroup → Bool
  is_destroyed_in group x None = false
  is_destroyed_in group x (Some g) = not (is_metadata group) && ms.is_destroyed (view_at ms.objects (stored_at x group) g.raft.commit)

  -- this member has applied an entry that destroys the group
  abbrev pub is_destroyed : ℕ → MemberState → Bool
  is_destroyed group x = is_destroyed_in group x (group_at x group)

  -- The group's leader proposes it, unless it stands in its log or was applied.
  abbrev pub destroys : ℕ → MemberStep → MemberStep
  destroys group s = if leads (group_at s.state group) && not (is_destroyed group s.state || has_destroy (stored_at s.state group))
      then acts ms setup me group (groups.Proposes (entry_bytes (entry.Destroy (group_id group)))) s
      else s

  abbrev pub told_destroy : ℕ → ℕ → MemberStep → MemberStep
  told_destroy from group s = let t = destroys group s in says_if (is_destroyed group t.state) from group task_reply.Destroyed t

  -- ---- move

  abbrev pub changes_to : ℕ → Option Change → ℕ → MemberStep → MemberStep
  changes_to group None plan s = s
  changes_to group (Some change) plan s = acts ms setup me group (groups.Changes change plan None) s

  -- The group's leader changes its members, where that is permitted.
  abbrev pub moves_on : ℕ → ℕ → ℕ → ℕ → MemberStep → MemberStep
  moves_on group plan add remove s = if leads (group_at s.state group)
      then changes_to group (next_change plan add remove (configuration (stored_at s.state group))) plan s
      else s

  abbrev pub tells_config : ℕ → ℕ → ℕ → ℕ → Config → MemberStep → MemberStep
  tells_config from group plan remove c s = says_if (has_moved plan remove c) from group (task_reply.Moved plan c.index c.members) s

  -- Who has committed a configuration of the plan without the one that is to go says so.
  abbrev pub tells_moved : ℕ → ℕ → ℕ → ℕ → Option VolatileGroup → MemberStep → MemberStep
  tells_moved from group plan remove None s = s
  tells_moved from group plan remove (Some g) s = tells_config from group plan remove (config_at (stored_at s.state group) g.raft.commit) s

  abbrev pub told_move : ℕ → ℕ → ℕ → ℕ → ℕ → MemberStep → MemberStep
  told_move from group plan add remove s = let t = moves_on group plan add remove s in tells_moved from group plan remove (group_at t.state group) t

  abbrev pub told : ℕ → ℕ → Task → MemberStep → MemberStep
  told from group task.Destroy s = told_destroy from group s
  told from group task.End s = told_end from group s
  told from group (task.Move plan add remove) s = told_move from group plan add remove.0 s
