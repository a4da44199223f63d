-- The entries that METADATA's leader proposes, and what it remembers of them.
use Rattle.std.specs.Prelude.{ℕ, Bool, false, ◌&&◌, ◌||◌, List, ◌∷◌, Option, Some, None, ◌==◌, nat_lt, if◌then◌else◌, unwrap_or}
use Rattle.std.specs.List.{list_any}
use Rattle.std.specs.Ordering.{nat_cmp}
use Rattle.cp_group_state.specs.Rows.{find, put}
use Rattle.cp_message.specs.declared.task.TaskReply.{TaskReply}
use Rattle.cp_message.specs.declared.task.TaskReply.TheVariants as task_reply
use Rattle.cp_meta_state.specs.MetaState.{Moves, move_of}
use Rattle.cp_meta_state.specs.declared.rows.MoveRow.{MoveRow}
use Rattle.cp_ops.specs.declared.entry.Entry.{Entry}
use Rattle.cp_ops.specs.declared.entry.Entry.TheVariants as entry
use Rattle.cp_rules.specs.declared.outcome.Outcome.{Outcome}
use Rattle.cp_rules.specs.declared.outcome.Outcome.TheVariants as outcome
use Rattle.cp_rules.specs.Ticks.{is_proposed}
use Rattle.cp_group_rules.specs.Events as groups
use Rattle.cp_group_rules.specs.Events.{entry_bytes}
use Rattle.cp_group_rules.specs.Groups.{VolatileGroup}
use Rattle.cp_member_rules.specs.Acting.{acts}
use Rattle.cp_member_rules.specs.MemberSteps.{MemberStep, with_leadership, wrote_nothing}
use Rattle.cp_member_rules.specs.Letters.{group_id}
use Rattle.cp_member_rules.specs.Machines.{Machines, Setup, leaving, metadata}
use Rattle.cp_member_rules.specs.Members.{MemberState, Leadership, group_at, was_proposed, leads, lists_at}

-- ---- what is remembered; a proposal that is refused does not count

abbrev pub with_proposed : List ℕ → Outcome → Leadership → Leadership
with_proposed bytes result leadership = if is_proposed result then record leadership { proposed = bytes ∷ leadership.proposed } else leadership

abbrev pub with_left : ℕ → Outcome → Leadership → Leadership
with_left m (outcome.Proposed index) leadership = record leadership { left = put nat_cmp leadership.left m index }
with_left m other leadership = leadership

abbrev pub with_started : ℕ → ℕ → Leadership → Leadership
with_started group from leadership = record leadership { started = (group, from) ∷ leadership.started }

abbrev pub with_ended : ℕ → ℕ → Leadership → Leadership
with_ended group from leadership = record leadership { ended = (group, from) ∷ leadership.ended }

-- ---- a member that leaves

-- its last entry is not applied yet
abbrev pub is_open : Leadership → ℕ → ℕ → Bool
is_open leadership commit m = nat_lt commit (unwrap_or (find nat_cmp leadership.left m) 0)

abbrev pub still_moves : ℕ → Moves → Bool
still_moves m moves = list_any (λ x. x.1.remove == m) moves

abbrev pub has_plan : ℕ → Option MoveRow → Bool
has_plan plan None = false
has_plan plan (Some x) = x.plan == plan

module _ {V : Type 0} (ms : Machines V) (setup : Setup) (me : ℕ) where
  abbrev pub proposes : Entry → MemberStep → MemberStep
  proposes e s = acts ms setup me metadata (groups.Proposes (entry_bytes e)) s

  -- once in a leadership
  abbrev pub proposes_once : Entry → MemberStep → MemberStep
  proposes_once e s = if was_proposed (entry_bytes e) s.state.leadership then s
      else (let t = proposes e s in with_leadership (with_proposed (entry_bytes e) t.outcome t.state.leadership) t)

  abbrev pub proposes_left : ℕ → MemberStep → MemberStep
  proposes_left m s = let t = proposes (entry.Left (record { 0 = m })) s in with_leadership (with_left m t.outcome t.state.leadership) t

  abbrev pub lets_leave : Option ℕ → Moves → ℕ → MemberStep → MemberStep
  lets_leave None moves commit s = s
  lets_leave (Some m) moves commit s = if is_open s.state.leadership commit m || still_moves m moves then s else proposes_left m s

  abbrev pub lets_leave_by : Option VolatileGroup → MemberStep → MemberStep
  lets_leave_by None s = s
  lets_leave_by (Some g) s = let lists = lists_at ms s.state g in lets_leave (leaving lists) lists.moves g.raft.commit s

  -- at a beat, where nothing was written
  abbrev pub leaves_at_beat : MemberStep → MemberStep
  leaves_at_beat s = if s.beats && wrote_nothing s then lets_leave_by (group_at s.state metadata) s else s

  -- ---- what members have done

  abbrev pub has_move : ℕ → ℕ → MemberState → Option VolatileGroup → Bool
  has_move group plan x None = false
  has_move group plan x (Some g) = has_plan plan (move_of (lists_at ms x g).moves group)

  abbrev pub takes : ℕ → ℕ → TaskReply → MemberStep → MemberStep
  takes from group task_reply.Started s = with_leadership (with_started group from s.state.leadership) s
  takes from group task_reply.Ended s = with_leadership (with_ended group from s.state.leadership) s
  takes from group task_reply.Destroyed s = proposes_once (entry.Destroyed (group_id group)) s
  takes from group (task_reply.Moved plan index members) s = if has_move group plan s.state (group_at s.state metadata)
      then proposes_once (entry.Moved (group_id group) index members) s
      else s

  -- METADATA's leader alone takes it
  abbrev pub hears_done : ℕ → ℕ → TaskReply → MemberStep → MemberStep
  hears_done from group did s = if leads (group_at s.state metadata) then takes from group did s else s
