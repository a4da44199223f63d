-- A step of one group of a member.
use Rattle.std.specs.Prelude.{ℕ, Bool, true, false, not, ◌&&◌, ◌||◌, List, [], ◌++◌, map, Option, Some, None, nat_lt, if◌then◌else◌}
use Rattle.std.specs.Option.{option_map}
use Rattle.cp_log_rules.specs.Persistent.{PersistentState}
use Rattle.cp_rules.specs.Local.{is_leader}
use Rattle.cp_rules.specs.Parts.{part_of}
use Rattle.cp_group_rules.specs.Events.{Event, Settings}
use Rattle.cp_group_rules.specs.Groups.{VolatileGroup}
use Rattle.cp_group_rules.specs.Steps.{GroupStep, group_step}
use Rattle.cp_member_rules.specs.MemberSteps.{MemberStep, writes_if, with_group, with_leadership}
use Rattle.cp_member_rules.specs.Letters.{Letter, letter_of, group_id}
use Rattle.cp_member_rules.specs.Machines.{Machines, Setup, is_metadata}
use Rattle.cp_member_rules.specs.Members.{Leadership, nothing_done, group_at, stored_at, lists_at}
use Rattle.cp_member_rules.specs.Tasks.{tasks}

-- METADATA's leader remembers what it did since it leads, and nothing else.
abbrev pub leadership_after : ℕ → GroupStep → Leadership → Leadership
leadership_after group did leadership = if is_metadata group && (did.took_office || did.stepped_down) then nothing_done else leadership

-- It sends its tasks where it applied something and at its beats, once in a step.
abbrev pub sends_tasks : ℕ → VolatileGroup → GroupStep → Bool → Bool
sends_tasks group g did tasked = is_metadata group && (is_leader did.group.raft.role && (not tasked && (did.beats || nat_lt g.raft.commit did.group.raft.commit)))

-- METADATA has no reads without entries.
abbrev pub by_entries : Settings → Settings
by_entries settings = record settings { rounds = false }

module _ {V : Type 0} (ms : Machines V) (setup : Setup) (me : ℕ) where
  -- what an event does at a group, by the rules of a group
  abbrev pub did_by : ℕ → PersistentState → VolatileGroup → Event → GroupStep
  did_by group p g event = if is_metadata group then group_step ms.lists (by_entries setup.settings) me p g event else group_step ms.objects setup.settings me p g event

  abbrev pub tasks_if : Bool → MemberStep → VolatileGroup → List Letter
  tasks_if false s g = []
  tasks_if true s g = tasks setup me s.state.leadership (lists_at ms s.state g)

  -- first the answers to clients, then tasks, then the rest
  abbrev pub sends : ℕ → VolatileGroup → GroupStep → MemberStep → MemberStep
  sends group g did s =
      let tasking = sends_tasks group g did s.tasked in
      record s {
        sent = s.sent ++ (map (letter_of me group) did.replies ++ (tasks_if tasking s did.group ++ map (letter_of me group) did.sends));
        outcome = did.outcome;
        beats = s.beats || (is_metadata group && did.beats);
        tasked = s.tasked || tasking;
      }

  abbrev pub done_by : ℕ → VolatileGroup → GroupStep → MemberStep → MemberStep
  done_by group g did s = sends group g did
      (with_leadership (leadership_after group did s.state.leadership) (with_group group did.group (writes_if (option_map (part_of (group_id group)) did.part) s)))

  abbrev pub acts_in : ℕ → Event → Option VolatileGroup → MemberStep → MemberStep
  acts_in group event None s = s
  acts_in group event (Some g) s = done_by group g (did_by group (stored_at s.state group) g event) s

  -- where the group stands
  abbrev pub acts : ℕ → Event → MemberStep → MemberStep
  acts group event s = acts_in group event (group_at s.state group) s
