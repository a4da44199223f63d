-- One event at a member.
use Rattle.std.specs.Prelude.{ℕ, ◌==◌, if◌then◌else◌}
use Rattle.cp_group_rules.specs.Events as groups
use Rattle.cp_member_rules.specs.Acting.{acts}
use Rattle.cp_member_rules.specs.Following.{told_start, told}
use Rattle.cp_member_rules.specs.Letters.{Letter, Talk, Hello, Welcome, Asks, StartGroup, Told, Did, Raft, is_client, is_member}
use Rattle.cp_member_rules.specs.Machines.{Machines, Setup}
use Rattle.cp_member_rules.specs.Members.{MemberState}
use Rattle.cp_member_rules.specs.MemberSteps.{MemberStep, unmoved, says}
use Rattle.cp_member_rules.specs.Proposing.{hears_done}
use Rattle.cp_member_rules.specs.Requesting.{requests}
use Rattle.cp_member_rules.specs.Ticks.{ticks}

-- so many milliseconds pass; a letter comes
pub data MemberEvent : Type 0 where
  Passes : (millis : ℕ) → MemberEvent
  Gets : (letter : Letter) → MemberEvent

module _ {V : Type 0} (ms : Machines V) (setup : Setup) (me : ℕ) where
  -- from a member; without METADATA nobody starts, destroys, moves or ends a group
  abbrev pub hears : ℕ → Talk → MemberStep → MemberStep
  hears from (StartGroup group first) s = if setup.managed then told_start ms setup me from group first s else s
  hears from (Told group task) s = if setup.managed then told ms setup me from group task s else s
  hears from (Did group reply) s = hears_done ms setup me from group reply s
  hears from (Raft group body) s = acts ms setup me group (groups.Gets from body) s
  hears from other s = s

  -- Clients greet and ask; all else comes from members.
  abbrev pub gets : ℕ → Talk → MemberStep → MemberStep
  gets from Hello s = if is_client from then says me from (Welcome s.state.stored.restart) s else s
  gets from (Asks call attempt restart group op) s = requests ms setup me (record { from = from; call = call; attempt = attempt; restart = restart; group = group; op = op }) s
  gets from other s = if is_member from then hears from other s else s

  abbrev pub happens : MemberEvent → MemberStep → MemberStep
  happens (Passes millis) s = ticks ms setup me millis s
  happens (Gets x) s = if x.to == me then gets x.from x.talk s else s

  -- What an event does at member `me`: the member after it, the parts that it wrote, and what it sends.
  abbrev pub member_step : MemberState → MemberEvent → MemberStep
  member_step x event = happens event (unmoved x)
