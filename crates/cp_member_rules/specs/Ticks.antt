-- A tick of a member.
use Rattle.std.specs.Prelude.{ℕ, ◌+◌, List, [], ◌∷◌, map}
use Rattle.cp_group_rules.specs.Events as groups
use Rattle.cp_member_rules.specs.Acting.{acts}
use Rattle.cp_member_rules.specs.Machines.{Machines, Setup}
use Rattle.cp_member_rules.specs.Members.{MemberState}
use Rattle.cp_member_rules.specs.MemberSteps.{MemberStep, wrote_nothing}
use Rattle.cp_member_rules.specs.Proposing.{leaves_at_beat}

abbrev pub clock_after : ℕ → MemberState → MemberState
clock_after millis x = record x { clock = x.clock + millis }

module _ {V : Type 0} (ms : Machines V) (setup : Setup) (me : ℕ) where
  -- One group after another. A group may write where none of a lower number did.
  abbrev pub each_ticks : List ℕ → MemberStep → MemberStep
  each_ticks [] s = s
  each_ticks (group ∷ rest) s = each_ticks rest (acts ms setup me group (groups.Ticks s.state.clock (wrote_nothing s)) s)

  abbrev pub ticks : ℕ → MemberStep → MemberStep
  ticks millis s =
      let t = record s { state = clock_after millis s.state } in
      leaves_at_beat ms setup me (each_ticks (map (λ g. g.0) t.state.groups) t)
