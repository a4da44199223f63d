-- Changes of members that may be asked for.
use Rattle.cp_rules.specs.Local.{Event, Tick, Got, Propose, ChangeMembers, Read}
use Rattle.cp_rules_ranges.specs.Ranges.{IsMember}

-- a change names a member by its number
abbrev pub NamesMember : Event → Type 0
NamesMember (Tick clock may_write expiry machine) = Unit {0}
NamesMember (Got from body) = Unit {0}
NamesMember (Propose entry) = Unit {0}
NamesMember (ChangeMembers change plan call) = IsMember change.member.0
NamesMember (Read call attempt op) = Unit {0}
