-- A step of a member, as far as it has come.
use Rattle.std.specs.Prelude.{ℕ, Bool, false, List, [], ◌∷◌, ◌++◌, length, Option, Some, None, ◌==◌}
use Rattle.std.specs.Ordering.{nat_cmp}
use Rattle.cp_group_state.specs.Rows.{put}
use Rattle.cp_parts.specs.declared.part.Part.{Part}
use Rattle.cp_log_rules.specs.Durable.{DurableState, with_part}
use Rattle.cp_rules.specs.declared.outcome.Outcome.{Outcome}
use Rattle.cp_rules.specs.declared.outcome.Outcome.TheVariants as outcome
use Rattle.cp_group_rules.specs.Groups.{VolatileGroup}
use Rattle.cp_member_rules.specs.Letters.{Letter, Talk, letter}
use Rattle.cp_member_rules.specs.Members.{MemberState, Leadership}

-- The member by now, with what it wrote applied; the parts that it wrote; what it sends, in this order. With these go what the last step of a
-- group answered, whether METADATA beat as leader, and whether its tasks were sent.
pub record MemberStep : Type 0 where
  pub state : MemberState
  pub parts : List Part
  pub sent : List Letter
  pub outcome : Outcome
  pub beats : Bool
  pub tasked : Bool

-- before anything is done
abbrev pub unmoved : MemberState → MemberStep
unmoved x = record { state = x; parts = []; sent = []; outcome = outcome.Done; beats = false; tasked = false }

abbrev pub wrote_nothing : MemberStep → Bool
wrote_nothing s = length s.parts == 0

abbrev pub says : ℕ → ℕ → Talk → MemberStep → MemberStep
says me to talk s = record s { sent = s.sent ++ letter me to talk ∷ [] }

abbrev pub with_stored : DurableState → MemberStep → MemberStep
with_stored d s = record s { state = record s.state { stored = d } }

abbrev pub writes : Part → MemberStep → MemberStep
writes part s = record (with_stored (with_part part s.state.stored) s) { parts = s.parts ++ part ∷ [] }

abbrev pub writes_if : Option Part → MemberStep → MemberStep
writes_if None s = s
writes_if (Some part) s = writes part s

abbrev pub with_groups : List (ℕ × VolatileGroup) → MemberStep → MemberStep
with_groups groups s = record s { state = record s.state { groups = groups } }

abbrev pub with_group : ℕ → VolatileGroup → MemberStep → MemberStep
with_group group g s = with_groups (put nat_cmp s.state.groups group g) s

abbrev pub with_leadership : Leadership → MemberStep → MemberStep
with_leadership leadership s = record s { state = record s.state { leadership = leadership } }
