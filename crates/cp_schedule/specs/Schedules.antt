-- Which texts spell a schedule, and which one.
use Rattle.std.specs.Prelude.{ℕ, Bool, true, false, nat_lt, Option, Some, None}
use Rattle.cp_grammar.specs.Grammar.{Grammar, seq, mapped}
use Rattle.cp_events.specs.declared.plan.Plan.{Plan}
use Rattle.cp_events.specs.declared.plan.Groups.{Groups}
use Rattle.cp_events.specs.declared.plan.Groups.TheVariants as groups
use Rattle.cp_events.specs.declared.schedule.Schedule.{Schedule}
use Rattle.cp_call_words.specs.declared.context.Context.{Context}
use Rattle.cp_schedule.specs.Header.{header}
use Rattle.cp_schedule.specs.Events.{event_lines}

-- left out, groups are fixed
abbrev pub is_managed : Option Groups → Bool
is_managed None = false
is_managed (Some groups.Fixed) = false
is_managed (Some groups.Managed) = true

-- what the header says of the calls that may follow
abbrev pub context_of : Plan → Context
context_of plan = record { managed = is_managed plan.groups; members = nat_lt 0 plan.members }

-- The header, and the lines behind it up to `end`.
unfoldable pub schedule : Grammar ℕ Schedule
schedule = mapped (λ p. record { plan = p.0; lines = p.1 }) (λ s. (s.plan, s.lines)) (seq header (λ plan. event_lines (context_of plan)))
