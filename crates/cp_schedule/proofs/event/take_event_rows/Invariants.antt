use Rattle.std.proofs.Common.{◌≡◌, ◌-◌, []}
use Rattle.cp_grammar.specs.Lists.{until_reading}
use Rattle.cp_grammar.proofs.ItemLoop.{with_front}
use Rattle.cp_schedule.specs.Events.{any_line}
use Rattle.cp_schedule.proofs.event.take_event_rows.Given as goal

abbrev pub invariant-loop : goal.invariant-loop
invariant-loop l = with_front l.lines.items (until_reading (any_line l.context) l.lines.items (l.turns - l.counter) l.rest) ≡ until_reading (any_line l.context) [] l.turns l.bytes
