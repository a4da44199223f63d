use Rattle.std.proofs.Common.{◌≡◌, ◌-◌, []}
use Rattle.cp_grammar.specs.Lists.{until_reading}
use Rattle.cp_grammar.proofs.ItemLoop.{with_front}
use Rattle.cp_schedule.specs.Header.{limit_line}
use Rattle.cp_schedule.proofs.header.take_limit_rows.Given as goal

abbrev pub invariant-loop : goal.invariant-loop
invariant-loop l = with_front l.limits.items (until_reading limit_line l.limits.items (l.turns - l.counter) l.rest) ≡ until_reading limit_line [] l.turns l.bytes
