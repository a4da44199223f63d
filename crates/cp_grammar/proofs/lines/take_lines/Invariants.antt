use Rattle.std.proofs.Common.{◌≡◌, ◌-◌, []}
use Rattle.cp_grammar.specs.Lists.{until_reading}
use Rattle.cp_grammar.proofs.ItemLoop.{with_front}
use Rattle.cp_grammar.proofs.lines.take_lines.Given as goal

abbrev pub invariant-loop : goal.invariant-loop
invariant-loop g l = with_front l.lines.items (until_reading g.T.Line.line l.lines.items (l.turns - l.counter) l.rest) ≡ until_reading g.T.Line.line [] l.turns l.bytes
