use Rattle.std.proofs.Common.{◌≡◌, ◌++◌, [], take, drop}
use Rattle.cp_grammar.specs.Lists.{until_spelling, UntilFits}
use Rattle.cp_grammar.proofs.lines.append_lines.Given as goal

abbrev pub invariant-loop-i : goal.invariant-loop-i
invariant-loop-i g l = record {
  written : l.out.items ++ until_spelling g.T.Line.line (take l.i l.lines) (drop l.i l.lines) ≡ l.fn.out.items ++ until_spelling g.T.Line.line [] l.lines;
  fit : UntilFits g.T.Line.line (take l.i l.lines) (drop l.i l.lines);
}
