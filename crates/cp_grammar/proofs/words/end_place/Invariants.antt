use Rattle.cp_grammar.proofs.Ends.{Passed}
use Rattle.cp_grammar.proofs.words.end_place.Given as goal

abbrev pub invariant-loop-i : goal.invariant-loop-i
invariant-loop-i l = Passed l.bytes l.i
