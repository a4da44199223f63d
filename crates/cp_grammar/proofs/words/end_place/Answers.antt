use Rattle.std.proofs.Common.{◌∙◌, sym}
use Rattle.cp_grammar.proofs.Ends.{stops, goes, whole}
use Rattle.cp_grammar.proofs.words.end_place.Goals as goal

pub loop-i-preserved : goal.loop-i-preserved
loop-i-preserved c = goes c.args.bytes.now c.loop-i.i c.loop-i-test.true (sym c.is_end.ensures ∙ c.if-is_end.false) c.loop-i.invariant

pub returns-then-is_end-clause-front : goal.returns-then-is_end-clause-front
returns-then-is_end-clause-front c = (stops c.args.bytes.now c.loop-i.i c.loop-i-test.true (sym c.is_end.ensures ∙ c.if-is_end.true) c.loop-i.invariant).0

pub returns-then-is_end-clause-back : goal.returns-then-is_end-clause-back
returns-then-is_end-clause-back c = (stops c.args.bytes.now c.loop-i.i c.loop-i-test.true (sym c.is_end.ensures ∙ c.if-is_end.true) c.loop-i.invariant).1

pub returns-clause-front : goal.returns-clause-front
returns-clause-front c = (whole c.args.bytes.now c.loop-i.i c.loop-i-test.false c.loop-i.auto.i-end c.loop-i.invariant).0

pub returns-clause-back : goal.returns-clause-back
returns-clause-back c = (whole c.args.bytes.now c.loop-i.i c.loop-i-test.false c.loop-i.auto.i-end c.loop-i.invariant).1
