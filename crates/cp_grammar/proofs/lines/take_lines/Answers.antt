use Rattle.std.proofs.Common.{◌+◌, ◌∙◌, ℕ, suc, length, ap, add-one, []}
use Rattle.std.proofs.lemmas.Result.{err_from_is_err_and}
use Rattle.cp_grammar.specs.Lists.{until_reading}
use Rattle.cp_grammar.proofs.LineLoop.{starts, turns, fails, last, out}
use Rattle.cp_grammar.proofs.lines.take_lines.Goals as goal

pub loop-preserved : goal.loop-preserved
loop-preserved g c =
    let e = rw (c.deref.ensures.value, c.in-Some.is) at c.in_ok-line.ensures in
    rw c.in_ok-push-in-Some.ensures.items (turns g.T.Line.line c.loop.lines.items (length c.args.bytes.now + 1) c.loop.counter c.loop.rest.now c.in-Some.line c.in_ok-line.after.now
    (until_reading g.T.Line.line [] (length c.args.bytes.now + 1) c.args.bytes.now) c.loop-test.true e c.loop.invariant)

pub returns-in_err-line : goal.returns-in_err-line
returns-in_err-line g c =
    let p = err_from_is_err_and c.from_residual.result c.from_residual.ensures.1 in
    rw (p.1, p.2) (fails g.T.Line.line c.in_err-line.field-0.0 c.loop.lines.items (length c.args.bytes.now + 1) c.loop.counter c.loop.rest.now
    (until_reading g.T.Line.line [] (suc (length c.args.bytes.now)) c.args.bytes.now) c.loop-test.true (rw c.deref.ensures.value at c.in_err-line.ensures)
    (c.loop.invariant ∙ ap (λ (k : ℕ). until_reading g.T.Line.line [] k c.args.bytes.now) (add-one (length c.args.bytes.now))))

pub returns-in-None : goal.returns-in-None
returns-in-None g c =
    let e = rw (c.deref.ensures.value, c.in-None.is) at c.in_ok-line.ensures in
    last g.T.Line.line c.loop.lines.items (length c.args.bytes.now + 1) c.loop.counter c.loop.rest.now c.in_ok-line.after.now
    (until_reading g.T.Line.line [] (suc (length c.args.bytes.now)) c.args.bytes.now) c.loop-test.true e
    (c.loop.invariant ∙ ap (λ (k : ℕ). until_reading g.T.Line.line [] k c.args.bytes.now) (add-one (length c.args.bytes.now)))

pub returns : goal.returns
returns g c = out g.T.Line.line c.loop.lines.items (length c.args.bytes.now + 1) c.loop.counter c.loop.rest.now
    (until_reading g.T.Line.line [] (suc (length c.args.bytes.now)) c.args.bytes.now) c.loop-test.false
    (c.loop.invariant ∙ ap (λ (k : ℕ). until_reading g.T.Line.line [] k c.args.bytes.now) (add-one (length c.args.bytes.now)))

pub loop-init : goal.loop-init
loop-init g c = starts g.T.Line.line c.new-lines.result.items (length c.args.bytes.now + 1) c.args.bytes.now c.new-lines.ensures.items
