use Rattle.std.proofs.Common.{◌+◌, ◌∙◌, ℕ, suc, length, ap, add-one, []}
use Rattle.std.proofs.lemmas.Result.{err_from_is_err_and}
use Rattle.cp_grammar.specs.Lists.{until_reading}
use Rattle.cp_grammar.proofs.LineLoop.{starts, turns, fails, last, out}
use Rattle.cp_schedule.specs.Events.{any_line}
use Rattle.cp_schedule.proofs.event.take_event_rows.Goals as goal

pub loop-preserved : goal.loop-preserved
loop-preserved c =
    let e = rw c.in-Some.is at c.in_ok-line.ensures in
    rw c.in_ok-push-in-Some.ensures.items (turns (any_line c.args.context) c.loop.lines.items (length c.args.bytes.now + 1) c.loop.counter c.loop.rest.now c.in-Some.line c.in_ok-line.after.now
    (until_reading (any_line c.args.context) [] (length c.args.bytes.now + 1) c.args.bytes.now) c.loop-test.true e c.loop.invariant)

pub returns-in_err-line : goal.returns-in_err-line
returns-in_err-line c =
    let p = err_from_is_err_and c.from_residual.result c.from_residual.ensures.1 in
    rw (p.1, p.2) (fails (any_line c.args.context) c.in_err-line.field-0.0 c.loop.lines.items (length c.args.bytes.now + 1) c.loop.counter c.loop.rest.now
    (until_reading (any_line c.args.context) [] (suc (length c.args.bytes.now)) c.args.bytes.now) c.loop-test.true c.in_err-line.ensures
    (c.loop.invariant ∙ ap (λ (k : ℕ). until_reading (any_line c.args.context) [] k c.args.bytes.now) (add-one (length c.args.bytes.now))))

pub returns-in-None : goal.returns-in-None
returns-in-None c =
    let e = rw c.in-None.is at c.in_ok-line.ensures in
    last (any_line c.args.context) c.loop.lines.items (length c.args.bytes.now + 1) c.loop.counter c.loop.rest.now c.in_ok-line.after.now
    (until_reading (any_line c.args.context) [] (suc (length c.args.bytes.now)) c.args.bytes.now) c.loop-test.true e
    (c.loop.invariant ∙ ap (λ (k : ℕ). until_reading (any_line c.args.context) [] k c.args.bytes.now) (add-one (length c.args.bytes.now)))

pub returns : goal.returns
returns c = out (any_line c.args.context) c.loop.lines.items (length c.args.bytes.now + 1) c.loop.counter c.loop.rest.now
    (until_reading (any_line c.args.context) [] (suc (length c.args.bytes.now)) c.args.bytes.now) c.loop-test.false
    (c.loop.invariant ∙ ap (λ (k : ℕ). until_reading (any_line c.args.context) [] k c.args.bytes.now) (add-one (length c.args.bytes.now)))

pub loop-init : goal.loop-init
loop-init c = starts (any_line c.args.context) c.new-lines.result.items (length c.args.bytes.now + 1) c.args.bytes.now c.new-lines.ensures.items
