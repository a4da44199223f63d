use Rattle.std.proofs.Common.{◌+◌, ◌∙◌, ℕ, suc, length, ap, add-one, []}
use Rattle.std.proofs.lemmas.Result.{err_from_is_err_and}
use Rattle.cp_grammar.specs.Lists.{until_reading}
use Rattle.cp_grammar.proofs.LineLoop.{starts, turns, fails, last, out}
use Rattle.cp_schedule.specs.Header.{limit_line}
use Rattle.cp_schedule.proofs.header.take_limit_rows.Goals as goal

pub loop-preserved : goal.loop-preserved
loop-preserved c =
    let e = rw (c.deref.ensures.value, c.in-Some.is) at c.in_ok-limit.ensures in
    rw c.in_ok-push-in-Some.ensures.items (turns limit_line c.loop.limits.items (length c.args.bytes.now + 1) c.loop.counter c.loop.rest.now c.in-Some.limit c.in_ok-limit.after.now
    (until_reading limit_line [] (length c.args.bytes.now + 1) c.args.bytes.now) c.loop-test.true e c.loop.invariant)

pub returns-in_err-limit : goal.returns-in_err-limit
returns-in_err-limit c =
    let p = err_from_is_err_and c.from_residual.result c.from_residual.ensures.1 in
    rw (p.1, p.2) (fails limit_line c.in_err-limit.field-0.0 c.loop.limits.items (length c.args.bytes.now + 1) c.loop.counter c.loop.rest.now
    (until_reading limit_line [] (suc (length c.args.bytes.now)) c.args.bytes.now) c.loop-test.true (rw c.deref.ensures.value at c.in_err-limit.ensures)
    (c.loop.invariant ∙ ap (λ (k : ℕ). until_reading limit_line [] k c.args.bytes.now) (add-one (length c.args.bytes.now))))

pub returns-in-None : goal.returns-in-None
returns-in-None c =
    let e = rw (c.deref.ensures.value, c.in-None.is) at c.in_ok-limit.ensures in
    last limit_line c.loop.limits.items (length c.args.bytes.now + 1) c.loop.counter c.loop.rest.now c.in_ok-limit.after.now
    (until_reading limit_line [] (suc (length c.args.bytes.now)) c.args.bytes.now) c.loop-test.true e
    (c.loop.invariant ∙ ap (λ (k : ℕ). until_reading limit_line [] k c.args.bytes.now) (add-one (length c.args.bytes.now)))

pub returns : goal.returns
returns c = out limit_line c.loop.limits.items (length c.args.bytes.now + 1) c.loop.counter c.loop.rest.now
    (until_reading limit_line [] (suc (length c.args.bytes.now)) c.args.bytes.now) c.loop-test.false
    (c.loop.invariant ∙ ap (λ (k : ℕ). until_reading limit_line [] k c.args.bytes.now) (add-one (length c.args.bytes.now)))

pub loop-init : goal.loop-init
loop-init c = starts limit_line c.new-limits.result.items (length c.args.bytes.now + 1) c.args.bytes.now c.new-limits.ensures.items
