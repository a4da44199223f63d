use Rattle.std.proofs.Common.{◌++◌, map, ap, arith}
use Rattle.cp_world.proofs.Turned.{all_shown, one_shown}
use Rattle.cp_world.proofs.committing.show_returns.Goals as goal

pub loop-call-init : goal.loop-call-init
loop-call-init c = ap (λ rs. c.args.out.now ++ map (λ x. (c.args.me, x)) rs) c.take_backwards-calls.ensures.taken

pub loop-call-preserved : goal.loop-call-preserved
loop-call-preserved c = one_shown (λ x. (c.args.me, x)) c.loop-call.out c.args.out.now c.push.new.self c.loop-call.calls.items c.pop.new.self.items c.args.returns.now c.in-Some.call
    c.in-Some.ensures.items c.in_ok-push.ensures.ok c.loop-call.invariant

pub returns : goal.returns
returns c = all_shown (λ x. (c.args.me, x)) c.loop-call.out c.args.out.now c.loop-call.calls.items c.args.returns.now
    (omega (arith, c.loop-call.calls.ok.0, c.in_default.ensures.cases.0)) c.loop-call.invariant
