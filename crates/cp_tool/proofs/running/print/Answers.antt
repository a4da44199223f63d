use Rattle.cp_tool.proofs.Stepping.{printed}
use Rattle.cp_tool.proofs.running.print.Goals as goal

pub returns : goal.returns
returns c = λ shown history tells. printed c.args.event.now c.args.turn.now _ _ _ c.args.transcript.now c.add_effects.new.self c.add_all_committed.new.self
    c.as_slice.ensures c.as_slice-2.ensures c.as_slice-3.ensures c.in_ok-add_effects.ensures.tells c.in_ok-add_all_committed.ensures shown history tells
