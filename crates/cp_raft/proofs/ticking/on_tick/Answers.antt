use Rattle.cp_raft.proofs.Beats.{ticked_due}
use Rattle.cp_raft.proofs.ticking.on_tick.Goals as goal

pub leads_on-requires-clause-due : goal.leads_on-requires-clause-due
leads_on-requires-clause-due g c = λ bytes h. ticked_due c.args.now (g.G.Log.stored c.args.stored.now) c.args.state.now c.set_clock.new.self bytes c.set_clock.ensures (c.requires.may.fair.1 bytes h)

pub waits-requires-clause-due : goal.waits-requires-clause-due
waits-requires-clause-due g c = λ bytes h. ticked_due c.args.now (g.G.Log.stored c.args.stored.now) c.args.state.now c.set_clock.new.self bytes c.set_clock.ensures (c.requires.may.fair.1 bytes h)
