use Rattle.cp_raft_leading.proofs.Entries.{leading_above, leading_within, leading_placed}
use Rattle.cp_raft_leading.proofs.creating.takes_leadership.Goals as goal

pub creates-requires-clause-above_base : goal.creates-requires-clause-above_base
creates-requires-clause-above_base g c = leading_above c.args.seat.me (g.G.Log.stored c.args.stored.now) c.args.state.now c.leads.new.state _ c.leads.ensures c.requires.above_base

pub creates-requires-clause-within : goal.creates-requires-clause-within
creates-requires-clause-within g c = leading_within c.args.seat.me (g.G.Log.stored c.args.stored.now) c.args.state.now c.leads.new.state _ c.leads.ensures c.requires.within

pub creates-requires-clause-placed : goal.creates-requires-clause-placed
creates-requires-clause-placed g c = leading_placed c.args.seat.me (g.G.Log.stored c.args.stored.now) c.args.state.now c.leads.new.state c.leads.ensures
