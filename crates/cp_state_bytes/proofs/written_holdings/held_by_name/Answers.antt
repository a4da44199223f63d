use Rattle.cp_semaphore.specs.Nested.{flat}
use Rattle.cp_state_bytes.specs.Lists.{by_name}
use Rattle.cp_state_bytes.proofs.Spellings.{one_session}
use Rattle.cp_state_bytes.proofs.written_holdings.held_by_name.Goals as goal

pub loop-session-preserved : goal.loop-session-preserved
loop-session-preserved c = one_session c.loop-session.map.entries c.add_session.new.map.entries (by_name (flat c.args.holdings.now.entries)) c.in-Some.session.now c.in-Some.held.now
    c.loop-session.session-iterator c.next.new.self c.in_ok-add_session.ensures c.in-Some.ensures.steps c.loop-session.invariant
