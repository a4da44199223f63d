use Rattle.cp_semaphore.specs.Nested.{under}
use Rattle.cp_state_bytes.specs.Keys.{held_cmp}
use Rattle.cp_state_bytes.specs.Lists.{sorted_into, turned}
use Rattle.cp_state_bytes.proofs.Spellings.{one_held}
use Rattle.cp_state_bytes.proofs.written_holdings.add_session.Goals as goal

pub loop-name-preserved : goal.loop-name-preserved
loop-name-preserved c = one_held c.loop-name.map.entries c.add.new.map.entries (sorted_into held_cmp turned c.args.map.now.entries (under c.args.session c.args.held.now.entries)) c.args.session c.in-Some.name.now c.in-Some.permits.now
    c.loop-name.name-iterator c.next.new.self c.in_ok-add.ensures c.in-Some.ensures.steps c.loop-name.invariant
