use Rattle.std.proofs.Common.{◌≡◌}
use Rattle.cp_semaphore.specs.Nested.{under}
use Rattle.cp_state_bytes.specs.Keys.{held_cmp}
use Rattle.cp_state_bytes.specs.Lists.{sorted_into, turned}
use Rattle.cp_state_bytes.proofs.written_holdings.add_session.Given as goal

abbrev pub invariant-loop-name : goal.invariant-loop-name
invariant-loop-name l = sorted_into held_cmp turned l.map.entries (under l.session l.name-iterator) ≡ sorted_into held_cmp turned l.fn.map.entries (under l.session l.held.entries)
