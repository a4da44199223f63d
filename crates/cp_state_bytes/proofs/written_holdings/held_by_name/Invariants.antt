use Rattle.std.proofs.Common.{◌≡◌}
use Rattle.cp_semaphore.specs.Nested.{flat}
use Rattle.cp_state_bytes.specs.Keys.{held_cmp}
use Rattle.cp_state_bytes.specs.Lists.{by_name, sorted_into, turned}
use Rattle.cp_state_bytes.proofs.written_holdings.held_by_name.Given as goal

abbrev pub invariant-loop-session : goal.invariant-loop-session
invariant-loop-session l = sorted_into held_cmp turned l.map.entries (flat l.session-iterator) ≡ by_name (flat l.holdings.entries)
