use Rattle.std.proofs.Common.{◌≡◌, []}
use Rattle.std.specs.Vec.Iter.{into_iter_items}
use Rattle.cp_group_state.specs.Rows.{holding_cmp}
use Rattle.cp_state_bytes.specs.Lists.{sorted_into, turned}
use Rattle.cp_state_bytes.proofs.holdings.map_by_session.Given as goal

abbrev pub invariant-loop-name : goal.invariant-loop-name
invariant-loop-name l = sorted_into holding_cmp turned l.map.entries (into_iter_items l.name-iterator) ≡ sorted_into holding_cmp turned [] l.fn.rows
