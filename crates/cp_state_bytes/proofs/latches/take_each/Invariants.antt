use Rattle.std.proofs.Common.{◌≡◌, ◌-◌, ◌≤◌, []}
use Rattle.cp_grammar.specs.Lists.{items_reading}
use Rattle.cp_grammar.proofs.ItemLoop.{with_front}
use Rattle.cp_group_state.specs.Latches.{counted_calls}
use Rattle.cp_state_bytes.specs.Rows.{latch_row}
use Rattle.cp_state_bytes.proofs.latches.take_each.Given as goal

abbrev pub invariant-loop : goal.invariant-loop
invariant-loop l = record {
  read : with_front l.items.items (items_reading latch_row l.items.items (l.count - l.counter) l.rest) ≡ items_reading latch_row [] l.count l.bytes;
  counted : l.so_far ≡ counted_calls l.items.items;
  few : l.so_far ≤ 100000;
}
