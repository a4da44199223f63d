use Rattle.std.proofs.Common.{◌≡◌, ◌-◌, []}
use Rattle.cp_grammar.specs.Lists.{items_reading}
use Rattle.cp_grammar.proofs.ItemLoop.{with_front}
use Rattle.cp_meta.proofs.row.take_each.Given as goal

abbrev pub invariant-loop : goal.invariant-loop
invariant-loop g l = with_front l.items.items (items_reading g.K.RowKey.behind l.items.items (l.count - l.counter) l.rest) ≡ items_reading g.K.RowKey.behind [] l.count l.bytes
