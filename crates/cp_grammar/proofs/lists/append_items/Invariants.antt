use Rattle.std.proofs.Common.{◌≡◌, ◌++◌, [], take, drop}
use Rattle.cp_grammar.specs.Lists.{items_spelling, ItemsFit}
use Rattle.cp_grammar.proofs.lists.append_items.Given as goal

abbrev pub invariant-loop-i : goal.invariant-loop-i
invariant-loop-i g l = record {
  written : l.out.items ++ items_spelling g.T.Item.item (take l.i l.items) (drop l.i l.items) ≡ l.fn.out.items ++ items_spelling g.T.Item.item [] l.items;
  fit : ItemsFit g.T.Item.item (take l.i l.items) (drop l.i l.items);
}
