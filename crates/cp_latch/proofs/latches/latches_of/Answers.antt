use Rattle.std.specs.Vec.Iter.{into_iter_items}
use Rattle.cp_latch.proofs.Steps.{goes_behind, first_round_fits, other_rounds_fit}
use Rattle.cp_latch.proofs.latches.latches_of.Goals as goal

pub add-requires : goal.add-requires
add-requires c = first_round_fits (into_iter_items c.loop-name.name-iterator) (into_iter_items c.next.new.self) (c.in-Some.name, c.in-Some.row) c.loop-name.invariant.rounds c.in-Some.ensures.steps.0

pub loop-name-preserved : goal.loop-name-preserved
loop-name-preserved c = record {
  rows = goes_behind c.loop-name.latches c.add.new.latches (into_iter_items c.loop-name.name-iterator) (into_iter_items c.next.new.self) c.args.rows (c.in-Some.name, c.in-Some.row) c.in_ok-add.ensures c.in-Some.ensures.steps.0 c.loop-name.invariant.rows;
  rounds = other_rounds_fit (into_iter_items c.loop-name.name-iterator) (into_iter_items c.next.new.self) (c.in-Some.name, c.in-Some.row) c.loop-name.invariant.rounds c.in-Some.ensures.steps.0;
}
