use Rattle.std.specs.Vec.Iter.{into_iter_items}
use Rattle.cp_rows.proofs.Changes.{goes_on}
use Rattle.cp_rows.proofs.rows.from_rows.Goals as goal

pub loop-key-preserved : goal.loop-key-preserved
loop-key-preserved g c = goes_on g.K.Ord.cmp g.met.K.Ord.total c.loop-key.map.entries c.append.new.map.entries (into_iter_items c.loop-key.key-iterator) (into_iter_items c.next.new.self) c.args.rows c.in-Some.key c.in-Some.row c.in_ok-append.ensures c.requires c.loop-key.invariant c.in-Some.ensures.steps.0
