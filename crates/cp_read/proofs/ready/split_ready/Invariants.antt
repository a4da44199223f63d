use Rattle.std.proofs.Common.{◌≡◌, ◌++◌}
use Rattle.std.specs.Prelude.{filter, not}
use Rattle.std.specs.Vec.Iter.{into_iter_items}
use Rattle.cp_rules.specs.Volatile as step
use Rattle.cp_read.specs.Looks.{ready}
use Rattle.cp_read.proofs.ready.split_ready.Given as goal

abbrev pub invariant-loop-look : goal.invariant-loop-look
invariant-loop-look l =
    (l.taken.items ++ filter (ready l.me l.members l.confirmed l.applied) (into_iter_items l.look-iterator) ≡ filter (ready l.me l.members l.confirmed l.applied) l.fn.looks.items)
    × (l.waiting.items ++ filter (λ (look : step.Look). not (ready l.me l.members l.confirmed l.applied look)) (into_iter_items l.look-iterator) ≡ filter (λ (look : step.Look). not (ready l.me l.members l.confirmed l.applied look)) l.fn.looks.items)
