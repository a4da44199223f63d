use Rattle.std.proofs.Common.{◌≡◌, ◌∙◌, ◌∷◌, ◌++◌, sym, ap, rules, List}
use Rattle.std.specs.Vec.Iter.{into_iter_items}
use Rattle.cp_group_state.specs.declared.rows.Waiter.{Waiter}
use Rattle.cp_wait.proofs.Standing.{rows-fault}
use Rattle.cp_wait.proofs.waits.Waits.from_rows.Goals as goal

pub returns-in-Err-seat-clause-fault : goal.returns-in-Err-seat-clause-fault
returns-in-Err-seat-clause-fault c = let h : into_iter_items c.loop-waiter.waiter-iterator ≡ c.in-Some.waiter ∷ into_iter_items c.next.new.self = search rules in
    rows-fault c.in-Err-seat.error c.loop-waiter.waits c.in-Some.waiter (into_iter_items c.next.new.self) c.args.rows
    (ap (λ (ws : List Waiter). c.loop-waiter.waits ++ ws) (sym h) ∙ c.loop-waiter.invariant) c.in-Err-seat.ensures.fault
