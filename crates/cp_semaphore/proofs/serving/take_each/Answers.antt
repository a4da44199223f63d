use Rattle.std.proofs.Common.{◌≡◌, ◌-◌, ◌∷◌, List, length, take, drop, subst, ap, sym, ◌∙◌}
use Rattle.cp_group_state.specs.Semaphores.{take_all}
use Rattle.cp_group_state.specs.declared.rows.Waiter.{Waiter}
use Rattle.cp_semaphore.specs.Tables.{seen}
use Rattle.cp_semaphore.specs.Serving.{CanTake}
use Rattle.cp_semaphore.proofs.Taking.{front}
use Rattle.cp_semaphore.proofs.serving.take_each.Goals as goal

pub loop-rest-preserved : goal.loop-rest-preserved
loop-rest-preserved c = let after = take (length c.loop-rest.rest.now - 1) (drop 1 c.loop-rest.rest.now) in
    let split : c.loop-rest.rest.now ≡ c.waiter-item.result ∷ after = front c.loop-rest.rest.now c.waiter-item.result c.in-len1-up.len_at_least c.waiter-item.is in
    record {
      table = c.in-Ok.ensures.table after (subst (λ (ws : List Waiter). CanTake c.args.key.now ws (seen c.loop-rest.tables)) split c.loop-rest.invariant.can);
      can = c.in-Ok.ensures.can after (subst (λ (ws : List Waiter). CanTake c.args.key.now ws (seen c.loop-rest.tables)) split c.loop-rest.invariant.can);
      same = c.in-Ok.ensures.same after ∙ ap (λ (ws : List Waiter). take_all c.args.key.now ws (seen c.loop-rest.tables)) (sym split) ∙ c.loop-rest.invariant.same;
    }
