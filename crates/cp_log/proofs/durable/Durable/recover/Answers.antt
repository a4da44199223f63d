use Rattle.std.proofs.Common.{◌+◌, ℕ, List, length, refl, sym, ◌∙◌, ap, arith}
use Rattle.cp_journal.specs.Found.{lists}
use Rattle.cp_log_rules.specs.Recovery.{after_body}
use Rattle.cp_log.specs.Durables.{durable_of}
use Rattle.cp_log.proofs.Recovering.{bad_body, first_and_rest, good_body, next_place, no_body, none_left}
use Rattle.cp_log.proofs.durable.Durable.recover.Goals as goal

pub returns-in-Ok-false : goal.returns-in-Ok-false
returns-in-Ok-false c =
    let inv = c.loop-rest.invariant in (
      inv.0,
      bad_body inv.0 (durable_of c.loop-rest.state) _ (lists c.loop-rest.rest.now) _ c.body-item.result.items _ inv.1 (first_and_rest c.loop-rest.rest.now c.body-item.result (omega arith) c.body-item.is)
          (ap (λ (b : List ℕ). after_body b (durable_of c.loop-rest.state)) (sym c.deref.ensures.value) ∙ c.in-Ok-false.ensures) (rw c.in-Ok-false.field-0-test refl),
      inv.2,
    )

pub loop-rest-preserved : goal.loop-rest-preserved
loop-rest-preserved c =
    let inv = c.loop-rest.invariant in (
      inv.0 + (length c.body-item.result.items + 5),
      good_body inv.0 (durable_of c.loop-rest.state) (durable_of c.take_body.new.self) _ (lists c.loop-rest.rest.now) _ c.body-item.result.items _ inv.1 (first_and_rest c.loop-rest.rest.now c.body-item.result (omega arith) c.body-item.is)
          (ap (λ (b : List ℕ). after_body b (durable_of c.loop-rest.state)) (sym c.deref.ensures.value) ∙ c.in-Ok-true.ensures) (rw c.in-Ok-true.field-0-test refl),
      next_place inv.0 c.loop-rest.place (length c.body-item.result.items + 5) c.saturating_add-place.result inv.2 (omega (arith, c.saturating_add-place.ensures)),
    )

pub returns : goal.returns
returns c =
    let inv = c.loop-rest.invariant in
    no_body inv.0 (durable_of c.loop-rest.state) _ (lists c.loop-rest.rest.now) inv.1 (none_left c.loop-rest.rest.now (omega arith))
