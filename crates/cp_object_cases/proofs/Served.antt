-- Who is served by what stands available.
use Rattle.std.proofs.Common.{◌≡◌, List, ℤ, Option, Some, ap, sym, ◌∙◌}
use Rattle.std.specs.Option.{option_map}
use Rattle.cp_group_state.specs.declared.rows.SemaphoreRow.{SemaphoreRow}
use Rattle.cp_group_state.specs.declared.rows.Waiter.{Waiter}
use Rattle.cp_group_state.specs.Rows.{Object, find, object_cmp}
use Rattle.cp_group_state.specs.Semaphores.{Semaphores, served}
use Rattle.cp_semaphore.specs.Outcomes.{available_of}
use Rattle.cp_semaphore.specs.Serving.{AreServed}

-- these are served by what stands available
pub are_served : (key : Object) (s : Semaphores) (available : ℤ) (ws found : List Waiter) → available_of key s ≡ Some available → found ≡ served key available ws → AreServed key found s
are_served key s available ws found stands is = (ws, λ row there. is ∙ ap (λ (a : ℤ). served key a ws) (same row there))
  where
    same : (row : SemaphoreRow) → find object_cmp s.rows key ≡ Some row → available ≡ row.available
    same row there = let e : Some available ≡ Some row.available = sym stands ∙ ap (λ (o : Option SemaphoreRow). option_map (λ (r : SemaphoreRow). r.available) o) there in cc
