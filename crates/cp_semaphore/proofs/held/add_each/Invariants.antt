use Rattle.std.proofs.Common.{◌≡◌, ℕ, List, ◌||◌}
use Rattle.std.specs.Prelude.{bytes_eq}
use Rattle.std.specs.List.{list_any}
use Rattle.cp_semaphore.specs.Concerns.{has}
use Rattle.cp_semaphore.proofs.held.add_each.Given as goal

abbrev pub invariant-loop-name : goal.invariant-loop-name
invariant-loop-name l = (name : List ℕ) → (has l.names.entries name || list_any (λ e. bytes_eq name e.0) l.name-iterator) ≡ (has l.fn.names.entries name || list_any (λ e. bytes_eq name e.0) l.held.entries)
