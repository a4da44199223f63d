-- What does a step.
use Rattle.std.proofs.Common.{◌≡◌, List, sym, subst, Result, IfOk}
use Rattle.cp_message.specs.declared.message.Message.{Message}
use Rattle.cp_rules.specs.Volatile.{VolatileState}
use Rattle.cp_rules.specs.Local.{LocalStep}
use Rattle.cp_raft_state.specs.declared.did.Did.{Did}
use Rattle.cp_raft_state.specs.declared.seat.Seat.{Seat}
use Rattle.cp_raft_state.specs.Doing.{Does}

-- a step that is another is done by what does the other
pub as_decided : {E : Type 0} (seat : Seat) (s t : LocalStep) (r : Result Did E) (state : VolatileState) (before after : List Message)
    → s ≡ t → IfOk r (λ did. Does seat t did state before after) → IfOk r (λ did. Does seat s did state before after)
as_decided seat s t r state before after same done = subst (λ (x : LocalStep). IfOk r (λ did. Does seat x did state before after)) (sym same) done
