-- Reads that wait.
use Rattle.std.specs.Prelude.{ℕ, suc, Bool, List, [], ◌∷◌, ◌++◌, filter, not}
use Rattle.cp_base.specs.declared.identifier.Invocation.{Invocation}
use Rattle.cp_replicate.specs.Decisions as decided
use Rattle.cp_rules.specs.Confirming.{is_ready}
use Rattle.cp_rules.specs.Volatile.{Look, Reads, VolatileState}

-- with a read that came when the log ended at this index
abbrev pub waiting : ℕ → Reads → Invocation → ℕ → List ℕ → Reads
waiting index reads call attempt op = record reads {
  round = suc reads.round;
  looks = reads.looks ++ record { call = call; attempt = attempt; index = index; round = suc reads.round; op = op } ∷ [];
}

-- it is ready, by what the members have confirmed
abbrev pub ready : ℕ → List ℕ → List ℕ → ℕ → Look → Bool
ready me members confirmed commit look = decided.is_ready me members confirmed commit look.index look.round

abbrev pub without_ready : ℕ → List ℕ → VolatileState → VolatileState
without_ready me members v = record v { reads = record v.reads { looks = filter (λ look. not (is_ready me members v.reads v.commit look)) v.reads.looks } }
