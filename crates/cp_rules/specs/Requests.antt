-- An entry that the leader is asked to append, and what refuses it.
use Rattle.std.specs.Prelude.{ℕ, suc, ◌-◌, not, if◌then◌else◌, List, [], Option, Some, None, nat_le}
use Rattle.cp_answers.specs.declared.refusal.Refusal.{Refusal}
use Rattle.cp_answers.specs.declared.refusal.Refusal.TheVariants.{NotLeader, IndexEnd, Overloaded}
use Rattle.cp_rules.specs.declared.outcome.Outcome.TheVariants.{Proposed, Refused}
use Rattle.cp_rules.specs.declared.role.Role.{Role}
use Rattle.cp_rules.specs.Limits.{most_index, most_uncommitted}
use Rattle.cp_log_rules.specs.Persistent.{PersistentState, last}
use Rattle.cp_rules.specs.Persistent.{ballot}
use Rattle.cp_rules.specs.Volatile.{VolatileState}
use Rattle.cp_rules.specs.Local.{LocalStep, does, is_leader}
use Rattle.cp_rules.specs.Leadership.{creates}

-- the first that holds
abbrev pub refuses : Role → ℕ → ℕ → ℕ → Option Refusal
refuses role leader last commit =
    if not (is_leader role) then Some (NotLeader leader)
    else if nat_le most_index last then Some (IndexEnd last)
    else if nat_le most_uncommitted (last - commit) then Some (Overloaded most_uncommitted)
    else None

abbrev pub refuses_entry : PersistentState → VolatileState → Option Refusal
refuses_entry p v = refuses v.role v.leader (last p) v.commit

-- what is refused does nothing else
abbrev pub unless_refused : Option Refusal → VolatileState → LocalStep → LocalStep
unless_refused None v s = s
unless_refused (Some refusal) v s = record (does None v []) { outcome = Refused refusal }

abbrev pub proposes : ℕ → PersistentState → VolatileState → List ℕ → LocalStep
proposes me p v entry = record (creates me p v (ballot p) entry) { outcome = Proposed (suc (last p)) }

abbrev pub on_propose : ℕ → PersistentState → VolatileState → List ℕ → LocalStep
on_propose me p v entry = unless_refused (refuses_entry p v) v (proposes me p v entry)
