-- A read that a leader takes.
use Rattle.std.proofs.Common.{ℕ, not, List, [], refl, None, length, nat_le, if◌then◌else◌}
use Rattle.cp_base.specs.declared.identifier.Invocation.{Invocation}
use Rattle.cp_answers.specs.declared.refusal.Refusal.TheVariants.{NotLeader, Overloaded}
use Rattle.cp_rules.specs.declared.outcome.Outcome.TheVariants.{Refused}
use Rattle.cp_rules.specs.Limits.{most_looks}
use Rattle.cp_rules.specs.Persistent.{members, others}
use Rattle.cp_rules.specs.Volatile.{VolatileState}
use Rattle.cp_rules.specs.Local.{Confirm, does, send, is_leader}
use Rattle.cp_rules.specs.Confirming.{confirms, waits, begins_round, on_read}
use Rattle.cp_rules_facts.proofs.Basics.{either, all_mapped}
use Rattle.cp_rules_facts.proofs.Turns.{Turn, Truth, Good}
use Rattle.cp_rules_facts.proofs.Quiet.{silent, stays}

pub read_good : (t : Turn) (call : Invocation) (attempt : ℕ) (op : List ℕ) → Good t (on_read t.me t.p t.v call attempt op)
read_good t call attempt op =
    let reads = waits t.p t.v.reads call attempt op in
    let state : VolatileState = record t.v { reads = reads } in
    let taken = begins_round t.me t.p t.v reads in
    either (Good t) (not (is_leader t.v.role)) (record (does None t.v []) { outcome = Refused (NotLeader t.v.leader) }) (if nat_le most_looks (length t.v.reads.looks) then record (does None t.v []) { outcome = Refused (Overloaded most_looks) } else taken)
    (λ h. let g = silent t in g)
    (λ h. either (Good t) (nat_le most_looks (length t.v.reads.looks)) (record (does None t.v []) { outcome = Refused (Overloaded most_looks) }) taken
    (λ z. let g = silent t in g)
    (λ z. stays t state (confirms t.me t.p reads) (record { role = refl; peers = refl; commit = refl; received = refl }) refl
    (all_mapped (Truth t (is_leader t.v.role) t.p state) (λ f. send f (Confirm t.p.term reads.round)) (others t.me (members t.p)) (λ f. (tt, tt)))))
