-- How far a leader commits, and what stands after it.
use Rattle.std.proofs.Common.{◌≡◌, ℕ, ◌+◌, ◌≤◌, ⊎_elim, Bool, arith}
use Rattle.cp_log_rules.specs.Persistent.{PersistentState}
use Rattle.cp_rules.specs.Commit.{greatest, commit_found, commits}
use Rattle.cp_rules.specs.Volatile.{VolatileState}
use Rattle.cp_rules_facts.proofs.Commits.{found, committing}

pub found_from : (test : ℕ → Bool) (low n : ℕ) → low ≤ greatest test low n
found_from test low n = ⊎_elim
    (λ (e : greatest test low n ≡ low). omega (arith, e))
    (λ z. let above = z.0 in omega (arith, above))
    (found test low n)

pub found_to : (test : ℕ → Bool) (low n : ℕ) → greatest test low n ≤ low + n
found_to test low n = ⊎_elim
    (λ (e : greatest test low n ≡ low). omega (arith, e))
    (λ z. z.1)
    (found test low n)

-- what is kept of the members stays
pub peers_stay : (me : ℕ) (p : PersistentState) (v : VolatileState) → (commits me p v).peers ≡ v.peers
peers_stay me p v = (committing me p v (commit_found me p v)).peers
