-- How far a leader commits: to the last entry of its own term that a quorum of the configuration holds.
use Rattle.std.specs.Prelude.{ℕ, zero, suc, ◌+◌, ◌-◌, ◌==◌, Bool, ◌&&◌, ◌||◌, if◌then◌else◌, List, Option, nat_le}
use Rattle.cp_rules.specs.declared.peer.Peer.{Peer}
use Rattle.cp_log_rules.specs.Persistent.{PersistentState, last, term_at}
use Rattle.cp_log_rules.specs.Configurations.{config_at}
use Rattle.cp_rules.specs.Persistent.{is_term, members, is_member, is_quorum}
use Rattle.cp_rules.specs.Volatile.{VolatileState, peer}
use Rattle.cp_rules.specs.Terms.{steps_down}

-- the greatest of the n numbers above `low` that passes the test, else `low`
abbrev pub greatest : (ℕ → Bool) → ℕ → ℕ → ℕ
greatest test low zero = low
greatest test low (suc n) = if test (low + suc n) then low + suc n else greatest test low n

-- the member is known to hold the index; the leader holds all of its log
abbrev pub holds : ℕ → List Peer → ℕ → ℕ → Bool
holds me peers index member = (member == me) || nat_le index (peer peers member).matched

-- `terms` has the term of each index of the log, `term` is the leader's own
abbrev pub may_commit : ℕ → (ℕ → Option ℕ) → ℕ → List ℕ → List Peer → ℕ → Bool
may_commit me terms term members peers index = is_term term (terms index) && is_quorum members (holds me peers index)

abbrev pub commit_found : ℕ → PersistentState → VolatileState → ℕ
commit_found me p v = greatest (may_commit me (term_at p) p.term (members p) v.peers) v.commit (last p - v.commit)

-- where the commit rises, a leader that the committed configuration leaves out steps down
abbrev pub commits_to : ℕ → PersistentState → VolatileState → ℕ → VolatileState
commits_to me p v index =
    if index == v.commit then v
    else if is_member me (config_at p index).members then record v { commit = index }
    else steps_down (record v { commit = index })

abbrev pub commits : ℕ → PersistentState → VolatileState → VolatileState
commits me p v = commits_to me p v (commit_found me p v)
