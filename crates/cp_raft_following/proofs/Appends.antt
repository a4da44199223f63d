-- Entries that a leader handed over.
use Rattle.std.proofs.Common.{◌≡◌, ◌≤◌, ℕ, List, [], ◌∷◌, false, map, refl, ap, ◌∙◌, nat_lt, arith}
use Rattle.std.proofs.lemmas.Bool.Decides.{nat_tests}
use Rattle.cp_parts.specs.declared.log_entry.LogEntry.{LogEntry}
use Rattle.cp_message.specs.declared.entries.LogEntry as wire
use Rattle.cp_log_rules.specs.Persistent.{PersistentState}
use Rattle.cp_rules.specs.declared.ballot.Ballot.{Ballot}
use Rattle.cp_rules.specs.Persistent.{ballot}
use Rattle.cp_rules.specs.Volatile.{VolatileState}
use Rattle.cp_rules.specs.Terms.{adopted}
use Rattle.cp_rules.specs.Appends.{following, on_append}
use Rattle.cp_replicate.specs.declared.following.Followed.{Followed}
use Rattle.cp_replicate.specs.Decisions.{followed}
use Rattle.cp_replicate.specs.Laws.{follows}
use Rattle.cp_replicate.specs.Logs.{entry_of}
use Rattle.cp_replicate.proofs.Rules.{appends_go_as_decided}
use Rattle.cp_raft_state.specs.Said.{entry_in}

-- one spelling of what an entry stands for
same_entries : (entries : List wire.LogEntry) → map entry_of entries ≡ map entry_in entries
same_entries [] = refl
same_entries (e ∷ entries) = ap (λ (es : List LogEntry). entry_in e ∷ es) (same_entries entries)

-- in a term that is not smaller than the member's own
in_time : (p : PersistentState) (v : VolatileState) (from term previous previous_term told : ℕ) (entries : List LogEntry) → p.term ≤ term
    → on_append p v from term previous previous_term told entries
    ≡ follows p (adopted term (ballot p)) (following from v) from told previous entries (followed p v.commit previous previous_term entries)
in_time p v from term previous previous_term told entries up =
    let late : nat_lt term p.term ≡ false = grind (arith, nat_tests) in
    appends_go_as_decided p v from term previous previous_term told entries ∙ rw late refl

-- by what was decided of it
pub goes_as_decided : (p : PersistentState) (v w : VolatileState) (from term previous previous_term told commit : ℕ) (entries handed : List wire.LogEntry) (own now : Ballot) (found : Followed)
    → own ≡ ballot p
    → own.term ≤ term
    → now ≡ adopted term own
    → w ≡ following from v
    → commit ≡ v.commit
    → handed ≡ entries
    → found ≡ followed p commit previous previous_term (map entry_of handed)
    → on_append p v from term previous previous_term told (map entry_in entries) ≡ follows p now w from told previous (map entry_in entries) found
goes_as_decided p v w from term previous previous_term told commit entries handed own now found is_own up is_now is_w is_commit is_handed is_found =
    let up_to : p.term ≤ term = omega (arith, ap (λ (b : Ballot). b.term) is_own, up) in
    rw (is_found, is_commit, is_handed, same_entries entries, is_w, is_now, is_own) (in_time p v from term previous previous_term told (map entry_in entries) up_to)
