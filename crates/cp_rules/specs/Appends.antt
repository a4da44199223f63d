-- Append: a follower's log follows the leader's from the first difference on.
use Rattle.std.specs.Prelude.{ℕ, suc, ◌+◌, ◌-◌, min, max, true, false, if◌then◌else◌, List, [], ◌∷◌, length, drop, Option, Some, None, nat_lt}
use Rattle.cp_parts.specs.declared.log_entry.LogEntry.{LogEntry}
use Rattle.cp_rules.specs.declared.ballot.Ballot.{Ballot}
use Rattle.cp_rules.specs.declared.role.Role.TheVariants.{Follower}
use Rattle.cp_log_rules.specs.Persistent.{PersistentState, last, term_at}
use Rattle.cp_rules.specs.Persistent.{ballot, is_term, has_term, ballot_part, AppendPart}
use Rattle.cp_rules.specs.Volatile.{VolatileState}
use Rattle.cp_rules.specs.Local.{LocalStep, does, reply, AppendReply}
use Rattle.cp_rules.specs.Terms.{adopted}

-- the sender leads the member's term
abbrev pub following : ℕ → VolatileState → VolatileState
following leader v = record v { role = Follower; leader = leader; heard = v.clock }

-- Entries that differ from the log, and the index that they follow.
pub record Difference : Type 0 where
  pub after : ℕ
  pub entries : List LogEntry

-- The first of these entries, which follow an index, that is past the end of the log or has another term there, with all after it.
-- `terms` has the term of each index of the log.
abbrev pub difference : (ℕ → Option ℕ) → ℕ → List LogEntry → Option Difference
difference terms after [] = None
difference terms after (e ∷ entries) = if is_term e.term (terms (suc after)) then difference terms (suc after) entries else Some (record { after = after; entries = e ∷ entries })

-- no further than the leader has committed, and no further than the log is known to follow
abbrev pub follower_commit : ℕ → ℕ → ℕ → ℕ
follower_commit commit told index = max commit (min told index)

-- Where the difference begins at or below the commit, the log stays and nothing is answered: a leader never sends that. `b` is the
-- ballot with the term adopted, `index` the message's previous index plus the number of its entries.
abbrev pub takes : PersistentState → Ballot → VolatileState → ℕ → ℕ → ℕ → Option Difference → LocalStep
takes p b v from told index None = does (ballot_part p b) (record v { commit = follower_commit v.commit told index }) (reply from (AppendReply b.term true index))
takes p b v from told index (Some d) =
    if nat_lt d.after v.commit then does (ballot_part p b) v []
    else does (Some (AppendPart b d.after d.entries)) (record v { commit = follower_commit v.commit told index }) (reply from (AppendReply b.term true index))

abbrev pub refused_index : ℕ → ℕ → ℕ
refused_index last previous = min last (previous - 1)

abbrev pub goes_on : PersistentState → Ballot → VolatileState → ℕ → ℕ → ℕ → ℕ → ℕ → List LogEntry → LocalStep
goes_on p b v from previous previous_term told index entries =
    if has_term p previous previous_term then takes p b v from told index (difference (term_at p) previous entries)
    else does (ballot_part p b) v (reply from (AppendReply b.term false (refused_index (last p) previous)))

-- Where it begins below the base, it is taken from the base on.
abbrev pub on_append : PersistentState → VolatileState → ℕ → ℕ → ℕ → ℕ → ℕ → List LogEntry → LocalStep
on_append p v from term previous previous_term told entries =
    if nat_lt term p.term then does None v (reply from (AppendReply p.term false 0))
    else if nat_lt previous p.base
    then goes_on p (adopted term (ballot p)) (following from v) from p.base p.base_term told (previous + length entries) (drop (p.base - previous) entries)
    else goes_on p (adopted term (ballot p)) (following from v) from previous previous_term told (previous + length entries) entries
