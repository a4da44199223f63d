-- Votes: one in a term, and only for a log that is at least as up to date as the voter's.
use Rattle.std.specs.Prelude.{ℕ, ◌==◌, Bool, true, false, ◌&&◌, ◌||◌, if◌then◌else◌, [], None, nat_lt}
use Rattle.cp_rules.specs.declared.ballot.Ballot.{Ballot}
use Rattle.cp_rules.specs.declared.log_end.LogEnd.{LogEnd}
use Rattle.cp_log_rules.specs.Persistent.{PersistentState}
use Rattle.cp_rules.specs.Persistent.{ballot, log_end, members, is_member, ballot_part}
use Rattle.cp_rules.specs.Volatile.{VolatileState}
use Rattle.cp_rules.specs.Local.{LocalStep, does, reply, VoteReply, is_candidate}
use Rattle.cp_rules.specs.Terms.{adopted, steps_down_for, adopts}
use Rattle.cp_rules.specs.Leadership.{takes_leadership}
use Rattle.cp_rules.specs.PreVotes.{is_up_to_date, with_vote, has_quorum}

-- the ballot after the greater term is adopted
abbrev pub grants_vote : Ballot → ℕ → ℕ → Bool → Bool
grants_vote b candidate term up_to_date = (b.term == term) && (((b.vote == 0) || (b.vote == candidate)) && up_to_date)

abbrev pub on_vote : PersistentState → VolatileState → ℕ → ℕ → LogEnd → LocalStep
on_vote p v from term candidate =
    let now = adopted term (ballot p) in
    if grants_vote now from term (is_up_to_date candidate (log_end p))
    then does (ballot_part p (record { term = term; vote = from })) (record (steps_down_for term p v) { heard = v.clock }) (reply from (VoteReply term true))
    else does (ballot_part p now) (steps_down_for term p v) (reply from (VoteReply now.term false))

abbrev pub counts_vote : ℕ → PersistentState → VolatileState → LocalStep
counts_vote me p v = if has_quorum me (members p) v then takes_leadership me p v p.term else does None v []

abbrev pub on_vote_reply : ℕ → PersistentState → VolatileState → ℕ → ℕ → Bool → LocalStep
on_vote_reply me p v from term granted =
    if nat_lt p.term term then adopts term p v
    else if granted && (is_candidate v.role && ((term == p.term) && is_member from (members p))) then counts_vote me p (with_vote from v)
    else does None v []
