-- Standing for election, and pre-votes: would a quorum vote for the member in the next term?
use Rattle.std.specs.Prelude.{ℕ, suc, ◌+◌, ◌-◌, ◌*◌, ◌==◌, Bool, true, not, ◌&&◌, ◌||◌, if◌then◌else◌, List, [], map, length, Some, None, nat_lt, nat_le, slice_set}
use Rattle.cp_rules.specs.declared.log_end.LogEnd.{LogEnd}
use Rattle.cp_rules.specs.declared.role.Role.{Role}
use Rattle.cp_rules.specs.declared.role.Role.TheVariants.{PreCandidate, Candidate}
use Rattle.cp_rules.specs.Limits.{most_index, least_timeout, timeout_step}
use Rattle.cp_log_rules.specs.Persistent.{PersistentState, last}
use Rattle.cp_rules.specs.Persistent.{log_end, members, is_member, others, is_quorum, StatePart}
use Rattle.cp_rules.specs.Volatile.{VolatileState, no_votes, has_voted, silence}
use Rattle.cp_rules.specs.Local.{LocalStep, does, reply, send, PreVote, PreVoteReply, Vote, is_leader, is_pre_candidate}
use Rattle.cp_rules.specs.Terms.{adopts}
use Rattle.cp_rules.specs.Leadership.{takes_leadership}

-- ---- standing

abbrev pub timeout : ℕ → ℕ
timeout me = least_timeout + timeout_step * (me - 1)

-- a member of the configuration that heard of no leader for too long, and whose term and log have room
abbrev pub may_stand : ℕ → List ℕ → ℕ → ℕ → ℕ → Bool
may_stand me members term last silence = is_member me members && (nat_le (timeout me) silence && (nat_lt term most_index && nat_lt last most_index))

-- It knows no leader from then on, and begins anew to wait and to count.
abbrev pub stands : ℕ → PersistentState → VolatileState → LocalStep
stands me p v = does None (record v { role = PreCandidate; leader = 0; heard = v.clock; votes = no_votes }) (map (λ f. send f (PreVote (suc p.term) (log_end p))) (others me (members p)))

-- One that is alone takes leadership of the next term at once, where it may write.
abbrev pub times_out : ℕ → PersistentState → VolatileState → Bool → LocalStep
times_out me p v may_write =
    if not (may_stand me (members p) p.term (last p) (silence v)) then does None v []
    else if length (members p) == 1
    then (if may_write then takes_leadership me p (record v { heard = v.clock }) (suc p.term) else does None v [])
    else stands me p v

-- ---- a pre-vote

-- a log with the first end is at least as up to date as one with the second
abbrev pub is_up_to_date : LogEnd → LogEnd → Bool
is_up_to_date a b = if a.term == b.term then nat_le b.index a.index else nat_lt b.term a.term

abbrev pub hears_no_leader : Role → ℕ → ℕ → Bool
hears_no_leader role leader silence = not (is_leader role) && ((leader == 0) || nat_le least_timeout silence)

abbrev pub grants_prevote : PersistentState → VolatileState → ℕ → LogEnd → Bool
grants_prevote p v term candidate = nat_lt p.term term && (is_up_to_date candidate (log_end p) && hears_no_leader v.role v.leader (silence v))

abbrev pub on_prevote : PersistentState → VolatileState → ℕ → ℕ → LogEnd → LocalStep
on_prevote p v from term candidate =
    let granted = grants_prevote p v term candidate in
    does None v (reply from (PreVoteReply (if granted then term else p.term) granted))

-- ---- the reply to a pre-vote

abbrev pub with_vote : ℕ → VolatileState → VolatileState
with_vote member v = record v { votes = slice_set v.votes member true }

-- with its own vote
abbrev pub has_quorum : ℕ → List ℕ → VolatileState → Bool
has_quorum me members v = is_quorum members (λ f. (f == me) || has_voted v.votes f)

-- The term rises, and it votes for itself.
abbrev pub becomes_candidate : ℕ → PersistentState → VolatileState → LocalStep
becomes_candidate me p v = does (Some (StatePart (record { term = suc p.term; vote = me }))) (record v { role = Candidate; leader = 0; votes = no_votes })
    (map (λ f. send f (Vote (suc p.term) (log_end p))) (others me (members p)))

abbrev pub counts_prevote : ℕ → PersistentState → VolatileState → LocalStep
counts_prevote me p v = if has_quorum me (members p) v then becomes_candidate me p v else does None v []

abbrev pub on_prevote_reply : ℕ → PersistentState → VolatileState → ℕ → ℕ → Bool → LocalStep
on_prevote_reply me p v from term granted =
    if not granted then (if nat_lt p.term term then adopts term p v else does None v [])
    else if is_pre_candidate v.role && ((term == suc p.term) && is_member from (members p)) then counts_prevote me p (with_vote from v)
    else does None v []
