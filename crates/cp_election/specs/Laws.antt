-- The rules do what is decided.
use Rattle.std.specs.Prelude.{◌≡◌, ℕ, suc, Bool, true, false, [], None, option_map}
use Rattle.cp_rules.specs.declared.ballot.Ballot.{Ballot}
use Rattle.cp_rules.specs.declared.log_end.LogEnd.{LogEnd}
use Rattle.cp_log_rules.specs.Persistent.{PersistentState, last}
use Rattle.cp_rules.specs.Persistent.{StatePart, ballot, ballot_part, log_end, members}
use Rattle.cp_rules.specs.Volatile.{VolatileState, silence}
use Rattle.cp_rules.specs.Local.{LocalStep, does, reply, PreVoteReply, VoteReply}
use Rattle.cp_rules.specs.Terms.{steps_down_for, adopts}
use Rattle.cp_rules.specs.Leadership.{takes_leadership}
use Rattle.cp_rules.specs.PreVotes.{hears_no_leader, stands, times_out, on_prevote, on_prevote_reply, with_vote, counts_prevote}
use Rattle.cp_rules.specs.Votes.{on_vote, on_vote_reply, counts_vote}
use Rattle.cp_election.specs.declared.replying.VoteReplied.{VoteReplied}
use Rattle.cp_election.specs.declared.replying.VoteReplied.TheVariants.{Adopted, Counted, Ignored}
use Rattle.cp_election.specs.declared.waiting.Stand.{Stand}
use Rattle.cp_election.specs.declared.waiting.Stand.TheVariants.{Waits, Leads, Asks}
use Rattle.cp_election.specs.declared.voting.VoteAnswer.{VoteAnswer}
use Rattle.cp_election.specs.declared.voting.Would.{Would}
use Rattle.cp_election.specs.Decisions.{to_write, standing, pre_vote, pre_vote_replied, vote, vote_replied}

abbrev pub BallotsAreWritten : Type 0
BallotsAreWritten = (p : PersistentState) (b : Ballot) → ballot_part p b ≡ option_map StatePart (to_write (ballot p) b)

-- ---- a tick at a member that does not lead

abbrev pub stood : ℕ → PersistentState → VolatileState → Stand → LocalStep
stood me p v Waits = does None v []
stood me p v Leads = takes_leadership me p (record v { heard = v.clock }) (suc p.term)
stood me p v Asks = stands me p v

abbrev pub TicksStandAsDecided : Type 0
TicksStandAsDecided = (me : ℕ) (p : PersistentState) (v : VolatileState) (may_write : Bool)
    → times_out me p v may_write ≡ stood me p v (standing me (members p) p.term (last p) (silence v) may_write)

-- ---- pre-votes

abbrev pub would : VolatileState → ℕ → Would → LocalStep
would v from answer = does None v (reply from (PreVoteReply answer.term answer.granted))

abbrev pub PreVotesGoAsDecided : Type 0
PreVotesGoAsDecided = (p : PersistentState) (v : VolatileState) (from term : ℕ) (candidate : LogEnd)
    → on_prevote p v from term candidate ≡ would v from (pre_vote p.term (log_end p) (hears_no_leader v.role v.leader (silence v)) term candidate)

abbrev pub after_prevote_reply : ℕ → PersistentState → VolatileState → ℕ → ℕ → VoteReplied → LocalStep
after_prevote_reply me p v from term Adopted = adopts term p v
after_prevote_reply me p v from term Counted = counts_prevote me p (with_vote from v)
after_prevote_reply me p v from term Ignored = does None v []

abbrev pub PreVoteRepliesGoAsDecided : Type 0
PreVoteRepliesGoAsDecided = (me : ℕ) (p : PersistentState) (v : VolatileState) (from term : ℕ) (granted : Bool)
    → on_prevote_reply me p v from term granted ≡ after_prevote_reply me p v from term (pre_vote_replied v.role p.term (members p) from term granted)

-- ---- votes

-- who gives its vote has heard
abbrev pub heard_by : Bool → ℕ → VolatileState → VolatileState
heard_by true clock v = record v { heard = clock }
heard_by false clock v = v

abbrev pub voted : PersistentState → VolatileState → ℕ → ℕ → VoteAnswer → LocalStep
voted p v from term answer = does (ballot_part p answer.ballot) (heard_by answer.granted v.clock (steps_down_for term p v)) (reply from (VoteReply answer.ballot.term answer.granted))

abbrev pub VotesGoAsDecided : Type 0
VotesGoAsDecided = (p : PersistentState) (v : VolatileState) (from term : ℕ) (candidate : LogEnd)
    → on_vote p v from term candidate ≡ voted p v from term (vote (ballot p) (log_end p) from term candidate)

abbrev pub after_vote_reply : ℕ → PersistentState → VolatileState → ℕ → ℕ → VoteReplied → LocalStep
after_vote_reply me p v from term Adopted = adopts term p v
after_vote_reply me p v from term Counted = counts_vote me p (with_vote from v)
after_vote_reply me p v from term Ignored = does None v []

abbrev pub VoteRepliesGoAsDecided : Type 0
VoteRepliesGoAsDecided = (me : ℕ) (p : PersistentState) (v : VolatileState) (from term : ℕ) (granted : Bool)
    → on_vote_reply me p v from term granted ≡ after_vote_reply me p v from term (vote_replied v.role p.term (members p) from term granted)
