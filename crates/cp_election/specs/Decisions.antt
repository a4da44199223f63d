-- What is decided of elections, on plain numbers.
use Rattle.std.specs.Prelude.{ℕ, suc, ◌==◌, Bool, true, false, not, ◌&&◌, if◌then◌else◌, List, length, Option, Some, None, nat_lt}
use Rattle.cp_rules.specs.declared.ballot.Ballot.{Ballot}
use Rattle.cp_rules.specs.declared.log_end.LogEnd.{LogEnd}
use Rattle.cp_rules.specs.declared.role.Role.{Role}
use Rattle.cp_rules.specs.Persistent.{is_member}
use Rattle.cp_rules.specs.Local.{is_candidate, is_pre_candidate}
use Rattle.cp_rules.specs.Terms.{adopted}
use Rattle.cp_rules.specs.PreVotes.{may_stand, is_up_to_date}
use Rattle.cp_rules.specs.Votes.{grants_vote}
use Rattle.cp_election.specs.declared.replying.VoteReplied.{VoteReplied}
use Rattle.cp_election.specs.declared.replying.VoteReplied.TheVariants.{Adopted, Counted, Ignored}
use Rattle.cp_election.specs.declared.waiting.Stand.{Stand}
use Rattle.cp_election.specs.declared.waiting.Stand.TheVariants.{Waits, Leads, Asks}
use Rattle.cp_election.specs.declared.voting.VoteAnswer.{VoteAnswer}
use Rattle.cp_election.specs.declared.voting.Would.{Would}

-- a ballot that is another than the one that stands
abbrev pub to_write : Ballot → Ballot → Option Ballot
to_write stands b = if (stands.term == b.term) && (stands.vote == b.vote) then None else Some b

abbrev pub standing : ℕ → List ℕ → ℕ → ℕ → ℕ → Bool → Stand
standing me members term last silence may_write =
    if not (may_stand me members term last silence) then Waits
    else if length members == 1 then (if may_write then Leads else Waits)
    else Asks

abbrev pub pre_vote : ℕ → LogEnd → Bool → ℕ → LogEnd → Would
pre_vote own_term own hears_no_leader term candidate =
    if nat_lt own_term term && (is_up_to_date candidate own && hears_no_leader)
    then record { term = term; granted = true }
    else record { term = own_term; granted = false }

abbrev pub pre_vote_replied : Role → ℕ → List ℕ → ℕ → ℕ → Bool → VoteReplied
pre_vote_replied role own_term members from term granted =
    if not granted then (if nat_lt own_term term then Adopted else Ignored)
    else if is_pre_candidate role && ((term == suc own_term) && is_member from members) then Counted
    else Ignored

-- a vote is given in the ballot that it leaves
abbrev pub vote : Ballot → LogEnd → ℕ → ℕ → LogEnd → VoteAnswer
vote b own from term candidate =
    if grants_vote (adopted term b) from term (is_up_to_date candidate own)
    then record { ballot = record { term = term; vote = from }; granted = true }
    else record { ballot = adopted term b; granted = false }

abbrev pub vote_replied : Role → ℕ → List ℕ → ℕ → ℕ → Bool → VoteReplied
vote_replied role own_term members from term granted =
    if nat_lt own_term term then Adopted
    else if granted && (is_candidate role && ((term == own_term) && is_member from members)) then Counted
    else Ignored
