-- The rules do what is decided: each `if` one side after the other.
use Rattle.std.proofs.Common.{◌≡◌, ◌==◌, ◌&&◌, not, ℕ, suc, Bool, true, false, [], length, refl, Some, None, nat_lt, if◌then◌else◌, option_map}
use Rattle.cp_log_rules.specs.Persistent.{last}
use Rattle.cp_rules.specs.Persistent.{StatePart, ballot, log_end, members, is_member}
use Rattle.cp_rules.specs.Volatile.{VolatileState, silence}
use Rattle.cp_rules.specs.Local.{does, reply, PreVoteReply, is_candidate, is_pre_candidate}
use Rattle.cp_rules.specs.Terms.{adopted, adopts}
use Rattle.cp_rules.specs.Leadership.{takes_leadership}
use Rattle.cp_rules.specs.PreVotes.{may_stand, is_up_to_date, grants_prevote, stands, with_vote, counts_prevote}
use Rattle.cp_rules.specs.Votes.{grants_vote, counts_vote}
use Rattle.cp_election.specs.declared.replying.VoteReplied.TheVariants.{Adopted, Counted, Ignored}
use Rattle.cp_election.specs.declared.waiting.Stand.TheVariants.{Waits, Leads, Asks}
use Rattle.cp_election.specs.declared.voting.VoteAnswer.{VoteAnswer}
use Rattle.cp_election.specs.Laws.{stood, would, voted, after_prevote_reply, after_vote_reply, BallotsAreWritten, TicksStandAsDecided, PreVotesGoAsDecided, PreVoteRepliesGoAsDecided, VotesGoAsDecided, VoteRepliesGoAsDecided}

-- what is made of either side
pub of_if : {A B : Type 0} (f : A → B) (c : Bool) (a b : A) (x y : B) → x ≡ f a → y ≡ f b → (if c then x else y) ≡ f (if c then a else b)
of_if f true a b x y first second = first
of_if f false a b x y first second = second

pub ballots_are_written : BallotsAreWritten
ballots_are_written p b = of_if (option_map StatePart) ((p.term == b.term) && (p.vote == b.vote)) None (Some b) None (Some (StatePart b)) refl refl

pub ticks_stand_as_decided : TicksStandAsDecided
ticks_stand_as_decided me p v may_write =
    let stays = does None v [] in
    let leads = takes_leadership me p (record v { heard = v.clock }) (suc p.term) in
    let asks = stands me p v in
    let alone = length (members p) == 1 in
    of_if (stood me p v) (not (may_stand me (members p) p.term (last p) (silence v)))
    Waits (if alone then (if may_write then Leads else Waits) else Asks)
    stays (if alone then (if may_write then leads else stays) else asks)
    refl
    (of_if (stood me p v) alone (if may_write then Leads else Waits) Asks (if may_write then leads else stays) asks
    (of_if (stood me p v) may_write Leads Waits leads stays refl refl)
    refl)

-- a pre-vote's answer, whatever decides
would_if : (v : VolatileState) (from term own : ℕ) (c : Bool) → does None v (reply from (PreVoteReply (if c then term else own) c)) ≡ would v from (if c then record { term = term; granted = true } else record { term = own; granted = false })
would_if v from term own true = refl
would_if v from term own false = refl

pub pre_votes_go_as_decided : PreVotesGoAsDecided
pre_votes_go_as_decided p v from term candidate = would_if v from term p.term (grants_prevote p v term candidate)

pub pre_vote_replies_go_as_decided : PreVoteRepliesGoAsDecided
pre_vote_replies_go_as_decided me p v from term granted =
    let f = after_prevote_reply me p v from term in
    let counted = counts_prevote me p (with_vote from v) in
    let ignored = does None v [] in
    let counts = is_pre_candidate v.role && ((term == suc p.term) && is_member from (members p)) in
    of_if f (not granted)
    (if nat_lt p.term term then Adopted else Ignored) (if counts then Counted else Ignored)
    (if nat_lt p.term term then adopts term p v else ignored) (if counts then counted else ignored)
    (of_if f (nat_lt p.term term) Adopted Ignored (adopts term p v) ignored refl refl)
    (of_if f counts Counted Ignored counted ignored refl refl)

pub votes_go_as_decided : VotesGoAsDecided
votes_go_as_decided p v from term candidate =
    let now = adopted term (ballot p) in
    let mine : VoteAnswer = record { ballot = record { term = term; vote = from }; granted = true } in
    let none : VoteAnswer = record { ballot = now; granted = false } in
    of_if (voted p v from term) (grants_vote now from term (is_up_to_date candidate (log_end p))) mine none
    (voted p v from term mine) (voted p v from term none) refl refl

pub vote_replies_go_as_decided : VoteRepliesGoAsDecided
vote_replies_go_as_decided me p v from term granted =
    let f = after_vote_reply me p v from term in
    let counted = counts_vote me p (with_vote from v) in
    let ignored = does None v [] in
    let counts = granted && (is_candidate v.role && ((term == p.term) && is_member from (members p))) in
    of_if f (nat_lt p.term term) Adopted (if counts then Counted else Ignored) (adopts term p v) (if counts then counted else ignored)
    refl
    (of_if f counts Counted Ignored counted ignored refl refl)
