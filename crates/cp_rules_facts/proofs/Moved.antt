-- The facts of a step hold whatever the other members are, and whatever else is sent, if it is true; and whether a crash cuts the step
-- off or not. Each record is made again.
use Rattle.std.proofs.Common.{ℕ, inl, inr, ⊎_elim, Bool, List, [], ◌∷◌, All}
use Rattle.std.proofs.lemmas.List.Elements.{All-nil, All-cons, All-head, All-tail}
use Rattle.cp_agreement_facts.specs.Clusters.{Message, Vote, Voted, Append, Appended, Snapshot, Done, Other, Cluster, Step}
use Rattle.cp_agreement_facts.specs.Facts.{ChangesAreSingle, EntriesCreated, GotAppend, FollowsAbove, FollowsBelow, TakesSnapshot, InstallsSnapshot, GivesVote, Acknowledges, Finishes, FollowerCommits}
use Rattle.cp_safety.specs.Tracking.{TrackedCluster, TrackedStep, TrackedFacts, untracked_cluster, uncut_step, WinsByVotes, WinsAlone, StaysCandidate, BecomesCandidate, LeaderCommitsByMatch, SendsTruly}

module _ (z : TrackedCluster) (s : TrackedStep) (sends : List Message) (cut : Bool) where
  -- the cluster in which each member is the actor, and the step that sends this
  abbrev pub alike : TrackedCluster
  alike = record { member = λ m. z.member s.actor; sent = z.sent }

  abbrev pub sending : TrackedStep
  sending = record s { sends = sends; cut = cut }

  abbrev before : Cluster
  before = untracked_cluster alike

  abbrev after : Cluster
  after = untracked_cluster z

  abbrev here : Step
  here = uncut_step s

  abbrev there : Step
  there = uncut_step sending

  single : (ms : List ℕ) → ChangesAreSingle before here ms → ChangesAreSingle after there ms
  single ms c = record { one_apart = c.one_apart; settled = c.settled; own = c.own }

  entries : EntriesCreated before here → EntriesCreated after there
  entries c = record { base = c.base; entry = c.entry; own = c.own; leading = c.leading; result = c.result; change = λ ms h. single ms (c.change ms h) }

  abbrev came : GotAppend before here → GotAppend after there
  came c = record { sender = c.sender; previous = c.previous; previous_term = c.previous_term; entries = c.entries; commit = c.commit; got = c.got }

  above : FollowsAbove before here → FollowsAbove after there
  above c = record { came = came c.came; base = c.base; skip = c.skip; previous_is = c.previous_is; has = c.has; change = c.change }

  below : FollowsBelow before here → FollowsBelow after there
  below c = record { came = came c.came; base = c.base; below = c.below; change = c.change }

  takes : TakesSnapshot before here → TakesSnapshot after there
  takes c = record { n = c.n; base = c.base; fits = c.fits; committed = c.committed; term = c.term; members = c.members; log = c.log }

  installs : InstallsSnapshot before here → InstallsSnapshot after there
  installs c = record { sender = c.sender; got = c.got; above = c.above; commit = c.commit; log = c.log }

  abbrev acknowledges : (index : ℕ) → Acknowledges before here index → Acknowledges after there index
  acknowledges index c = record { came = came c.came; index_is = c.index_is; has = c.has; all = c.all }

  finishes : (index : ℕ) → Finishes before here index → Finishes after there index
  finishes index c = record { sender = c.sender; index_term = c.index_term; members = c.members; got = c.got; done = ⊎_elim (λ x. inl (installs x.0, x.1)) (λ x. inr x) c.done }

  gives : (voter candidate term : ℕ) → GivesVote before here voter candidate term → GivesVote after there voter candidate term
  gives voter candidate term c = record {
    voter_is = c.voter_is;
    term_is = c.term_is;
    vote = c.vote;
    last_term = c.last_term;
    last_index = c.last_index;
    asked = c.asked;
    own_term = c.own_term;
    own_index = c.own_index;
    own = c.own;
    up_to_date = c.up_to_date;
  }

  truly : (m : Message) → SendsTruly alike s m → SendsTruly z sending m
  truly (Vote c t lt li) h = let x = h.1 in (h.0, record { candidate_is = x.candidate_is; term_is = x.term_is; vote = x.vote; ends = x.ends })
  truly (Voted v c t) h = gives v c t h
  truly (Append f t p pt es c) h = record { sender_is = h.sender_is; term_is = h.term_is; leading = h.leading; skip = h.skip; previous_is = h.previous_is; has = h.has; piece = h.piece; commit_is = h.commit_is }
  truly (Appended v to t j) h = (h.0, h.1, acknowledges j h.2)
  truly (Snapshot f t i it ms) h = record { sender_is = h.sender_is; term_is = h.term_is; leading = h.leading; index_is = h.index_is; index_term_is = h.index_term_is; members_is = h.members_is }
  truly (Done v to t j) h = (h.0, h.1, finishes j h.2)
  truly Other h = tt

  all_truly : (ms : List Message) → All (SendsTruly alike s) ms → All (SendsTruly z sending) ms
  all_truly [] all = All-nil (SendsTruly z sending)
  all_truly (m ∷ ms) all = All-cons (SendsTruly z sending) m ms (truly m (All-head (SendsTruly alike s) m ms all)) (all_truly ms (All-tail (SendsTruly alike s) m ms all))

  pub moved : TrackedFacts alike s → All (SendsTruly alike s) sends → TrackedFacts z sending
  moved f says = record {
    named = f.named;
    delivered = f.delivered;
    term = f.term;
    vote = f.vote;
    leads = f.leads;
    elected = λ h. ⊎_elim
        (λ x. inl x)
        (λ x. inr (⊎_elim
        (λ (y : WinsByVotes alike s). inl (record { role = y.role; term = y.term; vote = y.vote; quorum = y.quorum }))
        (λ (y : WinsAlone alike s). inr (record { term = y.term; vote = y.vote; quorum = y.quorum }))
        x))
        (f.elected h);
    candidate = λ h. ⊎_elim
        (λ (y : StaysCandidate alike s). inl (record { role = y.role; term = y.term; counted = y.counted }))
        (λ (y : BecomesCandidate alike s). inr (record { term = y.term; counted = y.counted }))
        (f.candidate h);
    apart = f.apart;
    log = ⊎_elim
        (λ x. inl (⊎_elim (λ y. inl y) (λ (y : TakesSnapshot before here). inr (takes y)) x))
        (λ x. inr (x.0, ⊎_elim (λ (y : EntriesCreated before here). inl (entries y)) (λ y. inr (⊎_elim (λ (y : FollowsAbove before here). inl (above y)) (λ y. inr (⊎_elim (λ (y : FollowsBelow before here). inl (below y)) (λ (y : InstallsSnapshot before here). inr (installs y)) y)) y)) x.1))
        f.log;
    sends = all_truly sends says;
    matched = f.matched;
    above_base = f.above_base;
    commit = ⊎_elim
        (λ x. inl x)
        (λ x. inr (⊎_elim
        (λ (y : LeaderCommitsByMatch alike s). inl (record { leads = y.leads; own = y.own; quorum = y.quorum }))
        (λ x. inr (⊎_elim
        (λ (y : FollowerCommits before here). inl (record { index = y.index; acknowledges = acknowledges y.index y.acknowledges; told = y.told; reached = y.reached }))
        (λ (y : InstallsSnapshot before here). inr (installs y))
        x))
        x))
        f.commit;
  }
