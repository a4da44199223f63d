-- What comes after each rule, and so each step.
use Rattle.std.proofs.Common.{◌≡◌, ◌≢◌, ℕ, inl, inr, ⊎_elim, not, Bool, true, false, List, filter, refl, ap, sym, ◌∙◌, subst, true≢false, Contains}
use Rattle.std.proofs.lemmas.List.Elements.{All-contains, All-contains_itself, All-filter}
use Rattle.cp_log_rules.specs.Persistent.{PersistentState}
use Rattle.cp_rules.specs.declared.role.Role.{Role}
use Rattle.cp_rules.specs.declared.role.Role.TheVariants.{Leader}
use Rattle.cp_rules.specs.Persistent.{members, after_part}
use Rattle.cp_rules.specs.Volatile.{Look, Reads, VolatileState, no_reads}
use Rattle.cp_rules.specs.Local.{Body, PreVote, PreVoteReply, Vote, VoteReply, Append, AppendReply, Snapshot, SnapshotReply, Confirm, Confirmed, Event, Tick, Got, Propose, ChangeMembers, Read, LocalStep, is_leader}
use Rattle.cp_rules.specs.Confirming.{is_ready}
use Rattle.cp_rules.specs.Steps.{on_message, rule}
use Rattle.cp_rules_facts.proofs.Basics.{either}
use Rattle.cp_rules_rounds.specs.Confirming.{SaysTruly, LeadsOn, RoundsConfirmed, StepsConfirmRounds}
use Rattle.cp_rules_rounds.proofs.Quiet.{At, Says, Goes}
use Rattle.cp_rules_rounds.proofs.Messages.{prevote_rounds, prevote_reply_rounds, vote_rounds, vote_reply_rounds, append_reply_rounds, snapshot_reply_rounds}
use Rattle.cp_rules_rounds.proofs.Following.{append_rounds, chunk_rounds, confirm_rounds, confirmed_rounds}
use Rattle.cp_rules_rounds.proofs.Ticks.{propose_rounds, change_rounds, read_rounds, tick_rounds}

-- ---- each rule

message_rounds : (h : At) (from : ℕ) (body : Body) → Goes h (Got from body) (on_message h.me h.p h.v from body)
message_rounds h from (PreVote term candidate) = prevote_rounds h (Got from (PreVote term candidate)) from term candidate
message_rounds h from (PreVoteReply term granted) = prevote_reply_rounds h (Got from (PreVoteReply term granted)) from term granted
message_rounds h from (Vote term candidate) = vote_rounds h (Got from (Vote term candidate)) from term candidate
message_rounds h from (VoteReply term granted) = vote_reply_rounds h (Got from (VoteReply term granted)) from term granted
message_rounds h from (Append term previous previous_term commit entries) = append_rounds h (Got from (Append term previous previous_term commit entries)) from term previous previous_term commit entries
message_rounds h from (AppendReply term taken index) = append_reply_rounds h (Got from (AppendReply term taken index)) from term taken index
message_rounds h from (Snapshot term index offset is_last bytes) = chunk_rounds h (Got from (Snapshot term index offset is_last bytes)) from term index offset is_last bytes
message_rounds h from (SnapshotReply term index done received) = snapshot_reply_rounds h (Got from (SnapshotReply term index done received)) from term index done received
message_rounds h from (Confirm term round) = confirm_rounds h from term round
message_rounds h from (Confirmed term taken round) = confirmed_rounds h from term taken round

pub rule_rounds : (h : At) (event : Event) → Goes h event (rule h.me h.p h.v event)
rule_rounds h (Tick clock may_write expiry machine) = tick_rounds h clock may_write expiry machine
rule_rounds h (Got from body) = message_rounds h from body
rule_rounds h (Propose entry) = propose_rounds h (Propose entry) entry
rule_rounds h (ChangeMembers change plan call) = change_rounds h (ChangeMembers change plan call) change plan call
rule_rounds h (Read call attempt op) = read_rounds h call attempt op

-- ---- each step

-- what says nothing of a round of one that leads says so of any round
unled : (p : PersistentState) (event : Event) (q : PersistentState) (role : Role) (latest other : ℕ) (b : Body) → role ≢ Leader → SaysTruly p event q role latest b → SaysTruly p event q role other b
unled p event q role latest other (PreVote term candidate) ne s = tt
unled p event q role latest other (PreVoteReply term granted) ne s = tt
unled p event q role latest other (Vote term candidate) ne s = tt
unled p event q role latest other (VoteReply term granted) ne s = tt
unled p event q role latest other (Append term previous previous_term commit entries) ne s = tt
unled p event q role latest other (AppendReply term taken index) ne s = tt
unled p event q role latest other (Snapshot term index offset is_last bytes) ne s = tt
unled p event q role latest other (SnapshotReply term index done received) ne s = tt
unled p event q role latest other (Confirm term round) ne s = absurd (ne s.0)
unled p event q role latest other (Confirmed term true round) ne s = s
unled p event q role latest other (Confirmed term false round) ne s = tt

pub in_filter : {X : Type 0} (test : X → Bool) (xs : List X) (x : X) → Contains (filter test xs) x → Contains xs x
in_filter test xs x has = All-contains (Contains xs) (filter test xs) x (All-filter test (Contains xs) xs (All-contains_itself xs)) has

pub steps_confirm_rounds : StepsConfirmRounds
steps_confirm_rounds me p v event =
    let h : At = record { me = me; p = p; v = v } in
    let s = rule me p v event in
    let q = after_part s.part p in
    let t = (rule_rounds h event).1 in
    let ready = is_ready me (members q) s.state.reads s.state.commit in
    let left : Look → Bool = λ look. not (ready look) in
    let kept_reads : Reads = record s.state.reads { looks = filter left s.state.reads.looks } in
    let on : VolatileState = record s.state { reads = kept_reads } in
    let off : VolatileState = record s.state { reads = no_reads } in
    let up : LocalStep = record s { answered = filter ready s.state.reads.looks; state = on } in
    let down : LocalStep = record s { lost = v.reads.looks; state = off } in
    either (λ (z : LocalStep). RoundsConfirmed p v event (after_part z.part p) z.state z.sends) (is_leader s.state.role) up down
    (λ l. record {
      term = t.term;
      says = λ x has. All-contains (Says h event q s.state) s.sends x t.says has;
      leads = λ k. ⊎_elim
          (λ (x : LeadsOn p v event q s.state). inl (record { role = x.role; in_term = x.in_term; round = x.round; by_one = x.by_one; confirmed = x.confirmed; looks = λ look has. x.looks look (in_filter left s.state.reads.looks look has) }))
          (λ x. inr (x.0, emptied left s.state.reads x.1))
          (t.leads k);
      stands = t.stands;
    })
    (λ l. record {
      term = t.term;
      says = λ x has. unled p event q s.state.role s.state.reads.round 0 x.body (λ k. absurd (true≢false (sym (ap is_leader k) ∙ l))) (All-contains (Says h event q s.state) s.sends x t.says has);
      leads = λ k. absurd (true≢false (sym (ap is_leader k) ∙ l));
      stands = t.stands;
    })
  where
    emptied : (left : Look → Bool) (r : Reads) → r ≡ no_reads → (record r { looks = filter left r.looks }) ≡ no_reads
    emptied left r e = subst (λ (x : Reads). (record x { looks = filter left x.looks }) ≡ no_reads) (sym e) refl
