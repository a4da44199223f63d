-- A rule whose reads are settled is the step.
use Rattle.std.proofs.Common.{◌≡◌, ◌≤◌, ℕ, ⊎_elim, true, false, List, [], ◌++◌, filter, refl, sym, ap, ◌∙◌, Option, Some, None, true≢false}
use Rattle.std.specs.Prelude.{IfSome, IsSome}
use Rattle.std.specs.Option.{ForSome}
use Rattle.std.proofs.lemmas.Bool.{cases_Bool}
use Rattle.cp_message.specs.declared.message.Message.{Message}
use Rattle.cp_log_rules.specs.Persistent.{PersistentState, last}
use Rattle.cp_rules.specs.Limits.{most_index}
use Rattle.cp_rules.specs.Persistent.{members, after_part}
use Rattle.cp_rules.specs.Volatile.{VolatileState, no_reads}
use Rattle.cp_rules.specs.Local.{Event, LocalStep, is_leader}
use Rattle.cp_rules.specs.Steps.{rule, step}
use Rattle.cp_rules_ranges.specs.Laws.{MayStep}
use Rattle.cp_rules.specs.Confirming.{is_ready, settles}
use Rattle.cp_raft_state.specs.declared.did.Did.{Did}
use Rattle.cp_raft_state.specs.declared.seat.Seat.{Seat}
use Rattle.cp_raft_state.specs.Doing.{Does}
use Rattle.cp_raft_state.specs.Looking.{without_ready}
use Rattle.cp_raft_state.specs.Messages.{messages_of}
use Rattle.cp_raft.specs.declared.out.RaftOut.{RaftOut}
use Rattle.cp_raft.specs.Deciding.{Decides}
use Rattle.cp_raft.specs.Settling.{Settles, members_after}
use Rattle.cp_raft.proofs.Leaving.{Leaves, rule_left}

module _ (seat : Seat) (p : PersistentState) (v : VolatileState) (s : LocalStep) (did : Did) (between after : VolatileState) (first last : RaftOut) (middle : List Message)
    (does : Does seat s did between first.messages.items middle) (leaves : Leaves seat.group p v s) (settled : Settles seat.me (members_after p did.part) between after last) (kept : last.messages.items ≡ middle) where
  sends : last.messages.items ≡ first.messages.items ++ messages_of seat s.sends
  sends = kept ∙ does.sends

  leads : is_leader s.state.role ≡ true → Decides seat (settles seat.me p v s) did after first last
  leads l =
      let at : is_leader between.role ≡ true = ap (λ (z : VolatileState). is_leader z.role) does.state ∙ l in
      let who : members_after p did.part ≡ members (after_part s.part p) = ap (members_after p) does.part ∙ sym (leaves.told l) in
      let answered : last.looks.items ≡ filter (is_ready seat.me (members_after p did.part) between.reads between.commit) between.reads.looks = rw at at settled.answered in
      let lost : last.lost.items ≡ [] = rw at at settled.lost in
      let state : after ≡ without_ready seat.me (members_after p did.part) between = rw at at settled.state in
      let same_answered : filter (is_ready seat.me (members_after p did.part) between.reads between.commit) between.reads.looks ≡ filter (is_ready seat.me (members (after_part s.part p)) s.state.reads s.state.commit) s.state.reads.looks =
      ap (λ (ms : List ℕ). filter (is_ready seat.me ms between.reads between.commit) between.reads.looks) who
      ∙ ap (λ (z : VolatileState). filter (is_ready seat.me (members (after_part s.part p)) z.reads z.commit) z.reads.looks) does.state in
      let same_state : without_ready seat.me (members_after p did.part) between ≡ without_ready seat.me (members (after_part s.part p)) s.state =
      ap (λ (ms : List ℕ). without_ready seat.me ms between) who ∙ ap (without_ready seat.me (members (after_part s.part p))) does.state in
      rw l (record {
        part = does.part;
        outcome = does.outcome;
        state = state ∙ same_state;
        sends = sends;
        answered = answered ∙ same_answered;
        lost = lost ∙ sym does.lost;
      })

  follows : is_leader s.state.role ≡ false → Decides seat (settles seat.me p v s) did after first last
  follows l =
      let at : is_leader between.role ≡ false = ap (λ (z : VolatileState). is_leader z.role) does.state ∙ l in
      let answered : last.looks.items ≡ [] = rw at at settled.answered in
      let lost : last.lost.items ≡ between.reads.looks = rw at at settled.lost in
      let state : after ≡ record between { reads = no_reads } = rw at at settled.state in
      rw l (record {
        part = does.part;
        outcome = does.outcome;
        state = state ∙ ap (λ (z : VolatileState). record z { reads = no_reads }) does.state;
        sends = sends;
        answered = answered ∙ sym does.answered;
        lost = lost ∙ ap (λ (z : VolatileState). z.reads.looks) does.state ∙ leaves.looks l;
      })

  pub decides : Decides seat (settles seat.me p v s) did after first last
  decides = ⊎_elim leads follows (cases_Bool (is_leader s.state.role))

-- ---- whatever the event

pub decides_some : (seat : Seat) (p : PersistentState) (v : VolatileState) (o : Option Event) (did : Did) (between after : VolatileState) (first last : RaftOut) (middle : List Message)
    → ForSome o (λ e. MayStep seat.me p v e) → (is_leader v.role ≡ false → v.reads.looks ≡ []) → IfSome o (λ e. Does seat (rule seat.me p v e) did between first.messages.items middle)
    → Settles seat.me (members_after p did.part) between after last → last.messages.items ≡ middle → IfSome o (λ e. Decides seat (step seat.me p v e) did after first last)
decides_some seat p v None did between after first last middle may unread does settled kept = tt
decides_some seat p v (Some e) did between after first last middle may unread does settled kept =
    let m = may e refl in
    decides seat p v (rule seat.me p v e) did between after first last middle does (rule_left seat.group seat.me p v m.sound unread e m.fair) settled kept

-- who does not lead afterwards keeps no read
pub keeps_none : (me : ℕ) (ms : List ℕ) (between after : VolatileState) (out : RaftOut) → Settles me ms between after out → is_leader after.role ≡ false → after.reads.looks ≡ []
keeps_none me ms between after out s follows = ⊎_elim
    (λ (e : is_leader between.role ≡ true).
    let state : after ≡ without_ready me ms between = rw e at s.state in
    absurd (true≢false (sym e ∙ sym (ap (λ (z : VolatileState). is_leader z.role) state) ∙ follows)))
    (λ (e : is_leader between.role ≡ false).
    let state : after ≡ record between { reads = no_reads } = rw e at s.state in
    ap (λ (z : VolatileState). z.reads.looks) state)
    (cases_Bool (is_leader between.role))

pub room_of : (me : ℕ) (p : PersistentState) (v : VolatileState) (o : Option Event) → IsSome o → ForSome o (λ e. MayStep me p v e) → last p ≤ most_index
room_of me p v None kind may = absurd (true≢false (sym kind))
room_of me p v (Some e) kind may = (may e refl).range.stored.last_index
