-- What a step leaves in a store, and that another may be taken.
use Rattle.std.proofs.Common.{◌≡◌, true, false, true≢false, not, ◌&&◌, List, [], ◌++◌, refl, sym, ap, subst, ◌∙◌, Option, Some, None, is_some, IfSome, IsSome, IsErrOf, Err, Result}
use Rattle.std.specs.Option.{option_map}
use Rattle.cp_base.specs.declared.identifier.GroupId.{GroupId}
use Rattle.cp_log.specs.Changes.{is_state}
use Rattle.cp_message.specs.declared.message.Message.{Message}
use Rattle.cp_parts.specs.declared.part.Part as journal
use Rattle.cp_log_rules.specs.Persistent.{PersistentState}
use Rattle.cp_log_rules.specs.Durable.{DurableState, group_at, group_in, or_nobody}
use Rattle.cp_rules.specs.Parts.{part_of}
use Rattle.cp_rules.specs.Persistent.{Part, after_part}
use Rattle.cp_rules.specs.Volatile.{VolatileState}
use Rattle.cp_rules.specs.Local.{Event, LocalStep, is_leader}
use Rattle.cp_rules.specs.Steps.{step}
use Rattle.cp_rules.proofs.PartLaws.{parts_change_their_group}
use Rattle.cp_rules_ranges.specs.Laws as ranges
use Rattle.cp_rules_ranges.specs.Laws.{MayStep}
use Rattle.cp_rules_ranges.proofs.Steps.{steps_go_on}
use Rattle.cp_rules_ranges.proofs.Laws.{parts_are_taken}
use Rattle.cp_raft_state.specs.declared.did.Did.{Did}
use Rattle.cp_raft_state.specs.declared.seat.Seat.{Seat}
use Rattle.cp_raft_state.specs.Messages.{messages_of}
use Rattle.cp_raft.specs.declared.event.RaftEvent.{RaftEvent}
use Rattle.cp_raft.specs.declared.out.RaftOut.{RaftOut}
use Rattle.cp_raft.specs.Deciding.{Decides}
use Rattle.cp_raft.specs.Events.{event_of}
use Rattle.cp_raft.specs.Outs.{IsTold, is_installed}
use Rattle.cp_raft.specs.Frugal.{NoneReady, is_voting}
use Rattle.cp_raft.specs.Offices.{takes_office}
use Rattle.cp_raft.specs.Rafts.{HasStored, MayGoOn}
use Rattle.cp_raft.specs.Writing as writing
use Rattle.cp_raft.specs.Writing.{IsTakenBy, after_step}
use Rattle.cp_raft.proofs.Ballots.{votes_write_a_ballot}
use Rattle.cp_raft.proofs.Voting.{none_ready_after}

-- what is written is taken
pub taken : (seat : Seat) (s : DurableState) (v : VolatileState) (event : Event) → HasStored s seat (group_in s seat.group.0) → MayStep seat.me (group_in s seat.group.0) v event → (x : journal.Part)
    → option_map (part_of seat.group) (step seat.me (group_in s seat.group.0) v event).part ≡ Some x → IsTakenBy s x
taken seat s v event has may x is = look (step seat.me (group_in s seat.group.0) v event).part refl is
  where
    look : (o : Option Part) → (step seat.me (group_in s seat.group.0) v event).part ≡ o → option_map (part_of seat.group) o ≡ Some x → IsTakenBy s x
    look None e is_ = absurd (cc)
    look (Some y) e is_ =
        let t = parts_are_taken seat.group s seat.me (group_in s seat.group.0) v event y has.group has.format has.stands may e in
        let same : part_of seat.group y ≡ x = cc in
        subst (IsTakenBy s) same (record { legal = t.legal; fits = t.fits; room = t.room })

-- of what was decided, for an event that may be none
pub decided_is_taken : (seat : Seat) (s : DurableState) (v : VolatileState) (o : Option Event) (p : PersistentState) (did : Did) (now : VolatileState) (before after : RaftOut)
    → p ≡ group_in s seat.group.0 → HasStored s seat (group_in s seat.group.0) → IsSome o → ((e : Event) → o ≡ Some e → MayStep seat.me (group_in s seat.group.0) v e)
    → IfSome o (λ e. Decides seat (step seat.me p v e) did now before after) → (x : journal.Part) → did.part ≡ Some x → IsTakenBy s x
decided_is_taken seat s v None p did now before after same has kind may d x is = absurd (true≢false (sym kind))
decided_is_taken seat s v (Some e) p did now before after same has kind may d x is =
    let here = subst (λ (q : PersistentState). Decides seat (step seat.me q v e) did now before after) same d in
    taken seat s v e has (may e refl) x (sym here.part ∙ is)

-- the same state of the store, by the part of the journal or of the step
pub same_after : (seat : Seat) (o : Option Part) (s : DurableState) → writing.after_part (option_map (part_of seat.group) o) s ≡ after_step seat o s
same_after seat None s = refl
same_after seat (Some x) s = refl

-- the group afterwards
pub stands_after : (seat : Seat) (o : Option Part) (s : DurableState) (p : PersistentState) → group_at s seat.group.0 ≡ Some p → group_at (after_step seat o s) seat.group.0 ≡ Some (after_part o p)
stands_after seat None s p is = is
stands_after seat (Some x) s p is = (parts_change_their_group seat.group x s).own p is

pub format_after : (seat : Seat) (o : Option Part) (s : DurableState) → (after_step seat o s).format ≡ s.format
format_after seat None s = refl
format_after seat (Some x) s = ap (λ (t : DurableState). t.format) (parts_change_their_group seat.group x s).whole

-- another step may be taken
pub goes_on : (seat : Seat) (s : DurableState) (v : VolatileState) (event : Event) → HasStored s seat (group_in s seat.group.0) → MayStep seat.me (group_in s seat.group.0) v event
    → MayGoOn (after_step seat (step seat.me (group_in s seat.group.0) v event).part s) seat (step seat.me (group_in s seat.group.0) v event).state
goes_on seat s v event has may =
    let p = group_in s seat.group.0 in
    let o = (step seat.me p v event).part in
    let stands = stands_after seat o s p has.stands in
    let same : group_in (after_step seat o s) seat.group.0 ≡ after_part o p = ap or_nobody stands in
    let next = steps_go_on.step seat.me p v event may in
    record {
      stored = record { group = has.group; format = format_after seat o s ∙ has.format; stands = stands ∙ ap (λ (q : PersistentState). Some q) (sym same) };
      may = subst (λ (q : PersistentState). ranges.MayGoOn seat.me q (step seat.me p v event).state) (sym same) next;
      settled = subst (λ (q : PersistentState). NoneReady seat.me q (step seat.me p v event).state) (sym same) (none_ready_after seat.me p v event);
    }

-- the same where the step was decided and its part written
pub decided_goes_on : (seat : Seat) (s t : DurableState) (v : VolatileState) (event : Event) (did : Did) (now : VolatileState) (before after : RaftOut)
    → HasStored s seat (group_in s seat.group.0) → MayStep seat.me (group_in s seat.group.0) v event
    → Decides seat (step seat.me (group_in s seat.group.0) v event) did now before after → t ≡ writing.after_part did.part s → MayGoOn t seat now
decided_goes_on seat s t v event did now before after has may d held =
    let x = (step seat.me (group_in s seat.group.0) v event).part in
    let same : t ≡ after_step seat x s = held ∙ ap (λ (o : Option journal.Part). writing.after_part o s) d.part ∙ same_after seat x s in
    subst (λ (n : VolatileState). MayGoOn t seat n) (sym d.state)
    (subst (λ (u : DurableState). MayGoOn u seat (step seat.me (group_in s seat.group.0) v event).state) (sym same) (goes_on seat s v event has may))

-- ---- what is told

wrote_so : (seat : Seat) (o : Option Part) → is_some (option_map (part_of seat.group) o) ≡ is_some o
wrote_so seat None = refl
wrote_so seat (Some x) = refl

-- What `tell` says of a step that was decided, which had no messages before, is what a step hands over.
pub record Tells (event : RaftEvent) (v : VolatileState) (did : Did) (now : VolatileState) (made after : RaftOut) : Type 0 where
  pub kept : (after.messages.items ≡ made.messages.items) × ((after.looks.items ≡ made.looks.items) × (after.lost.items ≡ made.lost.items))
  pub commit : after.commit ≡ now.commit
  pub stepped_down : after.stepped_down ≡ is_leader v.role && not (is_leader now.role)
  pub took_office : after.took_office ≡ not (is_leader v.role) && is_leader now.role
  pub installed : (e : Event) (x : Option Part) (group : GroupId) → event_of event ≡ Some e → did.part ≡ option_map (part_of group) x → after.installed ≡ is_installed e x
  pub wrote : after.wrote ≡ is_some did.part

pub told : (seat : Seat) (v : VolatileState) (event : RaftEvent) (e : Event) (s : LocalStep) (did : Did) (now : VolatileState) (before made after : RaftOut)
    → event_of event ≡ Some e → before.messages.items ≡ [] → Decides seat s did now before made → Tells event v did now made after → IsTold seat v e s after
told seat v event e s did now before made after is clear d t = record {
  messages = t.kept.0 ∙ d.sends ∙ ap (λ (ms : List Message). ms ++ messages_of seat s.sends) clear;
  commit = t.commit ∙ ap (λ (n : VolatileState). n.commit) d.state;
  stepped_down = t.stepped_down ∙ ap (λ (n : VolatileState). is_leader v.role && not (is_leader n.role)) d.state;
  took_office = t.took_office ∙ ap (λ (n : VolatileState). not (is_leader v.role) && is_leader n.role) d.state;
  installed = t.installed e s.part seat.group is d.part;
  wrote = t.wrote ∙ ap is_some d.part ∙ wrote_so seat s.part;
  looks = t.kept.1.0 ∙ d.answered;
  lost = t.kept.1.1 ∙ d.lost;
}

-- ---- steps on votes

-- what was decided writes a State at most
pub decided_a_ballot : (seat : Seat) (p : PersistentState) (v : VolatileState) (event : Event) (did : Did) (now : VolatileState) (before after : RaftOut)
    → is_voting event ≡ true → takes_office v (step seat.me p v event) ≡ false
    → Decides seat (step seat.me p v event) did now before after → IfSome did.part (λ x. is_state x ≡ true)
decided_a_ballot seat p v event did now before after voting none d =
    subst (λ (o : Option journal.Part). IfSome o (λ x. is_state x ≡ true)) (sym d.part) (votes_write_a_ballot seat.group seat.me p v event voting none)

-- the same cause, whatever a step would have answered
abbrev failed : {T E : Type 0} → E → Result T E
failed e = Err e

pub same_cause : {S T E : Type 0} (x y : E) → IsErrOf {T = S} (Err x) y → IsErrOf {T = T} (Err x) y
same_cause {S} {T} {E} x y is = let same : x ≡ y = cc in ap (failed {T = T}) same
