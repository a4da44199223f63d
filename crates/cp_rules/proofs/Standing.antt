-- Histories told step by step: what the first two members of a small group have after each act, and what was sent.
use Rattle.std.proofs.Common.{◌≡◌, ℕ, ◌-◌, List, ◌∷◌, ◌++◌, map, ap, ap₂, sym, ◌∙◌, subst, Some, slice_get}
use Rattle.cp_log_rules.specs.Persistent.{PersistentState}
use Rattle.cp_rules.specs.Persistent.{after_part}
use Rattle.cp_rules.specs.Volatile.{VolatileState}
use Rattle.cp_rules.specs.Local.{Body, Event, Got, Sent}
use Rattle.cp_rules.specs.Steps.{step}
use Rattle.cp_rules.specs.Worked.{Group, Mail, Act, At, Deliver, mail, with_event, with_delivery, with_act, group_after}

-- what a member has stored and keeps
pub record Told : Type 0 where
  pub stored : PersistentState
  pub state : VolatileState

pub record Stands (g : Group) (one two : Told) (sent : List Mail) : Type 0 where
  pub stored_one : (g.seats 1).stored ≡ one.stored
  pub state_one : (g.seats 1).state ≡ one.state
  pub stored_two : (g.seats 2).stored ≡ two.stored
  pub state_two : (g.seats 2).state ≡ two.state
  pub sent_is : g.sent ≡ sent

-- a step of a member, by what it leaves and sends
pub record Takes (me : ℕ) (before : Told) (event : Event) (after : Told) (mails : List Mail) : Type 0 where
  pub stored : after_part (step me before.stored before.state event).part before.stored ≡ after.stored
  pub state : (step me before.stored before.state event).state ≡ after.state
  pub sends : map (λ (s : Sent). mail me s.to s.body) (step me before.stored before.state event).sends ≡ mails

module _ (g : Group) (one two : Told) (sent : List Mail) (h : Stands g one two sent) where
  at_one : (event : Event) (next : Told) (mails : List Mail) → Takes 1 one event next mails → Stands (with_event g 1 event) next two (sent ++ mails)
  at_one event next mails t = record {
    stored_one = ap₂ (λ (p : PersistentState) (v : VolatileState). after_part (step 1 p v event).part p) h.stored_one h.state_one ∙ t.stored;
    state_one = ap₂ (λ (p : PersistentState) (v : VolatileState). (step 1 p v event).state) h.stored_one h.state_one ∙ t.state;
    stored_two = h.stored_two;
    state_two = h.state_two;
    sent_is = ap₂ (λ (l m : List Mail). l ++ m) h.sent_is (ap₂ (λ (p : PersistentState) (v : VolatileState). map (λ (s : Sent). mail 1 s.to s.body) (step 1 p v event).sends) h.stored_one h.state_one ∙ t.sends);
  }

  at_two : (event : Event) (next : Told) (mails : List Mail) → Takes 2 two event next mails → Stands (with_event g 2 event) one next (sent ++ mails)
  at_two event next mails t = record {
    stored_one = h.stored_one;
    state_one = h.state_one;
    stored_two = ap₂ (λ (p : PersistentState) (v : VolatileState). after_part (step 2 p v event).part p) h.stored_two h.state_two ∙ t.stored;
    state_two = ap₂ (λ (p : PersistentState) (v : VolatileState). (step 2 p v event).state) h.stored_two h.state_two ∙ t.state;
    sent_is = ap₂ (λ (l m : List Mail). l ++ m) h.sent_is (ap₂ (λ (p : PersistentState) (v : VolatileState). map (λ (s : Sent). mail 2 s.to s.body) (step 2 p v event).sends) h.stored_two h.state_two ∙ t.sends);
  }

  -- the delivery of a message that was sent
  delivered : (number from to : ℕ) (body : Body) → slice_get sent (number - 1) ≡ Some (mail from to body) → with_act g (Deliver number) ≡ with_event g to (Got from body)
  delivered number from to body there = ap (with_delivery g) (ap (λ (l : List Mail). slice_get l (number - 1)) h.sent_is ∙ there)

-- What is shown of the group in the end follows from how it stands after one act more.
module _ (P : Group → Type 0) (acts : List Act) (g : Group) (one two : Told) (sent : List Mail) (h : Stands g one two sent) where
  pub then_one : (event : Event) (next : Told) (mails : List Mail) → Takes 1 one event next mails → ((f : Group) → Stands f next two (sent ++ mails) → P (group_after f acts)) → P (group_after g (At 1 event ∷ acts))
  then_one event next mails t go = go (with_event g 1 event) (at_one g one two sent h event next mails t)

  pub then_deliver_one : (number from : ℕ) (body : Body) (next : Told) (mails : List Mail) → slice_get sent (number - 1) ≡ Some (mail from 1 body) → Takes 1 one (Got from body) next mails
      → ((f : Group) → Stands f next two (sent ++ mails) → P (group_after f acts)) → P (group_after g (Deliver number ∷ acts))
  then_deliver_one number from body next mails there t go =
      go (with_act g (Deliver number)) (subst (λ (f : Group). Stands f next two (sent ++ mails)) (sym (delivered g one two sent h number from 1 body there)) (at_one g one two sent h (Got from body) next mails t))

  pub then_deliver_two : (number from : ℕ) (body : Body) (next : Told) (mails : List Mail) → slice_get sent (number - 1) ≡ Some (mail from 2 body) → Takes 2 two (Got from body) next mails
      → ((f : Group) → Stands f one next (sent ++ mails) → P (group_after f acts)) → P (group_after g (Deliver number ∷ acts))
  then_deliver_two number from body next mails there t go =
      go (with_act g (Deliver number)) (subst (λ (f : Group). Stands f one next (sent ++ mails)) (sym (delivered g one two sent h number from 2 body there)) (at_two g one two sent h (Got from body) next mails t))
