-- An execution of local steps, by induction.
use Rattle.std.proofs.Common.{◌≡◌, ◌≢◌, ℕ, inl, ⊎_elim, Bool, true, false, List, [], ◌∷◌, map, refl, ap, sym, ◌∙◌, arith, subst, Option, Some, None, Contains, le_refl, if◌then◌else◌}
use mathlib.Core.Path.{fun_ext}
use Rattle.std.proofs.lemmas.Bool.{cases_eq, cases_Bool}
use Rattle.std.proofs.lemmas.Option.{same_Some}
use Rattle.std.proofs.lemmas.List.Elements.{Contains-append_left, Contains-append_right, Contains-append_cases}
use Rattle.cp_agreement_facts.specs.Clusters.{Member, Step, put, cluster_after, IsMoment}
use Rattle.cp_agreement.proofs.Ghost.{put_same, put_other}
use Rattle.cp_safety.specs.Tracking as tracking
use Rattle.cp_safety.specs.Tracking.{untracked}
use Rattle.cp_safety.specs.Chunks.{ChunkedMember, ChunkedCluster, ChunkedStep, Wire, chunked_restart, chunked_after, MembersThrough}
use Rattle.cp_safety.proofs.Lists.{contains_map, contains_unmap}
use Rattle.cp_safety.proofs.Chunks.{chunked_executions}
use Rattle.cp_safety.proofs.Laws.{one_office}
use Rattle.cp_parts.specs.declared.config.Config.{Config}
use Rattle.cp_log_rules.specs.Persistent.{PersistentState}
use Rattle.cp_rules.specs.Volatile.{VolatileState, new_peer, started}
use Rattle.cp_rules.specs.Local.{Event, Tick, Got, Propose, ChangeMembers, Read}
use Rattle.cp_rules_facts.specs.Seen.{seen_role, chunked_member, wire, sent_wire, came_by, reader}
use Rattle.cp_rules_facts.specs.Soundness.{IsSound}
use Rattle.cp_rules_facts.specs.Executions.{Local, Mail, LocalCluster, Act, mail, did, stored_after, left_by, opening, after_act, local_after, IsAllowed, IsExecution, seen_act, seen_acts, LocalExecution, LocalExecutions, Agrees, OneLeader}
use Rattle.cp_rules_facts.proofs.Basics.{same_everywhere}
use Rattle.cp_rules_facts.proofs.Laws.{stays_sound, steps_meet_facts}

-- a start finds what a crash leaves
pub start_is : (p : PersistentState) (v : VolatileState) (clock : ℕ) → chunked_member p (started p.base clock) ≡ chunked_restart (chunked_member p v)
start_is p v clock = λ i. record {
  tracked = record {
    term = p.term;
    vote = p.vote;
    base = p.base;
    base_term = p.base_term;
    base_members = p.base_config.members;
    log = p.log;
    commit = p.base;
    role = tracking.Follower;
    counted = fun_ext (same_everywhere (λ x. x ≡ false) false false refl refl) i;
    matched = fun_ext (same_everywhere (λ x. x.matched ≡ 0) (new_peer 1) (new_peer 1) refl refl) i;
  };
  snapshot = p.snapshot;
  received = None;
}

abbrev as_seen : Local → ChunkedMember
as_seen l = chunked_member l.stored l.state

-- the wire of a message that was sent
abbrev wired : Mail → Wire
wired m = wire m.from m.to m.body

-- what an execution shows beside
record Shown (first : Config) (acts : List Act) : Type 0 where
  execution : LocalExecution first acts
  sent : (m : Mail) → Contains (local_after first acts).sent m → Contains (chunked_after first.members (seen_acts first acts)).sent (wired m)

module _ (first : Config) (a : Act) (before : List Act) (old : Shown first before) (ok : IsAllowed (local_after first before) a) where
  abbrev w : LocalCluster
  w = local_after first before

  abbrev seen : ChunkedCluster
  seen = chunked_after first.members (seen_acts first before)

  sound_before : IsSound a.actor (w.member a.actor).stored (w.member a.actor).state
  sound_before = old.execution.sound a.actor ok.named

  delivered : (event : Option Event) → a.event ≡ event → (x : Wire) → came_by a.actor event ≡ Some x → Contains seen.sent x
  delivered None is x e = absurd (cc)
  delivered (Some (Tick clock may_write expiry machine)) is x e = absurd (cc)
  delivered (Some (Got from body)) is x e = subst (Contains seen.sent) (same_Some (wire from a.actor body) x e) (old.sent (record { from = from; to = a.actor; body = body }) (ok.delivered from body is))
  delivered (Some (Propose entry)) is x e = absurd (cc)
  delivered (Some (ChangeMembers change plan call)) is x e = absurd (cc)
  delivered (Some (Read call attempt op)) is x e = absurd (cc)

  -- what agreement sees the actor leave
  left_is : as_seen (left_by w a) ≡ (if a.cut then chunked_restart (seen_act w a).after else (seen_act w a).after)
  left_is = ⊎_elim
      (λ (e : a.cut ≡ true). rw e (start_is (stored_after w a) (did w a).state a.clock))
      (λ (e : a.cut ≡ false). rw e refl)
      (cases_Bool a.cut)

  same_after : (m : ℕ) → put seen.member a.actor (if a.cut then chunked_restart (seen_act w a).after else (seen_act w a).after) m ≡ as_seen (put w.member a.actor (left_by w a) m)
  same_after m = ⊎_elim
      (λ (e : m ≡ a.actor). put_same seen.member a.actor (if a.cut then chunked_restart (seen_act w a).after else (seen_act w a).after) m e ∙ sym left_is ∙ ap as_seen (sym (put_same w.member a.actor (left_by w a) m e)))
      (λ (ne : m ≡ a.actor → ⊥). put_other seen.member a.actor (if a.cut then chunked_restart (seen_act w a).after else (seen_act w a).after) m ne ∙ old.execution.same m ∙ ap as_seen (sym (put_other w.member a.actor (left_by w a) m ne)))
      (cases_eq m a.actor)

  stepped : (event : Option Event) → a.event ≡ event → IsSound a.actor (stored_after w (record a { event = event })) (did w (record a { event = event })).state
  stepped None is = sound_before
  stepped (Some e) is = stays_sound.step a.actor (w.member a.actor).stored (w.member a.actor).state e sound_before (ok.fair e is)

  sound_left : IsSound a.actor (left_by w a).stored (left_by w a).state
  sound_left = ⊎_elim
      (λ (e : a.cut ≡ true). rw e (stays_sound.start a.actor a.clock (stored_after w a) (did w a).state (stepped a.event refl)))
      (λ (e : a.cut ≡ false). rw e (stepped a.event refl))
      (cases_Bool a.cut)

  sound_after : (m : ℕ) → m ≢ 0 → IsSound m (put w.member a.actor (left_by w a) m).stored (put w.member a.actor (left_by w a) m).state
  sound_after m named = ⊎_elim
      (λ (e : m ≡ a.actor). subst (λ (l : Local). IsSound m l.stored l.state) (sym (put_same w.member a.actor (left_by w a) m e)) (subst (λ n. IsSound n (left_by w a).stored (left_by w a).state) (sym e) sound_left))
      (λ (ne : m ≡ a.actor → ⊥). subst (λ (l : Local). IsSound m l.stored l.state) (sym (put_other w.member a.actor (left_by w a) m ne)) (old.execution.sound m named))
      (cases_eq m a.actor)

  sent_after : (m : Mail) → Contains (after_act w a).sent m → Contains (chunked_after first.members (seen_acts first (a ∷ before))).sent (wired m)
  sent_after m h = ⊎_elim
      (λ x. Contains-append_left seen.sent (if a.cut then [] else (seen_act w a).sends) (wired m) (old.sent m x))
      (λ x. Contains-append_right seen.sent (if a.cut then [] else (seen_act w a).sends) (wired m) (new a.cut x))
      (Contains-append_cases w.sent (if a.cut then [] else map (mail a.actor) (did w a).sends) m h)
    where
      new : (cut : Bool) → Contains (if cut then [] else map (mail a.actor) (did w a).sends) m → Contains (if cut then [] else (seen_act w a).sends) (wired m)
      new true (k, less, e) = absurd (omega (arith, less))
      new false x =
          let y = contains_unmap (mail a.actor) (did w a).sends m x in
          subst (λ z. Contains (seen_act w a).sends (wired z)) y.2 (contains_map (sent_wire a.actor) (did w a).sends y.0 y.1)

  next : Shown first (a ∷ before)
  next = record {
    execution = record {
      meets = (steps_meet_facts seen a.actor (w.member a.actor).stored (w.member a.actor).state a.event a.cut (old.execution.same a.actor) sound_before ok.fair (delivered a.event refl), old.execution.meets);
      same = same_after;
      sound = sound_after;
    };
    sent = sent_after;
  }

shown : (first : Config) (acts : List Act) → IsExecution first acts → Shown first acts
shown first [] is = record {
  execution = record {
    meets = tt;
    same = λ m. sym (start_is ((opening first).member m).stored (started 0 0) 0);
    sound = λ m named. record {
      named = named;
      above_base = le_refl 0;
      within = omega arith;
      no_base = λ h. refl;
      voted = λ h. absurd (cc);
      campaigns = λ h. absurd (cc);
      leads = λ h. absurd (cc);
      peers = λ h. absurd (cc);
    };
  };
  sent = λ m h. absurd (let x = h.1 in omega (arith, x));
}
shown first (a ∷ before) is = next first a before (shown first before is.1) is.0

pub local_executions : LocalExecutions
local_executions first acts is = (shown first acts is).execution

-- ---- the laws of agreement

latest : (first : List ℕ) (acts : List ChunkedStep) (steps : List Step) → MembersThrough first acts steps → (m : ℕ) → (cluster_after first steps).member m ≡ untracked ((chunked_after first acts).member m).tracked
latest first [] steps through m = rw through refl
latest first (s ∷ acts) steps through m = through.3 m

pub agrees : Agrees
agrees first acts is =
    let x = local_executions first acts is in
    let y = chunked_executions reader first.members (seen_acts first acts) x.meets in
    (y.0, y.1, λ m. latest first.members (seen_acts first acts) y.0 y.2 m ∙ ap (λ (l : ChunkedMember). untracked l.tracked) (x.same m))

now_moment : (first : List ℕ) (steps : List Step) → IsMoment first steps (cluster_after first steps)
now_moment first [] = refl
now_moment first (s ∷ steps) = inl refl

pub one_leader : OneLeader
one_leader first acts is m n lead_m lead_n same =
    let x = agrees first acts is in
    let now = now_moment first.members x.0 in
    one_office first.members x.0 x.1 (cluster_after first.members x.0) (cluster_after first.members x.0) now now m n
    (ap (λ (y : Member). y.is_leader) (x.2 m) ∙ ap (λ r. tracking.leads_by_role (seen_role r)) lead_m)
    (ap (λ (y : Member). y.is_leader) (x.2 n) ∙ ap (λ r. tracking.leads_by_role (seen_role r)) lead_n)
    (ap (λ (y : Member). y.term) (x.2 m) ∙ same ∙ sym (ap (λ (y : Member). y.term) (x.2 n)))
