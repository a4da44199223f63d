-- The invariant at each moment, and the laws of agreement on whole logs.
use Rattle.std.proofs.Common.{◌≡◌, ◌≢◌, ℕ, suc, ◌<◌, ◌≤◌, ◌⊎◌, inl, inr, ⊎_elim, true, List, [], ◌∷◌, ◌++◌, length, take, drop, refl, ap, sym, ◌∙◌, arith, subst, Contains, le_refl, true≢false, take-append-drop, take-take, lt_of_le_of_lt, le_of_lt}
use Rattle.std.proofs.lemmas.Bool.{cases_lt}
use Rattle.std.proofs.lemmas.List.{append_assoc, append-nil}
use Rattle.cp_parts.specs.declared.log_entry.LogEntry.{LogEntry}
use Rattle.std.proofs.lemmas.Option.{slice_get_within}
use Rattle.cp_agreement_facts.specs.Configurations.{IsQuorum, AreAdjacent, HasQuorum, configuration_after}
use Rattle.cp_agreement_facts.specs.Logs.{HasTerm, IsPrefixOf}
use Rattle.cp_agreement_facts.specs.Clusters.{Append, Appended, Message, Vote, Voted}
use Rattle.cp_agreement.specs.WholeLogs.{Cluster, Facts, IsMoment, Led, MeetsFacts, Member, Step, after_step, cluster_after, committed, opening}
use Rattle.cp_agreement.proofs.Logs.{share_at, Share, share_sym, share_trans, share_less, reach_at, share_length, share_take}
use Rattle.cp_agreement.proofs.Configurations.{QuietFrom, no_change}
use Rattle.cp_agreement.proofs.Ghost.{Ghost, Committed, Sound, Invariant, ghost_after, ghost_of, put_same, at_each}
use Rattle.cp_agreement.proofs.Complete.{complete, complete_won, sound_matches}
use Rattle.cp_agreement.proofs.Held.{held}
use Rattle.cp_agreement.proofs.Grows.{next, sound_grows, committed_grows, leader_stays}
use Rattle.cp_agreement.proofs.GhostSteps.{leader_in, won_held}

none_sent : (m : Message) → Contains {X = Message} [] m → ⊥
none_sent m c = omega (arith, c.1)

-- the invariant before the first step
start : (first : List ℕ) → Invariant first opening (ghost_of [])
start first = record {
  vote = λ m. refl;
  unvoted = λ m t less. refl;
  voted = λ v c t sent. absurd (none_sent (Voted v c t) sent);
  asked = λ c t lt li sent. absurd (none_sent (Vote c t lt li) sent);
  leading = λ m h. absurd (true≢false (sym h));
  own = λ m ne h. refl;
  held = λ t k e is. absurd (cc);
  reached = λ t h. absurd (h refl);
  won = λ t k less. absurd (omega arith);
  won_below = λ t k e is. absurd (cc);
  made = λ t. record { upto = λ k e is. absurd (cc); rooted = λ k e is. absurd (cc) };
  log = λ m. record { upto = λ k e is. absurd (cc); rooted = λ k e is. absurd (cc) };
  append = λ f t p pt es c sent. absurd (none_sent (Append f t p pt es c) sent);
  prepared = λ r x e after is own members. absurd (cc);
  acknowledged = λ v to t j sent. absurd (none_sent (Appended v to t j) sent);
  kept = λ v t k b. absurd (let h = b.there in cc);
  given = λ v c t t' k sent b less. absurd (none_sent (Voted v c t') sent);
  elected = λ t' h. absurd (h refl);
  commit = λ m. inl refl;
  told = λ f t p pt es c sent. absurd (none_sent (Append f t p pt es c) sent);
}

-- the invariant after each step
pub invariant : (first : List ℕ) (steps : List Step) → MeetsFacts first steps → Invariant first (cluster_after steps) (ghost_of steps)
invariant first [] meets = start first
invariant first (s ∷ before) meets = next first (cluster_after before) (ghost_of before) s (invariant first before meets.1) meets.0

-- what a member's state at some moment still says of the execution as it is now
record Stood (first : List ℕ) (w : Cluster) (g : Ghost) (m : ℕ) (x : Member) : Type 0 where
  leading : x.is_leader ≡ true → (m ≢ 0) × (g.leader x.term ≡ m)
  won : x.is_leader ≡ true → Share (length (g.won x.term)) (g.won x.term) x.log
  log : Sound g x.log x.term
  commit : (x.commit ≡ 0) ⊎ Committed first w g x.log x.commit x.term

-- each member's state says so of its own moment
stands : (first : List ℕ) (w : Cluster) (g : Ghost) → Invariant first w g → (m : ℕ) → Stood first w g m (w.member m)
stands first w g inv m = record {
  leading = inv.leading m;
  won = λ h. subst (Share (length (g.won (w.member m).term)) (g.won (w.member m).term)) (sym (inv.own m (inv.leading m h).0 (inv.leading m h).1)) (inv.won (w.member m).term);
  log = inv.log m;
  commit = inv.commit m;
}

-- and of each later one
still : (first : List ℕ) (w : Cluster) (g : Ghost) (s : Step) → Invariant first w g → Facts first w s → (m : ℕ) (x : Member) → Stood first w g m x → Stood first (after_step w s) (ghost_after w g s) m x
still first w g s inv facts m x h =
    let held : x.is_leader ≡ true → g.leader x.term ≢ 0 = λ o z. (h.leading o).0 (sym (h.leading o).1 ∙ z) in
    record {
      leading = λ o. ((h.leading o).0, leader_stays first w g s inv facts x.term (held o) ∙ (h.leading o).1);
      won = λ o. subst (λ l. Share (length l) l x.log) (sym (won_held w g s x.term (held o))) (h.won o);
      log = sound_grows first w g s inv facts x.log x.term x.term (le_refl x.term) h.log;
      commit = ⊎_elim inl (λ c. inr (committed_grows first w g s inv facts x.log x.log x.commit x.term x.term (le_refl x.term) (λ k. k.same) c)) h.commit;
    }

-- what a member's state at a moment says at the end
moment : (first : List ℕ) (steps : List Step) → MeetsFacts first steps → (v : Cluster) → IsMoment steps v → (m : ℕ) → Stood first (cluster_after steps) (ghost_of steps) m (v.member m)
moment first [] meets v at = λ m. subst (λ (u : Cluster). Stood first opening (ghost_of []) m (u.member m)) (sym at) (stands first opening (ghost_of []) (start first) m)
moment first (s ∷ before) meets v (inl e) = λ m. subst (λ (u : Cluster). Stood first (cluster_after (s ∷ before)) (ghost_of (s ∷ before)) m (u.member m)) (sym e) (stands first (cluster_after (s ∷ before)) (ghost_of (s ∷ before)) (invariant first (s ∷ before) meets) m)
moment first (s ∷ before) meets v (inr at) = λ m. still first (cluster_after before) (ghost_of before) s (invariant first before meets.1) meets.0 m (v.member m) (moment first before meets.1 v at m)

share_prefix : (a b : List LogEntry) (n : ℕ) → Share n a b → IsPrefixOf (take n a) b
share_prefix a b n both = (drop n b, ap (λ l. l ++ drop n b) (share_take a b n both) ∙ take-append-drop n b)

front_of : (a b : List LogEntry) (n m : ℕ) → n ≤ m → Share n a b → IsPrefixOf (take n a) (take m b)
front_of a b n m le both = (drop n (take m b), ap (λ l. l ++ drop n (take m b)) (share_take a b n both ∙ sym (take-take n m b le)) ∙ take-append-drop n (take m b))

-- What a member has committed stands in each log that goes on from the one with which a later term was won.
later : (first : List ℕ) (steps : List Step) → MeetsFacts first steps → (v : Cluster) → IsMoment steps v → (m : ℕ) (x : Member) → (ghost_of steps).leader x.term ≢ 0
    → Share (length ((ghost_of steps).won x.term)) ((ghost_of steps).won x.term) x.log → (v.member m).term < x.term → IsPrefixOf (committed (v.member m)) x.log
later first steps meets v at_v m x held won less =
    let g = ghost_of steps in
    let old = v.member m in
    ⊎_elim
    (λ e. (x.log, ap (λ k. take k old.log ++ x.log) e))
    (λ c.
    let there = complete_won first (cluster_after steps) g (invariant first steps meets) c.term c.place c.chosen x.term held (lt_of_le_of_lt c.upto less) in
    let a = share_less (g.made c.term) (g.won x.term) old.commit (suc c.place) c.covers there in
    share_prefix old.log x.log old.commit
    (share_trans old.log (g.made c.term) x.log old.commit c.same
    (share_trans (g.made c.term) (g.won x.term) x.log old.commit a
    (share_less (g.won x.term) x.log old.commit (length (g.won x.term)) (share_length (g.made c.term) (g.won x.term) old.commit a) won))))
    (moment first steps meets v at_v m).commit

module _ (first : List ℕ) (steps : List Step) (meets : MeetsFacts first steps) (v w : Cluster) (at_v : IsMoment steps v) (at_w : IsMoment steps w) (m n : ℕ) where
  -- No two members lead in one term.
  pub one_leader : (v.member m).is_leader ≡ true → (w.member n).is_leader ≡ true → (v.member m).term ≡ (w.member n).term → m ≡ n
  one_leader om on same =
      let hm = moment first steps meets v at_v m in let hn = moment first steps meets w at_w n in
      sym (hm.leading om).1 ∙ ap (ghost_of steps).leader same ∙ (hn.leading on).1

  -- Two logs that have the same term at an index are equal up to it.
  pub equal_prefixes : (i t : ℕ) → HasTerm (v.member m).log i t → HasTerm (w.member n).log i t → take i (v.member m).log ≡ take i (w.member n).log
  equal_prefixes i t hm hn =
      let lm = (moment first steps meets v at_v m).log in let ln = (moment first steps meets w at_w n).log in
      share_take (v.member m).log (w.member n).log i (reach_at (v.member m).log (w.member n).log i t (sound_matches (ghost_of steps) (v.member m).log (w.member n).log (v.member m).term (w.member n).term lm ln) hm hn)

  -- What a member has committed stands in the log of each leader of a later term.
  pub later_leaders : (w.member n).is_leader ≡ true → (v.member m).term < (w.member n).term → IsPrefixOf (committed (v.member m)) (w.member n).log
  later_leaders leading less =
      let hn = moment first steps meets w at_w n in
      later first steps meets v at_v m (w.member n) (λ z. (hn.leading leading).0 (sym (hn.leading leading).1 ∙ z)) (hn.won leading) less

-- Of two committed lists, the one committed in the lower term is a front of the other or the other way round.
ordered : (first : List ℕ) (w : Cluster) (g : Ghost) → Invariant first w g → (a b : List LogEntry) (n m u u' : ℕ) (x : Committed first w g a n u) (y : Committed first w g b m u') → x.term ≤ y.term → IsPrefixOf (take n a) (take m b) ⊎ IsPrefixOf (take m b) (take n a)
ordered first w g inv a b n m u u' x y le =
    let later = complete first w g inv x.term x.place x.chosen y.term (inv.held y.term y.place y.chosen.entry y.chosen.there) le in
    let left : Share n a (g.made y.term) = share_trans a (g.made x.term) (g.made y.term) n x.same (share_less (g.made x.term) (g.made y.term) n (suc x.place) x.covers later) in
    let right : Share m (g.made y.term) b = share_sym b (g.made y.term) m y.same in
    ⊎_elim
    (λ (h : n < m). inl (front_of a b n m (le_of_lt h) (share_trans a (g.made y.term) b n left (share_less (g.made y.term) b n m (le_of_lt h) right))))
    (λ (h : m ≤ n). inr (front_of b a m n h (share_sym a b m (share_trans a (g.made y.term) b m (share_less a (g.made y.term) m n h left) right))))
    (cases_lt n m)

module _ (first : List ℕ) (steps : List Step) (meets : MeetsFacts first steps) (v w : Cluster) (at_v : IsMoment steps v) (at_w : IsMoment steps w) (m n : ℕ) where
  -- Of two committed lists one is a prefix of the other.
  pub committed_prefixes : IsPrefixOf (committed (v.member m)) (committed (w.member n)) ⊎ IsPrefixOf (committed (w.member n)) (committed (v.member m))
  committed_prefixes =
      let inv = invariant first steps meets in
      ⊎_elim
      (λ (e : (v.member m).commit ≡ 0). inl (committed (w.member n), ap (λ k. take k (v.member m).log ++ committed (w.member n)) e))
      (λ (x : Committed first (cluster_after steps) (ghost_of steps) (v.member m).log (v.member m).commit (v.member m).term). ⊎_elim
      (λ (e : (w.member n).commit ≡ 0). inr (committed (v.member m), ap (λ k. take k (w.member n).log ++ committed (v.member m)) e))
      (λ (y : Committed first (cluster_after steps) (ghost_of steps) (w.member n).log (w.member n).commit (w.member n).term). ⊎_elim
      (λ (h : x.term < y.term). ordered first (cluster_after steps) (ghost_of steps) inv (v.member m).log (w.member n).log (v.member m).commit (w.member n).commit (v.member m).term (w.member n).term x y (le_of_lt h))
      (λ (h : y.term ≤ x.term). ⊎_elim inr inl (ordered first (cluster_after steps) (ghost_of steps) inv (w.member n).log (v.member m).log (w.member n).commit (v.member m).commit (w.member n).term (v.member m).term y x h))
      (cases_lt x.term y.term))
      (moment first steps meets w at_w n).commit)
      (moment first steps meets v at_v m).commit

module _ (first : List ℕ) (steps : List Step) (meets : MeetsFacts first steps) (v : Cluster) (at_v : IsMoment steps v) (m i : ℕ) where
  -- Each committed entry is held at the end by a quorum of the configuration in force for it, or of an adjacent one.
  pub held_at_end : i < (v.member m).commit → (members : List ℕ) × AreAdjacent (configuration_after first (take (suc i) (v.member m).log)) members × HasQuorum members (λ n. take (suc i) ((cluster_after steps).member n).log ≡ take (suc i) (v.member m).log)
  held_at_end less = ⊎_elim
      (λ (e : (v.member m).commit ≡ 0). absurd (omega (arith, e, less)))
      (λ (x : Committed first (cluster_after steps) (ghost_of steps) (v.member m).log (v.member m).commit (v.member m).term).
      let h = held first (cluster_after steps) (ghost_of steps) (invariant first steps meets) x.term x.place x.chosen i (let z = x.covers in omega (arith, z, less)) in
      let mine : take (suc i) (v.member m).log ≡ take (suc i) ((ghost_of steps).made x.term) = share_take (v.member m).log ((ghost_of steps).made x.term) (suc i) (share_less (v.member m).log ((ghost_of steps).made x.term) (suc i) (v.member m).commit less x.same) in (
        h.members,
        subst (λ l. AreAdjacent (configuration_after first l) h.members) (sym mine) h.near,
        (h.by.0, h.by.1, λ n chosen. share_take ((cluster_after steps).member n).log ((ghost_of steps).made x.term) (suc i) (h.by.2 n chosen) ∙ sym mine),
      ))
      (moment first steps meets v at_v m).commit

-- One history.

-- Prefixes of prefixes are prefixes.
prefix_trans : (a b c : List LogEntry) → IsPrefixOf a b → IsPrefixOf b c → IsPrefixOf a c
prefix_trans a b c (p, e) (q, f) = (p ++ q, sym (append_assoc a p q) ∙ ap (λ l. l ++ q) e ∙ f)

prefix_refl : (a : List LogEntry) → IsPrefixOf a a
prefix_refl a = ([], append-nil a)

last_moment : (steps : List Step) → IsMoment steps (cluster_after steps)
last_moment [] = refl
last_moment (s ∷ before) = inl refl

-- A committed list of some member at some moment has all others as prefixes.
record Longest (first : List ℕ) (steps : List Step) : Type 0 where
  at : Cluster
  is_moment : IsMoment steps at
  of : ℕ
  all : (v : Cluster) → IsMoment steps v → (m : ℕ) → IsPrefixOf (committed (v.member m)) (committed (at.member of))

-- A list has all committed lists as prefixes after a step if it had them before and has the actor's.
all_after : (s : Step) (before : List Step) (history : List LogEntry) → IsPrefixOf (committed s.after) history
    → ((v : Cluster) → IsMoment before v → (m : ℕ) → IsPrefixOf (committed (v.member m)) history)
    → (v : Cluster) → IsMoment (s ∷ before) v → (m : ℕ) → IsPrefixOf (committed (v.member m)) history
all_after s before history own old v (inr at) = λ m. old v at m
all_after s before history own old v (inl e) = λ m. subst (λ (x : Cluster). IsPrefixOf (committed (x.member m)) history) (sym e)
    (at_each (λ n x. IsPrefixOf (committed x) history) (cluster_after before) s own (λ n ne. old (cluster_after before) (last_moment before) n) m)

-- By induction on the steps: the longer of the one before and the actor's.
longest : (first : List ℕ) (steps : List Step) → MeetsFacts first steps → Longest first steps
longest first [] meets = record {
  at = opening;
  is_moment = refl;
  of = 0;
  all = λ v at m. subst (λ (x : Cluster). IsPrefixOf (committed (x.member m)) []) (sym at) ([], refl);
}
longest first (s ∷ before) meets =
    let h = longest first before meets.1 in
    let now = cluster_after (s ∷ before) in
    let own : now.member s.actor ≡ s.after = put_same (cluster_after before).member s.actor s.after s.actor refl in
    ⊎_elim
    (λ (up : IsPrefixOf (committed (h.at.member h.of)) (committed (now.member s.actor))). record {
      at = now;
      is_moment = inl refl;
      of = s.actor;
      all = all_after s before (committed (now.member s.actor)) (subst (λ x. IsPrefixOf (committed x) (committed (now.member s.actor))) own (prefix_refl (committed (now.member s.actor))))
          (λ v at m. prefix_trans (committed (v.member m)) (committed (h.at.member h.of)) (committed (now.member s.actor)) (h.all v at m) up);
    })
    (λ (down : IsPrefixOf (committed (now.member s.actor)) (committed (h.at.member h.of))). record {
      at = h.at;
      is_moment = inr h.is_moment;
      of = h.of;
      all = all_after s before (committed (h.at.member h.of)) (subst (λ x. IsPrefixOf (committed x) (committed (h.at.member h.of))) own down) h.all;
    })
    (committed_prefixes first (s ∷ before) meets h.at now (inr h.is_moment) (inl refl) h.of s.actor)

-- No commit lies past its log.
commit_within : (first : List ℕ) (steps : List Step) → MeetsFacts first steps → (v : Cluster) → IsMoment steps v → (m : ℕ) → (v.member m).commit ≤ length (v.member m).log
commit_within first steps meets v at m =
    let x = v.member m in
    let g = ghost_of steps in
    ⊎_elim
    (λ (e : x.commit ≡ 0). omega (arith, e))
    (λ (c : Committed first (cluster_after steps) g x.log x.commit x.term). share_length (g.made c.term) x.log x.commit (share_sym x.log (g.made c.term) x.commit c.same))
    (moment first steps meets v at m).commit

-- There is one list of which each committed list is a prefix.
pub one_history : (first : List ℕ) (steps : List Step) → MeetsFacts first steps
    → (history : List LogEntry) × ((v : Cluster) → IsMoment steps v → (m : ℕ) → IsPrefixOf (committed (v.member m)) history × ((v.member m).commit ≤ length (v.member m).log))
one_history first steps meets = let h = longest first steps meets in (committed (h.at.member h.of), λ v at m. (h.all v at m, commit_within first steps meets v at m))

-- Where no leader's log has a members entry, each committed entry is held at the end by a quorum of the first members.
pub held_by_first : (first : List ℕ) (steps : List Step) → MeetsFacts first steps → ((t : ℕ) → QuietFrom ((ghost_of steps).made t) 0) → (v : Cluster) → IsMoment steps v → (m i : ℕ) → i < (v.member m).commit
    → HasQuorum first (λ n. take (suc i) ((cluster_after steps).member n).log ≡ take (suc i) (v.member m).log)
held_by_first first steps meets quiet v at m i less =
    let g = ghost_of steps in
    let x = v.member m in
    ⊎_elim
    (λ (e : x.commit ≡ 0). absurd (omega (arith, e, less)))
    (λ (c : Committed first (cluster_after steps) g x.log x.commit x.term).
    let h = held first (cluster_after steps) g (invariant first steps meets) c.term c.place c.chosen i (let z = c.covers in omega (arith, z, less)) in
    let mine : take (suc i) x.log ≡ take (suc i) (g.made c.term) = share_take x.log (g.made c.term) (suc i) (share_less x.log (g.made c.term) (suc i) x.commit less c.same) in
    let fixed : h.members ≡ first = h.members_are ∙ no_change first h.till (λ k e le is. quiet h.term k e (omega arith) (share_at h.till (g.made h.term) (length h.till) k e h.front (slice_get_within h.till k e is) is)) in (
      h.by.0,
      subst (λ members. IsQuorum members h.by.0) fixed h.by.1,
      λ n chosen. share_take ((cluster_after steps).member n).log (g.made c.term) (suc i) (h.by.2 n chosen) ∙ sym mine,
    ))
    (moment first steps meets v at m).commit

-- ---- members that led in a step

-- What the state in which a leader was left says of the execution as it is now.
record WasLeft (g : Ghost) (m : ℕ) (x : Member) : Type 0 where
  leading : (m ≢ 0) × (g.leader x.term ≡ m)
  won : Share (length (g.won x.term)) (g.won x.term) x.log

left_now : (first : List ℕ) (s : Step) (before : List Step) → MeetsFacts first (s ∷ before) → s.leads ≡ true → WasLeft (ghost_of (s ∷ before)) s.actor s.after
left_now first s before meets leads =
    let g = ghost_of (s ∷ before) in
    let inv = invariant first (s ∷ before) meets in
    let here = put_same (cluster_after before).member s.actor s.after s.actor refl in
    let led : g.leader s.after.term ≡ s.actor = leader_in (cluster_after before) (ghost_of before) s s.after.term leads refl in
    let own : s.after.log ≡ g.made s.after.term = subst (λ (x : Member). g.leader x.term ≡ s.actor → x.log ≡ g.made x.term) here (inv.own s.actor meets.0.named) led in
    record { leading = (meets.0.named, led); won = subst (Share (length (g.won s.after.term)) (g.won s.after.term)) (sym own) (inv.won s.after.term) }

left_once : (first : List ℕ) (steps : List Step) → MeetsFacts first steps → (m : ℕ) (x : Member) → Led steps m x → WasLeft (ghost_of steps) m x
left_once first [] meets m x led = absurd led
left_once first (s ∷ before) meets m x (inl (actor, leads, after)) =
    subst (λ k. WasLeft (ghost_of (s ∷ before)) k x) actor (subst (λ (y : Member). WasLeft (ghost_of (s ∷ before)) s.actor y) after (left_now first s before meets leads))
left_once first (s ∷ before) meets m x (inr led) =
    let w = cluster_after before in
    let g = ghost_of before in
    let h = left_once first before meets.1 m x led in
    let held : g.leader x.term ≢ 0 = λ z. h.leading.0 (sym h.leading.1 ∙ z) in
    record {
      leading = (h.leading.0, leader_stays first w g s (invariant first before meets.1) meets.0 x.term held ∙ h.leading.1);
      won = subst (λ l. Share (length l) l x.log) (sym (won_held w g s x.term held)) h.won;
    }

-- No two members lead in one term, also where a step is cut off or the leader steps down in it.
pub one_led : (first : List ℕ) (steps : List Step) → MeetsFacts first steps → (m n : ℕ) (x y : Member) → Led steps m x → Led steps n y → x.term ≡ y.term → m ≡ n
one_led first steps meets m n x y led_m led_n same =
    sym (left_once first steps meets m x led_m).leading.1 ∙ ap (ghost_of steps).leader same ∙ (left_once first steps meets n y led_n).leading.1

-- And what a member has committed each of a later term has.
pub later_led : (first : List ℕ) (steps : List Step) → MeetsFacts first steps → (v : Cluster) → IsMoment steps v → (m n : ℕ) (x : Member) → Led steps n x
    → (v.member m).term < x.term → IsPrefixOf (committed (v.member m)) x.log
later_led first steps meets v at_v m n x led less =
    let h = left_once first steps meets n x led in
    later first steps meets v at_v m x (λ z. h.leading.0 (sym h.leading.1 ∙ z)) h.won less
