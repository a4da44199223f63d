-- The history that agreement gives, cut to the greatest commit that a member ever had.
use Rattle.std.proofs.Common.{◌≡◌, ℕ, zero, suc, ◌+◌, ◌-◌, ◌<◌, ◌≤◌, ◌⊎◌, inl, inr, ⊎_elim, max, List, [], ◌∷◌, length, take, drop, refl, ap, sym, ◌∙◌, subst, arith, Some, slice_get, length-take}
use Rattle.std.proofs.lemmas.Bool.{cases_lt, cases_eq}
use Rattle.cp_agreement.proofs.Ghost.{put_same, put_other}
use Rattle.cp_agreement.proofs.Logs.{get-take, get-drop}
use Rattle.cp_parts.specs.declared.config.Config.{Config}
use Rattle.cp_parts.specs.declared.log_entry.LogEntry.{LogEntry}
use Rattle.cp_agreement_facts.specs.Clusters.{Member}
use Rattle.cp_agreement_facts.specs.Configurations.{configuration_after, configuration_at, HasQuorum, AreAdjacent}
use Rattle.cp_agreement_facts.specs.Logs.{HasTerm}
use Rattle.cp_safety.specs.Laws.{CommitsFrontOf, HasEntry, IsHeldBy}
use Rattle.cp_log_rules.specs.Persistent.{entry_at}
use Rattle.cp_rules_facts.specs.Executions.{Local, LocalCluster, Act, left_by, local_after}
use Rattle.cp_rules_laws.specs.Moments.{IsLocalMoment, agreed}
use Rattle.cp_rules_laws.specs.Histories.{HasHistory, ThereIsOneHistory}
use Rattle.cp_rules_laws.proofs.Moves.{above}
use Rattle.cp_rules_laws.proofs.Moments.{Behind, behind, now_moment, some_quorum}

-- ---- the greatest commit

abbrev greatest : Config → List Act → ℕ
greatest first [] = 0
greatest first (a ∷ before) = max (left_by (local_after first before) a).state.commit (greatest first before)

bounded : (first : Config) (acts : List Act) (v : LocalCluster) → IsLocalMoment first acts v → (m : ℕ) → (v.member m).state.commit ≤ greatest first acts
bounded first [] v moment m = subst (λ (w : LocalCluster). (w.member m).state.commit ≤ 0) (sym moment) (omega arith)
bounded first (a ∷ before) v moment m =
    let w = local_after first before in
    let l = left_by w a in
    ⊎_elim
    (λ (now : v ≡ local_after first (a ∷ before)). subst (λ (x : LocalCluster). (x.member m).state.commit ≤ max l.state.commit (greatest first before)) (sym now) (⊎_elim
    (λ (e : m ≡ a.actor). subst (λ (x : Local). x.state.commit ≤ max l.state.commit (greatest first before)) (sym (put_same w.member a.actor l m e)) (omega arith))
    (λ (ne : m ≡ a.actor → ⊥). subst (λ (x : Local). x.state.commit ≤ max l.state.commit (greatest first before)) (sym (put_other w.member a.actor l m ne)) (let r = bounded first before w (now_moment first before) m in omega (arith, r)))
    (cases_eq m a.actor)))
    (λ (old : IsLocalMoment first before v). let r = bounded first before v old m in omega (arith, r))
    moment

-- where it was reached
abbrev Reached : Config → List Act → ℕ → Type 0
Reached first acts n = (n ≡ 0) ⊎ ((v : LocalCluster) × IsLocalMoment first acts v × ((m : ℕ) × ((v.member m).state.commit ≡ n)))

reached : (first : Config) (acts : List Act) → Reached first acts (greatest first acts)
reached first [] = inl refl
reached first (a ∷ before) =
    let w = local_after first before in
    let l = left_by w a in
    ⊎_elim
    (λ (less : greatest first before < l.state.commit). inr (
      local_after first (a ∷ before),
      inl refl,
      (a.actor, ap (λ (x : Local). x.state.commit) (put_same w.member a.actor l a.actor refl) ∙ omega (arith, less)),
    ))
    (λ (le : l.state.commit ≤ greatest first before). ⊎_elim
    (λ (none : greatest first before ≡ 0). inl (omega (arith, none, le)))
    (λ (x : (v : LocalCluster) × IsLocalMoment first before v × ((m : ℕ) × ((v.member m).state.commit ≡ greatest first before))). let r = x.2.1 in inr (x.0, inr x.1, (x.2.0, omega (arith, r, le))))
    (reached first before))
    (cases_lt (greatest first before) l.state.commit)

-- ---- a front of the history

take_take : (l : List LogEntry) (n k : ℕ) → k ≤ n → take k (take n l) ≡ take k l
take_take l n zero h = refl
take_take [] zero (suc k) h = refl
take_take [] (suc n) (suc k) h = refl
take_take (x ∷ l) zero (suc k) h = absurd (omega (arith, h))
take_take (x ∷ l) (suc n) (suc k) h = ap (λ r. x ∷ r) (take_take l n k (omega (arith, h)))

term_cut : (l : List LogEntry) (n i t : ℕ) → i ≤ n → HasTerm l i t → HasTerm (take n l) i t
term_cut l n zero t le h = h
term_cut l n (suc k) t le h = (h.0, get-take l n k (omega (arith, le)) ∙ h.1, h.2)

front_cut : (first : List ℕ) (h : List LogEntry) (n : ℕ) (m : Member) → n ≤ length h → m.commit ≤ n → CommitsFrontOf first h m → CommitsFrontOf first (take n h) m
front_cut first h n m long le x =
    let low = x.base in
    record {
      within = omega (arith, le, long, length-take n h);
      base = x.base;
      entries = x.entries ∙ ap (drop m.base) (sym (take_take h n m.commit le));
      base_term = term_cut h n m.base m.base_term (omega (arith, low, le)) x.base_term;
      members = x.members ∙ ap (configuration_after first) (sym (take_take h n m.base (omega (arith, low, le))));
    }

-- a committed entry is the one of the history
entry_of : (first : List ℕ) (h : List LogEntry) (l : Local) (i : ℕ) → CommitsFrontOf first h (agreed l) → l.stored.base < i → i ≤ l.state.commit → entry_at l.stored i ≡ slice_get h (i - 1)
entry_of first h l i x less le =
    let b = l.stored.base in
    let c = l.state.commit in
    let k = i - b - 1 in
    above b l.stored.log i less ∙ sym (get-take l.stored.log (c - b) k (omega (arith, less, le))) ∙ ap (λ (s : List LogEntry). slice_get s k) x.entries
    ∙ get-drop (take c h) b k ∙ get-take h c (b + k) (omega (arith, less, le)) ∙ ap (slice_get h) (omega (arith, less, le))

held_cut : (h : List LogEntry) (n place : ℕ) (m : Member) → place < n → IsHeldBy h place m → IsHeldBy (take n h) place m
held_cut h n place m less x = ⊎_elim
    (λ (z : place < m.base). inl z)
    (λ (z : (e : LogEntry) × (slice_get h place ≡ Some e) × HasEntry m (suc place) e). inr (z.0, get-take h n place less ∙ z.1, z.2))
    x

module _ (first : Config) (acts : List Act) (x : Behind first acts) where
  abbrev n : ℕ
  n = greatest first acts

  fits : n ≤ length x.history
  fits = ⊎_elim
      (λ (none : n ≡ 0). omega (arith, none))
      (λ (r : (v : LocalCluster) × IsLocalMoment first acts v × ((m : ℕ) × ((v.member m).state.commit ≡ n))). let e = r.2.1 in let w = (x.committed r.0 r.1 r.2.0).within in omega (arith, e, w))
      (reached first acts)

  long : length (take n x.history) ≡ n
  long = omega (arith, fits, length-take n x.history)

  front : (v : LocalCluster) → IsLocalMoment first acts v → (m : ℕ) → CommitsFrontOf first.members (take n x.history) (agreed (v.member m))
  front v moment m = front_cut first.members x.history n (agreed (v.member m)) fits (bounded first acts v moment m) (x.committed v moment m)

  held : (place : ℕ) → place < length (take n x.history)
      → (members : List ℕ) × AreAdjacent (configuration_at first.members (take n x.history) (suc place)) members
      × HasQuorum members (λ m. IsHeldBy (take n x.history) place (agreed ((local_after first acts).member m)))
  held place less =
      let low : place < n = omega (arith, less, long) in
      ⊎_elim
      (λ (none : n ≡ 0). absurd (omega (arith, low, none)))
      (λ (r : (v : LocalCluster) × IsLocalMoment first acts v × ((m : ℕ) × ((v.member m).state.commit ≡ n))).
      let e = r.2.1 in
      let y = x.held r.0 r.1 r.2.0 place (omega (arith, low, e)) in (
        y.0,
        subst (λ (l : List LogEntry). AreAdjacent (configuration_after first.members l) y.0) (sym (take_take x.history n (suc place) (omega (arith, low)))) y.1,
        some_quorum y.0 (λ m. IsHeldBy x.history place (agreed ((local_after first acts).member m))) (λ m. IsHeldBy (take n x.history) place (agreed ((local_after first acts).member m)))
            (λ m z. held_cut x.history n place (agreed ((local_after first acts).member m)) low z) y.2,
      ))
      (reached first acts)

  cut : HasHistory first acts
  cut = record {
    history = take n x.history;
    committed = front;
    entries = λ v moment m i less le. entry_of first.members (take n x.history) (v.member m) i (front v moment m) less le;
    reached = subst (Reached first acts) (sym long) (reached first acts);
    held = held;
  }

pub there_is_one_history : ThereIsOneHistory
there_is_one_history first acts is = cut first acts (behind first acts is)
