-- How commit and base move, and where the entries of one step come from, read off from what the step writes.
use Rattle.std.proofs.Common.{◌≡◌, ℕ, suc, ◌+◌, ◌-◌, ◌<◌, ◌≤◌, ◌⊎◌, inl, inr, ⊎_elim, true, false, List, [], ◌∷◌, ◌++◌, length, take, drop, refl, ap, ap₂, sym, ◌∙◌, subst, arith, Option, Some, None, slice_get, nat_lt, if◌then◌else◌, Contains, le_of_eq, ltb-true, length-take}
use Rattle.std.proofs.lemmas.Bool.{cases_Bool, cases_lt, lt-ltb}
use Rattle.std.proofs.lemmas.List.Elements.{All-contains}
use Rattle.cp_agreement.proofs.Logs.{has_place, get-take, get-drop, get-append_left, get-append_right, push_cases}
use Rattle.cp_parts.specs.declared.log_entry.LogEntry.{LogEntry}
use Rattle.cp_log_rules.specs.Persistent as stored
use Rattle.cp_log_rules.specs.Persistent.{PersistentState, last, entry_at, suffix_behind}
use Rattle.cp_rules.specs.Persistent.{after_part}
use Rattle.cp_rules.specs.Volatile.{VolatileState}
use Rattle.cp_rules.specs.Local.{Append, send, Event}
use Rattle.cp_rules.specs.Snapshots.{own_head}
use Rattle.cp_rules.specs.Steps.{step}
use Rattle.cp_rules_facts.specs.Seen.{came_with}
use Rattle.cp_rules_facts.specs.Soundness.{IsSound, IsFair}
use Rattle.cp_rules_facts.proofs.Basics.{either}
use Rattle.cp_rules_facts.proofs.Laws.{own_turn, stays_sound}
use Rattle.cp_rules_facts.proofs.Turns.{Truth, Good}
use Rattle.cp_rules_facts.proofs.Steps.{step_good}
use Rattle.cp_rules_laws.specs.Writes.{After, after, CameAt, SameBase, KeepsLog, FollowsEntries, MakesEntry, TakesOwn, Installs, Writes}
use Rattle.cp_rules_laws.specs.Moves.{Moves, CommitsRise}
use Rattle.cp_rules_laws.specs.Origins.{MakesAt, EntriesComeFrom}
use Rattle.cp_rules_laws.proofs.Steps.{steps_write}

-- ---- the entry at an index

abbrev pub at_in : ℕ → List LogEntry → ℕ → Option LogEntry
at_in base log i = if nat_lt base i then slice_get log (i - base - 1) else None

pub above : (base : ℕ) (log : List LogEntry) (i : ℕ) → base < i → at_in base log i ≡ slice_get log (i - base - 1)
above base log i less = ap (λ c. if c then slice_get log (i - base - 1) else None) (lt-ltb base i less)

is_above : (base : ℕ) (log : List LogEntry) (i : ℕ) (e : LogEntry) → at_in base log i ≡ Some e → base < i
is_above base log i e is = ⊎_elim
    (λ (z : nat_lt base i ≡ true). ltb-true base i z)
    (λ (z : nat_lt base i ≡ false). absurd (let x : None ≡ Some e = rw z at is in cc))
    (cases_Bool (nat_lt base i))

-- what stays of the log behind a snapshot
behind : (p : PersistentState) (index term i : ℕ) (e : LogEntry) → p.base ≤ index → at_in index (suffix_behind index term p) i ≡ Some e → entry_at p i ≡ Some e
behind p index term i e low is =
    let less = is_above index (suffix_behind index term p) i e is in
    either (λ (l : List LogEntry). slice_get l (i - index - 1) ≡ Some e → entry_at p i ≡ Some e) (stored.is_term term (entry_at p index)) (drop (index - p.base) p.log) []
    (λ c there. above p.base p.log i (omega (arith, low, less)) ∙ ap (slice_get p.log) (omega (arith, low, less)) ∙ sym (get-drop p.log (index - p.base) (i - index - 1)) ∙ there)
    (λ c there. absurd (cc))
    (sym (above index (suffix_behind index term p) i less) ∙ is)

-- ---- commit and base

module _ (p : PersistentState) (v : VolatileState) (event : Event) (x : After) (low : p.base ≤ v.commit) (high : v.commit ≤ last p) where
  abbrev q : PersistentState
  q = x.stored

  -- a front of the log with something behind it leaves the entries of the front
  front_stays : SameBase p q → (front more : List LogEntry) → q.log ≡ front ++ more → (i : ℕ) → p.base < i → i - p.base - 1 < length front
      → slice_get front (i - p.base - 1) ≡ slice_get p.log (i - p.base - 1) → entry_at q i ≡ entry_at p i
  front_stays same front more is i less short there =
      ap₂ (λ b l. at_in b l i) same.base is ∙ above p.base (front ++ more) i less ∙ get-append_left front more (i - p.base - 1) short ∙ there ∙ sym (above p.base p.log i less)

  followed_keeps : (y : FollowsEntries p v event x) (i : ℕ) → p.base < i → i ≤ y.at → entry_at q i ≡ entry_at p i
  followed_keeps y i less le =
      let n = y.at - p.base in
      let within = y.within in
      front_stays y.base (take n p.log) y.entries y.log i less (omega (arith, less, le, within, length-take n p.log)) (get-take p.log n (i - p.base - 1) (omega (arith, less, le)))

  made_keeps : (y : MakesEntry p event x) (i : ℕ) → p.base < i → i ≤ last p → entry_at q i ≡ entry_at p i
  made_keeps y i less le = front_stays y.base p.log (y.entry ∷ []) y.log i less (omega (arith, less, le)) refl

  keeps : Writes p v event x → (i : ℕ) → q.base < i → i ≤ v.commit → entry_at q i ≡ entry_at p i
  keeps g i less le = ⊎_elim
      (λ (y : KeepsLog p x). ap₂ (λ b l. at_in b l i) y.base.base y.log)
      (λ z. ⊎_elim
      (λ (y : FollowsEntries p v event x). let up = y.above in followed_keeps y i (omega (arith, less, y.base.base)) (omega (arith, le, up)))
      (λ z. ⊎_elim
      (λ (y : MakesEntry p event x). made_keeps y i (omega (arith, less, y.base.base)) (omega (arith, le, high)))
      (λ z. ⊎_elim
      (λ (y : TakesOwn p v event x). let b : q.base ≡ v.commit = ap (λ (s : PersistentState). s.base) y.stored in absurd (omega (arith, b, less, le)))
      (λ (y : Installs p v event x). let b : q.base ≡ y.index = ap (λ (s : PersistentState). s.base) y.stored in let up = y.above in absurd (omega (arith, b, less, le, up)))
      z)
      z)
      z)
      g.log

  base_moves : Writes p v event x → SameBase p q ⊎ (((q.base ≡ v.commit) × TakesOwn p v event x) ⊎ ((q.base ≡ x.commit) × Installs p v event x))
  base_moves g = ⊎_elim
      (λ (y : KeepsLog p x). inl y.base)
      (λ z. ⊎_elim
      (λ (y : FollowsEntries p v event x). inl y.base)
      (λ z. ⊎_elim
      (λ (y : MakesEntry p event x). inl y.base)
      (λ z. inr (⊎_elim
      (λ (y : TakesOwn p v event x). inl (ap (λ (s : PersistentState). s.base) y.stored, y))
      (λ (y : Installs p v event x). inr (ap (λ (s : PersistentState). s.base) y.stored ∙ sym y.commit, y))
      z))
      z)
      z)
      g.log

  base_rises : Writes p v event x → p.base ≤ q.base
  base_rises g = ⊎_elim
      (λ (y : SameBase p q). le_of_eq (sym y.base))
      (λ z. ⊎_elim
      (λ (y : (q.base ≡ v.commit) × TakesOwn p v event x). let a = y.0 in omega (arith, a, low))
      (λ (y : (q.base ≡ x.commit) × Installs p v event x). let a = y.0 in let up = g.rises in omega (arith, a, up, low))
      z)
      (base_moves g)

  moves : Writes p v event x → q.base ≤ x.commit → x.commit ≤ last q → Moves p v event x
  moves g covers within = record {
    rises = g.rises;
    within = within;
    base = base_moves g;
    base_rises = base_rises g;
    covers = covers;
    keeps = keeps g;
    there = λ i less le. let e = has_place q.log (i - q.base - 1) (omega (arith, less, le, within)) in (e.0, above q.base q.log i less ∙ e.1);
  }

  -- ---- where an entry of the log comes from

  -- the step makes it
  abbrev IsMadeAt : ℕ → LogEntry → Type 0
  IsMadeAt i e = (y : MakesEntry p event x) × (i ≡ suc (last p)) × (y.entry ≡ e)

  followed_from : (y : FollowsEntries p v event x) (i : ℕ) (e : LogEntry) → entry_at q i ≡ Some e → (entry_at p i ≡ Some e) ⊎ CameAt event i e
  followed_from y i e is =
      let less : p.base < i = subst (λ (b : ℕ). b < i) y.base.base (is_above q.base q.log i e is) in
      let n = y.at - p.base in
      let j = i - suc y.at in
      let within = y.within in
      let long = length-take n p.log in
      let under : p.base ≤ y.at = (let up = y.above in omega (arith, up, low)) in
      ⊎_elim
      (λ (far : y.at < i).
      let there : slice_get y.entries j ≡ Some e = sym (get-append_right (take n p.log) y.entries j) ∙ ap (slice_get (take n p.log ++ y.entries)) (omega (arith, far, within, long, under)) ∙ sym (above p.base (take n p.log ++ y.entries) i less)
      ∙ sym (ap₂ (λ b l. at_in b l i) y.base.base y.log) ∙ is in
      inr (subst (λ (m : ℕ). CameAt event m e) (omega (arith, far)) (y.came j e there)))
      (λ (near : i ≤ y.at). inl (sym (followed_keeps y i less near) ∙ is))
      (cases_lt y.at i)

  made_from : (y : MakesEntry p event x) (i : ℕ) (e : LogEntry) → entry_at q i ≡ Some e → (entry_at p i ≡ Some e) ⊎ IsMadeAt i e
  made_from y i e is =
      let less : p.base < i = subst (λ (b : ℕ). b < i) y.base.base (is_above q.base q.log i e is) in
      let k = i - p.base - 1 in
      ⊎_elim
      (λ (old : slice_get p.log k ≡ Some e). inl (above p.base p.log i less ∙ old))
      (λ (new : (k ≡ length p.log) × (e ≡ y.entry)). let at = new.0 in inr (y, omega (arith, less, at), sym new.1))
      (push_cases p.log y.entry e k (sym (above p.base (p.log ++ y.entry ∷ []) i less) ∙ sym (ap₂ (λ b l. at_in b l i) y.base.base y.log) ∙ is))

  comes : Writes p v event x → (i : ℕ) (e : LogEntry) → entry_at q i ≡ Some e → (entry_at p i ≡ Some e) ⊎ (CameAt event i e ⊎ IsMadeAt i e)
  comes g i e is = ⊎_elim
      (λ (y : KeepsLog p x). inl (sym (ap₂ (λ b l. at_in b l i) y.base.base y.log) ∙ is))
      (λ z. ⊎_elim
      (λ (y : FollowsEntries p v event x). ⊎_elim (λ a. inl a) (λ a. inr (inl a)) (followed_from y i e is))
      (λ z. ⊎_elim
      (λ (y : MakesEntry p event x). ⊎_elim (λ a. inl a) (λ a. inr (inr a)) (made_from y i e is))
      (λ z. inl (⊎_elim
      (λ (y : TakesOwn p v event x). behind p v.commit (own_head p v.commit).term i e low (ap (λ (s : PersistentState). entry_at s i) (sym y.stored) ∙ is))
      (λ (y : Installs p v event x). behind p y.index y.head.term i e (let up = y.above in omega (arith, up, low)) (ap (λ (s : PersistentState). entry_at s i) (sym y.stored) ∙ is))
      z))
      z)
      z)
      g.log

pub commits_rise : CommitsRise
commits_rise me p v event sound fair =
    let s = step me p v event in
    let sound_after = stays_sound.step me p v event sound fair in
    moves p v event (after p s) sound.above_base sound.within (steps_write me p v event sound fair) sound_after.above_base sound_after.within

-- ---- what is sent

sends_own : (me : ℕ) (p : PersistentState) (v : VolatileState) (event : Event) → IsSound me p v → IsFair p v event
    → (to term previous previous_term commit : ℕ) (entries : List LogEntry) → Contains (step me p v event).sends (send to (Append term previous previous_term commit entries))
    → (k : ℕ) (e : LogEntry) → slice_get entries k ≡ Some e → entry_at (after_part (step me p v event).part p) (suc (previous + k)) ≡ Some e
sends_own me p v event sound fair to term previous previous_term commit entries has k e is =
    let s = step me p v event in
    let q = after_part s.part p in
    let turn = own_turn me p v (came_with me event) sound in
    let good : Good turn s = step_good turn event refl fair in
    let x = (All-contains (Truth turn s.leads q s.state) s.sends (send to (Append term previous previous_term commit entries)) good.says has).0 in
    let at_is = x.previous_is in
    above q.base q.log (suc (previous + k)) (omega (arith, at_is)) ∙ ap (slice_get q.log) (omega (arith, at_is)) ∙ x.piece k e is

log_from : (me : ℕ) (p : PersistentState) (v : VolatileState) (event : Event) → IsSound me p v → IsFair p v event → (i : ℕ) (e : LogEntry) → entry_at (after_part (step me p v event).part p) i ≡ Some e
    → (entry_at p i ≡ Some e) ⊎ (CameAt event i e ⊎ MakesAt p event (step me p v event) i e)
log_from me p v event sound fair i e is =
    let s = step me p v event in
    ⊎_elim
    (λ a. inl a)
    (λ z. inr (⊎_elim
    (λ a. inl a)
    (λ (a : (y : MakesEntry p event (after p s)) × (i ≡ suc (last p)) × (y.entry ≡ e)).
    let y = a.0 in
    inr (subst (λ (f : LogEntry). MakesAt p event s i f) a.2 (record { index_is = a.1; term_is = y.term; leads = y.leads; made = y.made })))
    z))
    (comes p v event (after p s) sound.above_base sound.within (steps_write me p v event sound fair) i e is)

pub entries_come_from : EntriesComeFrom
entries_come_from me p v event sound fair = record { log = log_from me p v event sound fair; sends = sends_own me p v event sound fair }
