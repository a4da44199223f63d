-- A group that is gone stays so through every body, and its last state with it.
use Rattle.std.proofs.Common.{◌≡◌, ◌≢◌, ℕ, ◌+◌, ⊎_elim, Bool, true, false, not, ◌||◌, cond, List, [], ◌∷◌, ◌++◌, length, Some, None, Option, Result, Ok, Err, refl, ap, sym, subst, ◌∙◌, arith, true≢false, if◌then◌else◌}
use Rattle.std.specs.List.{list_any}
use Rattle.std.specs.Ordering.{nat_cmp, match_ordering}
use Rattle.std.specs.declared.cmp.Ordering.{Ordering}
use Rattle.std.specs.declared.cmp.Ordering.TheVariants.{Less, Equal, Greater}
use Rattle.std.specs.BTreeMap.{is_at, insert_entry}
use Rattle.std.specs.BTreeSet.{insert_key}
use Rattle.std.specs.Map.{lookup, remove_entry}
use Rattle.std.specs.FinMap.{nat_cmp-IsAntisymmetric}
use Rattle.std.proofs.lemmas.Bool.{and_parts, or_cases}
use Rattle.std.proofs.lemmas.Bool.Decides.{nat_tests}
use Rattle.std.proofs.lemmas.Option.{same_Some}
use Rattle.cp_grammar.specs.Grammar.{whole}
use Rattle.cp_grammar.specs.Laws.{ok_is}
use Rattle.cp_parts.specs.declared.part.Part.{Part}
use Rattle.cp_parts.specs.declared.part.Part.TheVariants as part
use Rattle.cp_parts.specs.Parts.{part_grammar}
use Rattle.cp_log_rules.specs.Persistent.{PersistentState, new_group, with_ballot, with_entries, with_snapshot}
use Rattle.cp_log_rules.specs.Durable.{DurableState, group_at, has_group, has_ended, with_part, with_group}
use Rattle.cp_log_rules.specs.Legal.{is_legal, if_stands, may_vote, may_append, may_snapshot, are_short}
use Rattle.cp_log_rules.specs.Recovery.{after_part, after_read, after_body, or_bad, recovered_from}
use Rattle.cp_log_rules.proofs.Groups.{others_stay}
use Rattle.cp_rules_laws.specs.Ended.{or_before, of_state, last_state, HasGone, EndedGroupsStay}

-- ---- rows of other groups

not_at : (g h : ℕ) → h ≢ g → is_at (nat_cmp g) h ≡ false
not_at g h other = grind (arith, nat_tests)

module _ (g h : ℕ) (other : h ≢ g) where
  -- a row that is put leaves the others
  put_other : (rows : List (ℕ × PersistentState)) (v : PersistentState) → lookup (is_at (nat_cmp g)) (insert_entry nat_cmp rows h v) ≡ lookup (is_at (nat_cmp g)) rows
  put_other [] v = rw (not_at g h other) refl
  put_other (e ∷ es) v = by (put_other es v) (nat_cmp h e.0) refl
    where
      by : lookup (is_at (nat_cmp g)) (insert_entry nat_cmp es h v) ≡ lookup (is_at (nat_cmp g)) es → (o : Ordering) → nat_cmp h e.0 ≡ o
          → lookup (is_at (nat_cmp g)) (match_ordering o ((h, v) ∷ e ∷ es) ((e.0, v) ∷ es) (e ∷ insert_entry nat_cmp es h v)) ≡ lookup (is_at (nat_cmp g)) (e ∷ es)
      by rest Less is = rw (not_at g h other) refl
      by rest Equal is = let far : is_at (nat_cmp g) e.0 ≡ false = subst (λ k. is_at (nat_cmp g) k ≡ false) (nat_cmp-IsAntisymmetric h e.0 is) (not_at g h other) in rw far refl
      by rest Greater is = ap (λ (o : Option PersistentState). cond (is_at (nat_cmp g) e.0) (Some e.1) o) rest

-- a row that is taken away adds none
taken_away : (p q : ℕ → Bool) (rows : List (ℕ × PersistentState)) → lookup p rows ≡ None → lookup p (remove_entry q rows) ≡ None
taken_away p q [] none = refl
taken_away p q (e ∷ es) none = by (p e.0) (q e.0) refl none (taken_away p q es)
  where
    by : (here gone : Bool) → p e.0 ≡ here → cond here (Some e.1) (lookup p es) ≡ None → (lookup p es ≡ None → lookup p (remove_entry q es) ≡ None)
        → lookup p (cond gone es (e ∷ remove_entry q es)) ≡ None
    by true gone is none rest = absurd (cc)
    by false true is none rest = none
    by false false is none rest = rw is (rest none)

-- ---- the groups that have ended

or_left : (a b : Bool) → a ≡ true → (a || b) ≡ true
or_left a b e = rw e refl

or_right : (a b : Bool) → b ≡ true → (a || b) ≡ true
or_right true b e = refl
or_right false b e = e

key_stays : (p : ℕ → Bool) (keys : List ℕ) (k : ℕ) → list_any p keys ≡ true → list_any p (insert_key nat_cmp keys k) ≡ true
key_stays p [] k has = absurd (true≢false (sym has))
key_stays p (x ∷ xs) k has = by (λ e. key_stays p xs k e) (nat_cmp k x)
  where
    by : (list_any p xs ≡ true → list_any p (insert_key nat_cmp xs k) ≡ true) → (o : Ordering) → list_any p (match_ordering o (k ∷ x ∷ xs) (x ∷ xs) (x ∷ insert_key nat_cmp xs k)) ≡ true
    by rest Less = or_right (p k) (p x || list_any p xs) has
    by rest Equal = has
    by rest Greater = ⊎_elim
        (λ (e : p x ≡ true). or_left (p x) (list_any p (insert_key nat_cmp xs k)) e)
        (λ (e : list_any p xs ≡ true). or_right (p x) (list_any p (insert_key nat_cmp xs k)) (rest e))
        (or_cases (p x) (list_any p xs) has)

-- ---- a part

module _ (g : ℕ) (s : DurableState) (gone : HasGone g s) where
  -- a part of a group that stands is none of this one
  apart : (h : ℕ) (may : PersistentState → Bool) → if_stands may (group_at s h) ≡ true → g ≢ h
  apart h may legal same = let none : group_at s h ≡ None = subst (λ k. group_at s k ≡ None) same gone.stands_not in
      true≢false (sym legal ∙ ap (if_stands may) none)

  changed : (h : ℕ) (may : PersistentState → Bool) (change : PersistentState → PersistentState) → if_stands may (group_at s h) ≡ true → HasGone g (with_group h change s)
  changed h may change legal = record { stands_not = others_stay h g change s (apart h may legal) ∙ gone.stands_not; ended = gone.ended }

  -- a group that has not ended is another
  not_ended : (h : ℕ) → not (has_ended s h) ≡ true → h ≢ g
  not_ended h fresh same = let ended : has_ended s h ≡ true = subst (λ k. has_ended s k ≡ true) (sym same) gone.ended in true≢false (sym fresh ∙ ap not ended)

  part_stays : (x : Part) → is_legal x s ≡ true → HasGone g (with_part x s)
  part_stays (part.Start restart) legal = record { stands_not = gone.stands_not; ended = gone.ended }
  part_stays (part.State group term vote) legal = changed group.0 (may_vote term) (with_ballot term vote) legal
  part_stays (part.Append group term vote after entries) legal =
      changed group.0 (may_append term after entries) (with_entries term vote after entries) (and_parts (are_short s.format entries) (if_stands (may_append term after entries) (group_at s group.0)) legal).1
  part_stays (part.Begin group first) legal =
      let other = not_ended group.0 (and_parts (not (has_group s group.0)) (not (has_ended s group.0)) legal).1 in
      record { stands_not = put_other g group.0 other s.groups (new_group first) ∙ gone.stands_not; ended = gone.ended }
  part_stays (part.End group) legal = record {
    stands_not = taken_away (is_at (nat_cmp g)) (is_at (nat_cmp group.0)) s.groups gone.stands_not;
    ended = key_stays (is_at (nat_cmp g)) s.ended group.0 gone.ended;
  }
  part_stays (part.Snapshot group term vote index bytes) legal = changed group.0 (may_snapshot term index bytes) (with_snapshot term vote index bytes) legal
  part_stays (part.Start2 restart) legal = record { stands_not = gone.stands_not; ended = gone.ended }

-- ---- a body

legal_stays : (g : ℕ) (x : Part) (s t : DurableState) → after_part x s ≡ Some t → HasGone g s → HasGone g t
legal_stays g x s t is gone = by (is_legal x s) refl is
  where
    by : (b : Bool) → is_legal x s ≡ b → (if b then Some (with_part x s) else None) ≡ Some t → HasGone g t
    by true e is = subst (HasGone g) (same_Some (with_part x s) t is) (part_stays g s gone x e)
    by false e is = absurd (cc)

body_stays : (g : ℕ) (body : List ℕ) (s t : DurableState) → after_body body s ≡ Some t → HasGone g s → HasGone g t
unfolding after_body
body_stays g body s t is gone = by (whole part_grammar body) is
  where
    by : (r : Result Part ℕ) → after_read r s ≡ Some t → HasGone g t
    by (Ok x) is = legal_stays g x s t is gone
    by (Err place) is = absurd (cc)

-- ---- bodies

-- what is recovered with one more body in front
record Next (place : ℕ) (s t : DurableState) (body : List ℕ) (bodies : List (List ℕ)) : Type 0 where
  middle : DurableState
  first : after_body body s ≡ Some middle
  rest : recovered_from (place + (length body + 5)) middle bodies ≡ Ok t

next_of : (place : ℕ) (s t : DurableState) (body : List ℕ) (bodies : List (List ℕ)) → recovered_from place s (body ∷ bodies) ≡ Ok t → Next place s t body bodies
unfolding recovered_from
next_of place s t body bodies is = by (after_body body s) refl is
  where
    by : (o : Option DurableState) → after_body body s ≡ o → or_bad place o (λ u. recovered_from (place + (length body + 5)) u bodies) ≡ Ok t → Next place s t body bodies
    by None e is = absurd (cc)
    by (Some u) e is = record { middle = u; first = e; rest = is }

none_is : (place : ℕ) (s t : DurableState) → recovered_from place s [] ≡ Ok t → s ≡ t
unfolding recovered_from
none_is place s t is = ok_is s t is

module _ (g : ℕ) where
  after_one : (s u : DurableState) (body : List ℕ) (bodies : List (List ℕ)) → after_body body s ≡ Some u → last_state g s (body ∷ bodies) ≡ or_before (last_state g u bodies) (group_at s g)
  after_one s u body bodies is = ap (λ (o : Option DurableState). or_before (of_state o (λ t. last_state g t bodies)) (group_at s g)) is

  -- where the rest has no state, or has one
  none_behind : (s u : DurableState) (body : List ℕ) (bodies : List (List ℕ)) → after_body body s ≡ Some u → last_state g u bodies ≡ None → last_state g s (body ∷ bodies) ≡ group_at s g
  none_behind s u body bodies is none = after_one s u body bodies is ∙ ap (λ (o : Option PersistentState). or_before o (group_at s g)) none

  some_behind : (s u : DurableState) (body : List ℕ) (bodies : List (List ℕ)) (p : PersistentState) → after_body body s ≡ Some u → last_state g u bodies ≡ Some p → last_state g s (body ∷ bodies) ≡ Some p
  some_behind s u body bodies p is some = after_one s u body bodies is ∙ ap (λ (o : Option PersistentState). or_before o (group_at s g)) some

  stays : (s t : DurableState) (place : ℕ) (bodies : List (List ℕ)) → HasGone g s → recovered_from place s bodies ≡ Ok t → HasGone g t
  stays s t place [] gone is = subst (HasGone g) (none_is place s t is) gone
  stays s t place (body ∷ bodies) gone is =
      let x = next_of place s t body bodies is in stays x.middle t (place + (length body + 5)) bodies (body_stays g body s x.middle x.first gone) x.rest

  -- a group that is gone has no state from then on
  no_more : (s t : DurableState) (place : ℕ) (bodies : List (List ℕ)) → HasGone g s → recovered_from place s bodies ≡ Ok t → last_state g s bodies ≡ None
  no_more s t place [] gone is = gone.stands_not
  no_more s t place (body ∷ bodies) gone is =
      let x = next_of place s t body bodies is in
      none_behind s x.middle body bodies x.first (no_more x.middle t (place + (length body + 5)) bodies (body_stays g body s x.middle x.first gone) x.rest) ∙ gone.stands_not

  stands : (s t : DurableState) (place : ℕ) (bodies : List (List ℕ)) (p : PersistentState) → recovered_from place s bodies ≡ Ok t → group_at t g ≡ Some p → last_state g s bodies ≡ Some p
  stands s t place [] p is there = ap (λ (u : DurableState). group_at u g) (none_is place s t is) ∙ there
  stands s t place (body ∷ bodies) p is there =
      let x = next_of place s t body bodies is in
      some_behind s x.middle body bodies p x.first (stands x.middle t (place + (length body + 5)) bodies p x.rest there)

  ended : (s t : DurableState) (place : ℕ) (before : List (List ℕ)) (p : PersistentState) → recovered_from place s before ≡ Ok t → group_at t g ≡ Some p
      → (u : DurableState) (body : List ℕ) → after_body body t ≡ Some u → HasGone g u
      → (x : DurableState) (other : ℕ) (behind : List (List ℕ)) → recovered_from other u behind ≡ Ok x → last_state g s (before ++ body ∷ behind) ≡ Some p
  ended s t place [] p is there u body ends gone x other behind more =
      let same = none_is place s t is in
      none_behind s u body behind (ap (after_body body) same ∙ ends) (no_more u x other behind gone more) ∙ ap (λ (v : DurableState). group_at v g) same ∙ there
  ended s t place (b ∷ before) p is there u body ends gone x other behind more =
      let y = next_of place s t b before is in
      some_behind s y.middle b (before ++ body ∷ behind) p y.first (ended y.middle t (place + (length b + 5)) before p y.rest there u body ends gone x other behind more)

pub ended_groups_stay : EndedGroupsStay
ended_groups_stay g = record { stands = stands g; stays = stays g; ended = ended g }
