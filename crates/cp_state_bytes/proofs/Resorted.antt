-- Rows that are sorted by other keys, and back again, are as they were.
use Rattle.std.proofs.Common.{◌≡◌, ℕ, ◌+◌, ◌≤◌, false, List, [], ◌∷◌, length, Option, Some, None, refl, ap, sym, ◌∙◌, cond, arith}
use Rattle.std.specs.List.{AllByRecursion}
use Rattle.std.specs.List.Sorted.{IsStrictlySortedBy}
use Rattle.std.specs.declared.cmp.Ordering.{Ordering}
use Rattle.std.specs.declared.cmp.Ordering.TheVariants.{Less, Equal, Greater}
use Rattle.std.specs.Ordering.{match_ordering, is_eq, nat_cmp}
use Rattle.std.specs.Cmp.{IsTotalOrder, tied_itself}
use Rattle.std.specs.BTreeMap.{is_at}
use Rattle.std.specs.FinMap.{nat_cmp-IsAntisymmetric}
use Rattle.std.proofs.lemmas.Cmp.{nat_cmp_total, nat_list_cmp_total, on_total, then_total}
use Rattle.cp_group_state.specs.Rows.{find, put, name_cmp, holding_cmp}
use Rattle.cp_group_state.specs.Invariants.{IsRising}
use Rattle.cp_group_state.proofs.Keyed.{IsKey, find-put_same, find-put_other, is_at_apart, name_key, pair_same, then_equal}
use Rattle.cp_group_state.proofs.Rising.{rising-put, less-none}
use Rattle.cp_group_state.proofs.Ordered.{holding_total, holding_key}
use Rattle.cp_semaphore.proofs.Extensional.{same_rows}
use Rattle.cp_group_ranges.proofs.Listed.{each-put}
use Rattle.cp_state_bytes.specs.Keys.{held_cmp}
use Rattle.cp_state_bytes.specs.Lists.{sorted_into, turned, by_session, by_name, Holdings, Held}

module _ {K X : Type 0} (cmp : K → K → Ordering) where
  put-longer : (rows : List (K × X)) (k : K) (x : X) → length (put cmp rows k x) ≤ length rows + 1
  put-longer [] k x = omega arith
  put-longer (e ∷ es) k x = by (put-longer es k x) (cmp k e.0) where
    by : length (put cmp es k x) ≤ length es + 1 → (o : Ordering) → length (match_ordering o ((k, x) ∷ e ∷ es) ((e.0, x) ∷ es) (e ∷ put cmp es k x)) ≤ length (e ∷ es) + 1
    by rest Less = omega arith
    by rest Equal = omega arith
    by rest Greater = omega arith

abbrev pub or_else : {X : Type 0} → Option X → Option X → Option X
or_else None o = o
or_else (Some x) o = Some x

else_none : {X : Type 0} (o : Option X) → or_else o None ≡ o
else_none None = refl
else_none (Some x) = refl

apart : {K L : Type 0} (other_cmp : L → L → Ordering) (other_key : IsKey other_cmp) (other : K → L) (back : L → K) (again : (k : K) → back (other k) ≡ k) (q k : K) → (q ≡ k → ⊥) → is_at (other_cmp (other q)) (other k) ≡ false
apart other_cmp other_key other back again q k far = is_at_apart other_cmp other_key (other q) (other k) (λ same. far (sym (again q) ∙ ap back same ∙ again k))

module _ {K L X : Type 0} (cmp : K → K → Ordering) (key : IsKey cmp) (total : IsTotalOrder cmp) (other_cmp : L → L → Ordering) (other_key : IsKey other_cmp) (other_total : IsTotalOrder other_cmp) (other : K → L) (back : L → K) (again : (k : K) → back (other k) ≡ k) where
  -- what stands under a key stands under its other key
  pub find-sorted : (rows : List (K × X)) (acc : List (L × X)) (q : K) → IsRising cmp rows → find other_cmp (sorted_into other_cmp other acc rows) (other q) ≡ or_else (find cmp rows q) (find other_cmp acc (other q))
  unfolding IsStrictlySortedBy
  find-sorted [] acc q rising = refl
  find-sorted (e ∷ es) acc q rising = find-sorted es (put other_cmp acc (other e.0) e.1) q rising.1 ∙ by (cmp q e.0) refl
    where
      no_less : Equal ≡ Less → ⊥
      no_less e = cc

      no_greater : Equal ≡ Greater → ⊥
      no_greater e = cc

      far : (o : Ordering) → cmp q e.0 ≡ o → (Equal ≡ o → ⊥) → q ≡ e.0 → ⊥
      far o h differs same = differs (sym (key.here q) ∙ ap (cmp q) same ∙ h)

      none : q ≡ e.0 → find cmp es q ≡ None
      none same = ap (λ (k : K). find cmp es k) same ∙ less-none cmp key total e.0 es rising.0

      here : q ≡ e.0 → find other_cmp (put other_cmp acc (other e.0) e.1) (other q) ≡ Some e.1
      here same = ap (λ (k : K). find other_cmp (put other_cmp acc (other e.0) e.1) (other k)) same ∙ find-put_same other_cmp other_key acc (other e.0) e.1

      there : (q ≡ e.0 → ⊥) → find other_cmp (put other_cmp acc (other e.0) e.1) (other q) ≡ find other_cmp acc (other q)
      there gone = find-put_other other_cmp other_key acc (other e.0) (other q) e.1 (apart other_cmp other_key other back again q e.0 gone)

      by : (o : Ordering) → cmp q e.0 ≡ o → or_else (find cmp es q) (find other_cmp (put other_cmp acc (other e.0) e.1) (other q)) ≡ or_else (cond (is_eq o) (Some e.1) (find cmp es q)) (find other_cmp acc (other q))
      by Equal h = let same = key.same q e.0 h in ap (λ (o : Option X). or_else o (find other_cmp (put other_cmp acc (other e.0) e.1) (other q))) (none same) ∙ here same
      by Less h = ap (λ (o : Option X). or_else (find cmp es q) o) (there (far Less h no_less))
      by Greater h = ap (λ (o : Option X). or_else (find cmp es q) o) (there (far Greater h no_greater))

module _ {K L X : Type 0} (other_cmp : L → L → Ordering) (other_key : IsKey other_cmp) (other_total : IsTotalOrder other_cmp) (other : K → L) where
  pub rising-sorted : (rows : List (K × X)) (acc : List (L × X)) → IsRising other_cmp acc → IsRising other_cmp (sorted_into other_cmp other acc rows)
  rising-sorted [] acc rising = rising
  rising-sorted (e ∷ es) acc rising = rising-sorted es (put other_cmp acc (other e.0) e.1) (rising-put other_cmp other_key other_total acc (other e.0) e.1 rising)

  pub each-sorted : (P : K × X → Type 0) (R : L × X → Type 0) → ((e : K × X) → P e → R (other e.0, e.1)) → (rows : List (K × X)) (acc : List (L × X)) → AllByRecursion R acc → AllByRecursion P rows → AllByRecursion R (sorted_into other_cmp other acc rows)
  each-sorted P R turns [] acc before all = before
  each-sorted P R turns (e ∷ es) acc before all = each-sorted P R turns es (put other_cmp acc (other e.0) e.1) (each-put other_cmp other_key other_total R acc (other e.0) e.1 (turns e all.0) before) all.1

  pub length-sorted : (rows : List (K × X)) (acc : List (L × X)) → length (sorted_into other_cmp other acc rows) ≤ length acc + length rows
  length-sorted [] acc = omega arith
  length-sorted (e ∷ es) acc = omega (arith, put-longer other_cmp acc (other e.0) e.1, length-sorted es (put other_cmp acc (other e.0) e.1))

none_rise : {K : Type 0} (X : Type 0) (cmp : K → K → Ordering) → IsRising {X = X} cmp []
unfolding IsStrictlySortedBy
none_rise X cmp = tt

module _ {K L X : Type 0} (cmp : K → K → Ordering) (key : IsKey cmp) (total : IsTotalOrder cmp) (other_cmp : L → L → Ordering) (other_key : IsKey other_cmp) (other_total : IsTotalOrder other_cmp) (other : K → L) (back : L → K) (again : (k : K) → back (other k) ≡ k) (forth : (l : L) → other (back l) ≡ l) where
  pub sorted-back : (rows : List (K × X)) → IsRising cmp rows → sorted_into cmp back [] (sorted_into other_cmp other [] rows) ≡ rows
  sorted-back rows rising = same_rows cmp key total (sorted_into cmp back [] (sorted_into other_cmp other [] rows)) rows
      (rising-sorted cmp key total back (sorted_into other_cmp other [] rows) [] (none_rise X cmp)) rising found
    where
      found : (q : K) → find cmp (sorted_into cmp back [] (sorted_into other_cmp other [] rows)) q ≡ find cmp rows q
      found q = ap (λ (k : K). find cmp (sorted_into cmp back [] (sorted_into other_cmp other [] rows)) k) (sym (again q))
          ∙ find-sorted other_cmp other_key other_total cmp key total back other forth (sorted_into other_cmp other [] rows) [] (other q) (rising-sorted other_cmp other_key other_total other rows [] (none_rise X other_cmp))
          ∙ else_none (find other_cmp (sorted_into other_cmp other [] rows) (other q))
          ∙ find-sorted cmp key total other_cmp other_key other_total other back again rows [] q rising
          ∙ else_none (find cmp rows q)

-- ---- what sessions hold

pub held_total : IsTotalOrder held_cmp
held_total = then_total (on_total (λ (k : List ℕ × ℕ). k.0) nat_list_cmp_total) (on_total (λ (k : List ℕ × ℕ). k.1) nat_cmp_total)

pub held_key : IsKey held_cmp
held_key = record {
  here = λ k. rw (tied_itself nat_list_cmp_total k.0) (tied_itself nat_cmp_total k.1);
  same = λ k q e. let both = then_equal (name_cmp k.0 q.0) (nat_cmp k.1 q.1) e in
      pair_same k q (name_key.same k.0 q.0 both.0) (nat_cmp-IsAntisymmetric k.1 q.1 both.1);
}

pub by_session-by_name : (rows : Holdings) → IsRising holding_cmp rows → by_session (by_name rows) ≡ rows
unfolding by_session by_name
by_session-by_name rows rising = sorted-back holding_cmp holding_key holding_total held_cmp held_key held_total turned turned (λ k. refl) (λ l. refl) rows rising

pub by_name-by_session : (rows : Held) → IsRising held_cmp rows → by_name (by_session rows) ≡ rows
unfolding by_session by_name
by_name-by_session rows rising = sorted-back held_cmp held_key held_total holding_cmp holding_key holding_total turned turned (λ k. refl) (λ l. refl) rows rising

pub by_name-rises : (rows : Holdings) → IsRising held_cmp (by_name rows)
unfolding by_name
by_name-rises rows = rising-sorted held_cmp held_key held_total turned rows [] (none_rise ℕ held_cmp)

pub by_session-rises : (rows : Held) → IsRising holding_cmp (by_session rows)
unfolding by_session
by_session-rises rows = rising-sorted holding_cmp holding_key holding_total turned rows [] (none_rise ℕ holding_cmp)

pub each-by_name : (P : (ℕ × List ℕ) × ℕ → Type 0) (R : (List ℕ × ℕ) × ℕ → Type 0) → ((e : (ℕ × List ℕ) × ℕ) → P e → R ((e.0.1, e.0.0), e.1)) → (rows : Holdings) → AllByRecursion P rows → AllByRecursion R (by_name rows)
unfolding by_name
each-by_name P R turns rows all = each-sorted held_cmp held_key held_total turned P R turns rows [] tt all

pub each-by_session : (P : (List ℕ × ℕ) × ℕ → Type 0) (R : (ℕ × List ℕ) × ℕ → Type 0) → ((e : (List ℕ × ℕ) × ℕ) → P e → R ((e.0.1, e.0.0), e.1)) → (rows : Held) → AllByRecursion P rows → AllByRecursion R (by_session rows)
unfolding by_session
each-by_session P R turns rows all = each-sorted holding_cmp holding_key holding_total turned P R turns rows [] tt all

pub length-by_name : (rows : Holdings) → length (by_name rows) ≤ length rows
unfolding by_name
length-by_name rows = omega (arith, length-sorted held_cmp held_key held_total turned rows [])

pub length-by_session : (rows : Held) → length (by_session rows) ≤ length rows
unfolding by_session
length-by_session rows = omega (arith, length-sorted holding_cmp holding_key holding_total turned rows [])

-- ---- one row after another

pub one_turned : (map next total : Holdings) (name : List ℕ) (session permits : ℕ) (left rest : Held) → next ≡ put holding_cmp map (session, name) permits → left ≡ ((name, session), permits) ∷ rest → sorted_into holding_cmp turned map left ≡ total → sorted_into holding_cmp turned next rest ≡ total
one_turned map next total name session permits left rest is first so_far =
    ap (λ (m : Holdings). sorted_into holding_cmp turned m rest) is ∙ ap (λ (rows : Held). sorted_into holding_cmp turned map rows) (sym first) ∙ so_far

pub all_turned : (map total : Holdings) (left : Held) → left ≡ [] → sorted_into holding_cmp turned map left ≡ total → map ≡ total
all_turned map total left none so_far = ap (λ (rows : Held). sorted_into holding_cmp turned map rows) (sym none) ∙ so_far
