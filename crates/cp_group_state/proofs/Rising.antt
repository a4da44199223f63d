-- Lists of rows stay in rising order of their keys.
use Rattle.std.proofs.Common.{◌≡◌, Bool, true, false, List, [], ◌∷◌, Some, None, refl, ap, sym, ◌∙◌, cond}
use Rattle.std.specs.declared.cmp.Ordering.{Ordering}
use Rattle.std.specs.declared.cmp.Ordering.TheVariants.{Less, Equal, Greater}
use Rattle.std.specs.Ordering.{match_ordering, is_eq, ordering_reverse}
use Rattle.std.specs.Cmp.{IsTotalOrder}
use Rattle.std.specs.BTreeMap.{is_at}
use Rattle.std.specs.List.{filter, AllByRecursion}
use Rattle.std.specs.Map.{keys_of, set_value}
use Rattle.std.specs.List.Sorted.{IsStrictlySortedBy}
use Rattle.cp_group_state.specs.Rows.{find, put, without}
use Rattle.cp_group_state.proofs.Keyed.{IsKey}

-- the keys rise
abbrev pub Rising : {K X : Type 0} → (K → K → Ordering) → List (K × X) → Type 0
Rising cmp rows = IsStrictlySortedBy cmp (keys_of rows)

turned : {K : Type 0} (cmp : K → K → Ordering) (total : IsTotalOrder cmp) (k b : K) → cmp k b ≡ Greater → cmp b k ≡ Less
turned cmp total k b h = total.antisymm b k ∙ ap ordering_reverse h

module _ {K X : Type 0} (cmp : K → K → Ordering) (key : IsKey cmp) (total : IsTotalOrder cmp) where
  above-put : (b : K) (rows : List (K × X)) (k : K) (x : X) → cmp b k ≡ Less → AllByRecursion (λ y. cmp b y ≡ Less) (keys_of rows) → AllByRecursion (λ y. cmp b y ≡ Less) (keys_of (put cmp rows k x))
  above-put b [] k x l all = (l, tt)
  above-put b (e ∷ es) k x l all = by (above-put b es k x l all.1) (cmp k e.0) where
    by : AllByRecursion (λ y. cmp b y ≡ Less) (keys_of (put cmp es k x)) → (o : Ordering) → AllByRecursion (λ y. cmp b y ≡ Less) (keys_of (match_ordering o ((k, x) ∷ e ∷ es) ((e.0, x) ∷ es) (e ∷ put cmp es k x)))
    by rest Less = (l, all)
    by rest Equal = all
    by rest Greater = (all.0, rest)

  pub above-all : (a b : K) (rows : List (K × X)) → cmp a b ≡ Less → AllByRecursion (λ y. cmp b y ≡ Less) (keys_of rows) → AllByRecursion (λ y. cmp a y ≡ Less) (keys_of rows)
  above-all a b [] l all = tt
  above-all a b (e ∷ es) l all = (total.trans a b e.0 l all.0, above-all a b es l all.1)

  pub rising-put : (rows : List (K × X)) (k : K) (x : X) → Rising cmp rows → Rising cmp (put cmp rows k x)
  unfolding IsStrictlySortedBy
  rising-put [] k x h = (tt, tt)
  rising-put (e ∷ es) k x h = by (rising-put es k x h.1) (cmp k e.0) refl where
    by : Rising cmp (put cmp es k x) → (o : Ordering) → cmp k e.0 ≡ o → Rising cmp (match_ordering o ((k, x) ∷ e ∷ es) ((e.0, x) ∷ es) (e ∷ put cmp es k x))
    by rest Less i = ((i, above-all k e.0 es i h.0), h)
    by rest Equal i = h
    by rest Greater i = (above-put e.0 es k x (turned cmp total k e.0 i) h.0, rest)

  above-without : (b : K) (rows : List (K × X)) (k : K) → AllByRecursion (λ y. cmp b y ≡ Less) (keys_of rows) → AllByRecursion (λ y. cmp b y ≡ Less) (keys_of (without cmp rows k))
  above-without b [] k all = tt
  above-without b (e ∷ es) k all = by (above-without b es k all.1) (is_at (cmp k) e.0) where
    by : AllByRecursion (λ y. cmp b y ≡ Less) (keys_of (without cmp es k)) → (c : Bool) → AllByRecursion (λ y. cmp b y ≡ Less) (keys_of (cond c es (e ∷ without cmp es k)))
    by rest true = all.1
    by rest false = (all.0, rest)

  pub rising-without : (rows : List (K × X)) (k : K) → Rising cmp rows → Rising cmp (without cmp rows k)
  unfolding IsStrictlySortedBy
  rising-without [] k h = tt
  rising-without (e ∷ es) k h = by (rising-without es k h.1) (is_at (cmp k) e.0) where
    by : Rising cmp (without cmp es k) → (c : Bool) → Rising cmp (cond c es (e ∷ without cmp es k))
    by rest true = h.1
    by rest false = (above-without e.0 es k h.0, rest)

  above-filter : (test : K × X → Bool) (b : K) (rows : List (K × X)) → AllByRecursion (λ y. cmp b y ≡ Less) (keys_of rows) → AllByRecursion (λ y. cmp b y ≡ Less) (keys_of (filter test rows))
  above-filter test b [] all = tt
  above-filter test b (e ∷ es) all = by (above-filter test b es all.1) (test e) where
    by : AllByRecursion (λ y. cmp b y ≡ Less) (keys_of (filter test es)) → (c : Bool) → AllByRecursion (λ y. cmp b y ≡ Less) (keys_of (cond c (e ∷ filter test es) (filter test es)))
    by rest true = (all.0, rest)
    by rest false = rest

  pub rising-filter : (test : K × X → Bool) (rows : List (K × X)) → Rising cmp rows → Rising cmp (filter test rows)
  unfolding IsStrictlySortedBy
  rising-filter test [] h = tt
  rising-filter test (e ∷ es) h = by (rising-filter test es h.1) (test e) where
    by : Rising cmp (filter test es) → (c : Bool) → Rising cmp (cond c (e ∷ filter test es) (filter test es))
    by rest true = (above-filter test e.0 es h.0, rest)
    by rest false = rest

  none-above : (b k : K) (rows : List (K × X)) → cmp k b ≡ Equal → AllByRecursion (λ y. cmp b y ≡ Less) (keys_of rows) → find cmp rows k ≡ None
  none-above b k [] e all = refl
  none-above b k (f ∷ fs) e all = let less : cmp k f.0 ≡ Less = total.congr k b f.0 e ∙ all.0 in rw less (none-above b k fs e all.1)

  -- a row that is taken out is gone
  pub find-without_same : (rows : List (K × X)) (k : K) → Rising cmp rows → find cmp (without cmp rows k) k ≡ None
  unfolding IsStrictlySortedBy
  find-without_same [] k h = refl
  find-without_same (e ∷ es) k h = by (find-without_same es k h.1) (cmp k e.0) refl where
    by : find cmp (without cmp es k) k ≡ None → (o : Ordering) → cmp k e.0 ≡ o → find cmp (cond (is_eq o) es (e ∷ without cmp es k)) k ≡ None
    by rest Equal i = none-above e.0 k es i h.0
    by rest Less i = rw i rest
    by rest Greater i = rw i rest

  pub less-none : (k : K) (rows : List (K × X)) → AllByRecursion (λ y. cmp k y ≡ Less) (keys_of rows) → find cmp rows k ≡ None
  less-none k [] all = refl
  less-none k (f ∷ fs) all = rw all.0 (less-none k fs all.1)

  -- a row that is there is put by a write
  pub put-there : (rows : List (K × X)) (k : K) (old x : X) → Rising cmp rows → find cmp rows k ≡ Some old → set_value (is_at (cmp k)) rows x ≡ put cmp rows k x
  unfolding IsStrictlySortedBy
  put-there [] k old x h there = cc
  put-there (e ∷ es) k old x h there = by (put-there es k old x h.1) (cmp k e.0) refl there where
    none_some : None ≡ Some old → ⊥
    none_some e = cc

    by : (find cmp es k ≡ Some old → set_value (is_at (cmp k)) es x ≡ put cmp es k x) → (o : Ordering) → cmp k e.0 ≡ o → cond (is_eq o) (Some e.1) (find cmp es k) ≡ Some old
        → cond (is_eq o) ((e.0, x) ∷ es) (e ∷ set_value (is_at (cmp k)) es x) ≡ match_ordering o ((k, x) ∷ e ∷ es) ((e.0, x) ∷ es) (e ∷ put cmp es k x)
    by rest Less i there = absurd (none_some (sym (less-none k es (above-all k e.0 es i h.0)) ∙ there))
    by rest Equal i there = refl
    by rest Greater i there = ap (λ (r : List (K × X)). e ∷ r) (rest there)
