-- Two lists in rising order of their keys that find the same are the same.
use Rattle.std.proofs.Common.{◌≡◌, Bool, true, false, List, [], ◌∷◌, ◌++◌, Option, Some, None, refl, ap, sym, ◌∙◌, cond}
use Rattle.std.specs.declared.cmp.Ordering.{Ordering}
use Rattle.std.specs.declared.cmp.Ordering.TheVariants.{Less, Equal, Greater}
use Rattle.std.specs.Ordering.{is_eq, ordering_reverse}
use Rattle.std.specs.Cmp.{IsTotalOrder}
use Rattle.std.specs.BTreeMap.{is_at}
use Rattle.std.specs.List.{AllByRecursion}
use Rattle.std.specs.List.Sorted.{IsStrictlySortedBy}
use Rattle.std.specs.Map.{keys_of, lookup}
use Rattle.std.proofs.lemmas.Option.{same_Some}
use Rattle.cp_group_state.specs.Rows.{find}
use Rattle.cp_group_state.specs.Invariants.{IsRising}
use Rattle.cp_group_state.proofs.Keyed.{IsKey}
use Rattle.cp_group_state.proofs.Rising.{less-none, above-all}

no_some : {X : Type 0} (x : X) → Some x ≡ None → ⊥
no_some x e = cc

turned : {K : Type 0} (cmp : K → K → Ordering) → IsTotalOrder cmp → (a b : K) → cmp a b ≡ Greater → cmp b a ≡ Less
turned cmp total a b h = total.antisymm b a ∙ ap ordering_reverse h

module _ {K X : Type 0} (cmp : K → K → Ordering) (key : IsKey cmp) (total : IsTotalOrder cmp) where
  find-first : (e : K × X) (es : List (K × X)) → find cmp (e ∷ es) e.0 ≡ Some e.1
  find-first e es = rw (key.here e.0) refl

  -- what the others find, where the first is left out
  tail-find : (e : K × X) (es : List (K × X)) → IsRising cmp (e ∷ es) → (q : K) → find cmp es q ≡ (cond (is_at (cmp q) e.0) None (find cmp (e ∷ es) q))
  unfolding IsStrictlySortedBy
  tail-find e es rises q = by (cmp q e.0) refl
    where
      by : (o : Ordering) → cmp q e.0 ≡ o → find cmp es q ≡ cond (is_eq o) None (cond (is_eq o) (Some e.1) (find cmp es q))
      by Less h = refl
      by Equal h = let same : q ≡ e.0 = key.same q e.0 h in
          ap (λ (k : K). find cmp es k) same ∙ less-none cmp key total e.0 es rises.0
      by Greater h = refl

  tails : (e f : K × X) (es fs : List (K × X)) → IsRising cmp (e ∷ es) → IsRising cmp (f ∷ fs) → e.0 ≡ f.0 → ((q : K) → find cmp (e ∷ es) q ≡ find cmp (f ∷ fs) q) → (q : K) → find cmp es q ≡ find cmp fs q
  tails e f es fs a b same alike q = tail-find e es a q
      ∙ ap (λ (o : Option X). cond (is_at (cmp q) e.0) None o) (alike q)
      ∙ ap (λ (k : K). cond (is_at (cmp q) k) None (find cmp (f ∷ fs) q)) same
      ∙ sym (tail-find f fs b q)

  below : (e : K × X) (f : K × X) (fs : List (K × X)) → IsRising cmp (f ∷ fs) → cmp e.0 f.0 ≡ Less → find cmp (f ∷ fs) e.0 ≡ None
  unfolding IsStrictlySortedBy
  below e f fs rises less = less-none cmp key total e.0 (f ∷ fs) (less, above-all cmp key total e.0 f.0 fs less rises.0)

  pub same_rows : (es fs : List (K × X)) → IsRising cmp es → IsRising cmp fs → ((q : K) → find cmp es q ≡ find cmp fs q) → es ≡ fs
  unfolding IsStrictlySortedBy
  same_rows [] [] a b alike = refl
  same_rows [] (f ∷ fs) a b alike = absurd (no_some f.1 (sym (find-first f fs) ∙ sym (alike f.0)))
  same_rows (e ∷ es) [] a b alike = absurd (no_some e.1 (sym (find-first e es) ∙ alike e.0))
  same_rows (e ∷ es) (f ∷ fs) a b alike = by (cmp e.0 f.0) refl (λ same. same_rows es fs a.1 b.1 (tails e f es fs a b same alike))
    where
      by : (o : Ordering) → cmp e.0 f.0 ≡ o → (e.0 ≡ f.0 → es ≡ fs) → (e ∷ es) ≡ (f ∷ fs)
      by Less h rest = absurd (no_some e.1 (sym (find-first e es) ∙ alike e.0 ∙ below e f fs b h))
      by Greater h rest = absurd (no_some f.1 (sym (find-first f fs) ∙ sym (alike f.0) ∙ below f e es a (turned cmp total e.0 f.0 h)))
      by Equal h rest = let same : e.0 ≡ f.0 = key.same e.0 f.0 h in
          let value : e.1 ≡ f.1 = same_Some e.1 f.1 (sym (find-first e es) ∙ alike e.0 ∙ ap (λ (k : K). find cmp (f ∷ fs) k) same ∙ find-first f fs) in
          λ i. (same i, value i) ∷ rest same i

-- a list behind another
abbrev pub AllBelow : {K X : Type 0} → (K → K → Ordering) → List (K × X) → List (K × X) → Type 0
AllBelow {K} {X} cmp xs ys = AllByRecursion (λ x. AllByRecursion (λ y. cmp x y ≡ Less) (keys_of ys)) (keys_of xs)

module _ {K X : Type 0} (cmp : K → K → Ordering) where
  below-append : (b : K) (xs ys : List (K × X)) → AllByRecursion (λ y. cmp b y ≡ Less) (keys_of xs) → AllByRecursion (λ y. cmp b y ≡ Less) (keys_of ys) → AllByRecursion (λ y. cmp b y ≡ Less) (keys_of (xs ++ ys))
  below-append b [] ys p q = q
  below-append b (x ∷ xs) ys p q = (p.0, below-append b xs ys p.1 q)

  pub rising-append : (xs ys : List (K × X)) → IsRising cmp xs → IsRising cmp ys → AllBelow cmp xs ys → IsRising cmp (xs ++ ys)
  unfolding IsStrictlySortedBy
  rising-append [] ys a b below = b
  rising-append (x ∷ xs) ys a b below = (below-append x.0 xs ys a.0 below.0, rising-append xs ys a.1 b below.1)

abbrev pub or_else : {X : Type 0} → Option X → Option X → Option X
or_else None o = o
or_else (Some x) o = Some x

pub lookup-append : {K X : Type 0} (test : K → Bool) (xs ys : List (K × X)) → lookup test (xs ++ ys) ≡ or_else (lookup test xs) (lookup test ys)
lookup-append test [] ys = refl
lookup-append {K} {X} test (x ∷ xs) ys = by (test x.0) (lookup-append test xs ys)
  where
    by : (b : Bool) → lookup test (xs ++ ys) ≡ or_else (lookup test xs) (lookup test ys) → cond b (Some x.1) (lookup test (xs ++ ys)) ≡ or_else (cond b (Some x.1) (lookup test xs)) (lookup test ys)
    by true rest = refl
    by false rest = rest
