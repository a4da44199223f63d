-- Lists of rows that keep a property, their order and their limit.
use Rattle.std.proofs.Common.{◌≡◌, ℕ, ◌+◌, ◌<◌, ◌≤◌, Bool, true, false, ◌||◌, List, [], ◌∷◌, ◌++◌, map, length, Some, None, Option, refl, ap, sym, ◌∙◌, subst, arith, cond, is_some}
use Rattle.std.specs.Prelude.{nat_lt}
use Rattle.std.specs.declared.cmp.Ordering.{Ordering}
use Rattle.std.specs.declared.cmp.Ordering.TheVariants.{Less, Equal, Greater}
use Rattle.std.specs.Ordering.{match_ordering, is_eq}
use Rattle.std.specs.Cmp.{IsTotalOrder}
use Rattle.std.specs.BTreeMap.{is_at}
use Rattle.std.specs.List.{filter, AllByRecursion}
use Rattle.std.specs.List.Sorted.{IsStrictlySortedBy}
use Rattle.std.specs.Map.{keys_of}
use Rattle.std.proofs.lemmas.Bool.Decides.{nat_tests}
use Rattle.std.proofs.lemmas.Option.{none-some}
use Rattle.cp_base.proofs.Tests.{same_some, no_true}
use Rattle.cp_group_state.specs.Rows.{find, put, without, has_room, most}
use Rattle.cp_group_state.specs.Invariants.{IsRising}
use Rattle.cp_group_state.proofs.Keyed.{IsKey, is_at_apart, equal_is, pair_same, find-put_same, find-put_other}
use Rattle.cp_group_state.proofs.Rising.{rising-put, rising-without, rising-filter, less-none, above-all}
use Rattle.cp_group_state.proofs.Walk.{either}
use Rattle.cp_group_state.proofs.Ordered.{keys-map}

-- ---- lists

module _ {X : Type 0} (P : X → Type 0) where
  pub each-append : (xs ys : List X) → AllByRecursion P xs → AllByRecursion P ys → AllByRecursion P (xs ++ ys)
  each-append [] ys h k = k
  each-append (x ∷ xs) ys h k = (h.0, each-append xs ys h.1 k)

  pub each-filter : (test : X → Bool) (xs : List X) → AllByRecursion P xs → AllByRecursion P (filter test xs)
  each-filter test [] h = tt
  each-filter test (x ∷ xs) h = either (AllByRecursion P) (test x) (x ∷ filter test xs) (filter test xs) (h.0, each-filter test xs h.1) (each-filter test xs h.1)

  pub each-weaker : (Q : X → Type 0) → ((x : X) → P x → Q x) → (xs : List X) → AllByRecursion P xs → AllByRecursion Q xs
  each-weaker Q f [] h = tt
  each-weaker Q f (x ∷ xs) h = (f x h.0, each-weaker Q f xs h.1)

  pub each-map : {Y : Type 0} (f : Y → X) (ys : List Y) → AllByRecursion (λ (y : Y). P (f y)) ys → AllByRecursion P (map f ys)
  each-map f [] h = tt
  each-map f (y ∷ ys) h = (h.0, each-map f ys h.1)

pub each-both : {X : Type 0} (P Q : X → Type 0) (xs : List X) → AllByRecursion P xs → AllByRecursion Q xs → AllByRecursion (λ (x : X). P x × Q x) xs
each-both P Q [] h k = tt
each-both P Q (x ∷ xs) h k = ((h.0, k.0), each-both P Q xs h.1 k.1)

pub shorter-filter : {X : Type 0} (test : X → Bool) (xs : List X) → length (filter test xs) ≤ length xs
shorter-filter test [] = omega arith
shorter-filter {X} test (x ∷ xs) = either (λ (ys : List X). length ys ≤ length (x ∷ xs)) (test x) (x ∷ filter test xs) (filter test xs)
    (let rest = shorter-filter test xs in omega (arith, rest)) (let rest = shorter-filter test xs in omega (arith, rest))

pub same-length : {X Y : Type 0} (f : X → Y) (xs : List X) → length (map f xs) ≡ length xs
same-length f [] = refl
same-length f (x ∷ xs) = let rest = same-length f xs in omega (arith, rest)

-- ---- tests

pub test_less : (a b : ℕ) → nat_lt a b ≡ true → a < b
test_less a b h = grind (arith, nat_tests)

pub or-right : (a b : Bool) → b ≡ true → (a || b) ≡ true
or-right true b e = refl
or-right false b e = e

-- ---- rows

module _ {K X : Type 0} (cmp : K → K → Ordering) (key : IsKey cmp) (total : IsTotalOrder cmp) where
  pub each-put : (P : K × X → Type 0) (rows : List (K × X)) (k : K) (x : X) → P (k, x) → AllByRecursion P rows → AllByRecursion P (put cmp rows k x)
  each-put P [] k x p h = (p, tt)
  each-put P (e ∷ es) k x p h = by (each-put P es k x p h.1) (cmp k e.0) refl
    where
      by : AllByRecursion P (put cmp es k x) → (o : Ordering) → cmp k e.0 ≡ o → AllByRecursion P (match_ordering o ((k, x) ∷ e ∷ es) ((e.0, x) ∷ es) (e ∷ put cmp es k x))
      by rest Less i = (p, h)
      by rest Equal i = (subst (λ (j : K). P (j, x)) (key.same k e.0 i) p, h.1)
      by rest Greater i = (h.0, rest)

  pub each-without : (P : K × X → Type 0) (rows : List (K × X)) (k : K) → AllByRecursion P rows → AllByRecursion P (without cmp rows k)
  each-without P [] k h = tt
  each-without P (e ∷ es) k h = either (AllByRecursion P) (is_at (cmp k) e.0) es (e ∷ without cmp es k) h.1 (h.0, each-without P es k h.1)

  -- the row that is found under a key
  pub each-find : (P : K × X → Type 0) (rows : List (K × X)) (k : K) (x : X) → AllByRecursion P rows → find cmp rows k ≡ Some x → P (k, x)
  each-find P [] k x h is = absurd (none-some x is)
  each-find P (e ∷ es) k x h is = by (cmp k e.0) refl is (each-find P es k x h.1)
    where
      by : (o : Ordering) → cmp k e.0 ≡ o → cond (is_eq o) (Some e.1) (find cmp es k) ≡ Some x → (find cmp es k ≡ Some x → P (k, x)) → P (k, x)
      by Less i is rest = rest is
      by Equal i is rest = subst P (pair_same e (k, x) (sym (key.same k e.0 i)) (same_some is)) h.0
      by Greater i is rest = rest is

  longer-put : (rows : List (K × X)) (k : K) (x : X) → length (put cmp rows k x) ≤ length rows + 1
  longer-put [] k x = omega arith
  longer-put (e ∷ es) k x = by (longer-put es k x) (cmp k e.0)
    where
      by : length (put cmp es k x) ≤ length es + 1 → (o : Ordering) → length (match_ordering o ((k, x) ∷ e ∷ es) ((e.0, x) ∷ es) (e ∷ put cmp es k x)) ≤ length (e ∷ es) + 1
      by rest Less = omega arith
      by rest Equal = omega arith
      by rest Greater = omega (arith, rest)

  pub same-put : (rows : List (K × X)) (k : K) (x : X) → IsRising cmp rows → is_some (find cmp rows k) ≡ true → length (put cmp rows k x) ≡ length rows
  unfolding IsStrictlySortedBy
  same-put [] k x r there = absurd (no_true (sym there))
  same-put (e ∷ es) k x r there = by (same-put es k x r.1) (cmp k e.0) refl there
    where
      by : (is_some (find cmp es k) ≡ true → length (put cmp es k x) ≡ length es) → (o : Ordering) → cmp k e.0 ≡ o → is_some (cond (is_eq o) (Some e.1) (find cmp es k)) ≡ true
          → length (match_ordering o ((k, x) ∷ e ∷ es) ((e.0, x) ∷ es) (e ∷ put cmp es k x)) ≡ length (e ∷ es)
      by rest Less i there = absurd (no_true (sym there ∙ ap is_some (less-none cmp key total k es (above-all cmp key total k e.0 es i r.0))))
      by rest Equal i there = refl
      by rest Greater i there = let more = rest there in omega (arith, more)

  shorter-without : (rows : List (K × X)) (k : K) → length (without cmp rows k) ≤ length rows
  shorter-without [] k = omega arith
  shorter-without (e ∷ es) k = either (λ (r : List (K × X)). length r ≤ length (e ∷ es)) (is_at (cmp k) e.0) es (e ∷ without cmp es k)
      (omega arith) (let rest = shorter-without es k in omega (arith, rest))

  -- a row that is there stays so
  pub found-put : (rows : List (K × X)) (k q : K) (x : X) → is_some (find cmp rows q) ≡ true → is_some (find cmp (put cmp rows k x) q) ≡ true
  found-put rows k q x h = at (is_at (cmp q) k) refl
    where
      at : (c : Bool) → is_at (cmp q) k ≡ c → is_some (find cmp (put cmp rows k x) q) ≡ true
      at true e = let same : q ≡ k = key.same q k (equal_is _ e) in
          subst (λ (j : K). is_some (find cmp (put cmp rows k x) j) ≡ true) (sym same) (ap is_some (find-put_same cmp key rows k x))
      at false e = ap is_some (find-put_other cmp key rows k q x e) ∙ h

  pub found-map : (f : K × X → X) (rows : List (K × X)) (q : K) → is_some (find cmp rows q) ≡ true → is_some (find cmp (map (λ e. (e.0, f e)) rows) q) ≡ true
  found-map f [] q h = h
  found-map f (e ∷ es) q h = by (is_at (cmp q) e.0) h (found-map f es q)
    where
      by : (c : Bool) → is_some (cond c (Some e.1) (find cmp es q)) ≡ true → (is_some (find cmp es q) ≡ true → is_some (find cmp (map (λ e. (e.0, f e)) es) q) ≡ true)
          → is_some (cond c (Some (f e)) (find cmp (map (λ e. (e.0, f e)) es) q)) ≡ true
      by true h rest = refl
      by false h rest = rest h

  -- each row is found under its key
  pub each-found : (rows : List (K × X)) → AllByRecursion (λ (e : K × X). is_some (find cmp rows e.0) ≡ true) rows
  each-found [] = tt
  each-found (e ∷ es) = (
    rw (key.here e.0),
    each-weaker (λ (f : K × X). is_some (find cmp es f.0) ≡ true) (λ (f : K × X). is_some (find cmp (e ∷ es) f.0) ≡ true)
        (λ f h. either (λ (o : Option X). is_some o ≡ true) (is_at (cmp f.0) e.0) (Some e.1) (find cmp es f.0) refl h) es (each-found es),
  )

  pub keys-each : (Q : K → Type 0) (rows : List (K × X)) → AllByRecursion Q (keys_of rows) → AllByRecursion (λ (e : K × X). Q e.0) rows
  keys-each Q [] h = tt
  keys-each Q (e ∷ es) h = (h.0, keys-each Q es h.1)

  -- in order each row is the one that is found under its key
  pub each-own : (rows : List (K × X)) → IsRising cmp rows → AllByRecursion (λ (e : K × X). find cmp rows e.0 ≡ Some e.1) rows
  unfolding IsStrictlySortedBy
  each-own [] r = tt
  each-own (e ∷ es) r = (
    rw (key.here e.0),
    each-weaker (λ (f : K × X). (cmp e.0 f.0 ≡ Less) × (find cmp es f.0 ≡ Some f.1)) (λ (f : K × X). find cmp (e ∷ es) f.0 ≡ Some f.1)
        (λ f p. above f p.0 p.1) es (each-both (λ (f : K × X). cmp e.0 f.0 ≡ Less) (λ (f : K × X). find cmp es f.0 ≡ Some f.1) es (keys-each (λ (k : K). cmp e.0 k ≡ Less) es r.0) (each-own es r.1)),
  )
    where
      less_equal : Less ≡ Equal → ⊥
      less_equal e = cc

      above : (f : K × X) → cmp e.0 f.0 ≡ Less → find cmp es f.0 ≡ Some f.1 → find cmp (e ∷ es) f.0 ≡ Some f.1
      above f less is = let far : is_at (cmp f.0) e.0 ≡ false = is_at_apart cmp key f.0 e.0 (λ same. less_equal (sym less ∙ ap (λ (k : K). cmp e.0 k) same ∙ key.here e.0)) in rw far is

-- ---- rows that keep all three

pub record Kept {K X : Type 0} (cmp : K → K → Ordering) (P : K × X → Type 0) (rows : List (K × X)) : Type 0 where
  pub all : AllByRecursion P rows
  pub rising : IsRising cmp rows
  pub few : length rows ≤ most

module _ {K X : Type 0} (cmp : K → K → Ordering) (key : IsKey cmp) (total : IsTotalOrder cmp) (P : K × X → Type 0) where
  pub kept-put : (rows : List (K × X)) (k : K) (x : X) → has_room cmp most rows k ≡ true → P (k, x) → Kept cmp P rows → Kept cmp P (put cmp rows k x)
  kept-put rows k x room p h = record {
    all = each-put cmp key total P rows k x p h.all;
    rising = rising-put cmp key total rows k x h.rising;
    few = at (is_some (find cmp rows k)) refl room;
  }
    where
      at : (b : Bool) → is_some (find cmp rows k) ≡ b → (b || nat_lt (length rows) most) ≡ true → length (put cmp rows k x) ≤ most
      at true e room = let same = same-put cmp key total rows k x h.rising e in let few = h.few in omega (arith, same, few)
      at false e room = let less = test_less (length rows) most room in let longer = longer-put cmp key total rows k x in omega (arith, less, longer)

  -- a row that is there has room
  pub kept-there : (rows : List (K × X)) (k : K) (x : X) → is_some (find cmp rows k) ≡ true → P (k, x) → Kept cmp P rows → Kept cmp P (put cmp rows k x)
  kept-there rows k x there p h = kept-put rows k x (rw there) p h

  pub kept-without : (rows : List (K × X)) (k : K) → Kept cmp P rows → Kept cmp P (without cmp rows k)
  kept-without rows k h = record {
    all = each-without cmp key total P rows k h.all;
    rising = rising-without cmp key total rows k h.rising;
    few = let shorter = shorter-without cmp key total rows k in let few = h.few in omega (arith, shorter, few);
  }

  pub kept-filter : (test : K × X → Bool) (rows : List (K × X)) → Kept cmp P rows → Kept cmp P (filter test rows)
  kept-filter test rows h = record {
    all = each-filter P test rows h.all;
    rising = rising-filter cmp key total test rows h.rising;
    few = let shorter = shorter-filter test rows in let few = h.few in omega (arith, shorter, few);
  }

  pub kept-map : (f : K × X → X) → ((e : K × X) → P e → P (e.0, f e)) → (rows : List (K × X)) → Kept cmp P rows → Kept cmp P (map (λ e. (e.0, f e)) rows)
  kept-map f keeps rows h = record {
    all = each-map P (λ e. (e.0, f e)) rows (each-weaker P (λ e. P (e.0, f e)) keeps rows h.all);
    rising = subst (IsStrictlySortedBy cmp) (sym (keys-map f rows)) h.rising;
    few = let same = same-length {Y = K × X} (λ (e : K × X). (e.0, f e)) rows in let few = h.few in omega (arith, same, few);
  }

  -- what a row says where it is found, and what is said where it isn't
  pub kept-or : {Y : Type 0} (Q : Y → Type 0) (rows : List (K × X)) (k : K) → Kept cmp P rows → (or : Option X → Y) → Q (or None) → ((x : X) → P (k, x) → Q (or (Some x))) → Q (or (find cmp rows k))
  kept-or Q rows k h or none some = at (find cmp rows k) refl
    where
      at : (o : Option X) → find cmp rows k ≡ o → Q (or o)
      at None e = none
      at (Some x) e = some x (each-find cmp key total P rows k x h.all e)
