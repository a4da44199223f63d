-- Lists that grow at the end, and what a history gives after each entry.
use Rattle.std.proofs.Common.{◌≡◌, ℕ, ◌+◌, ◌<◌, ◌≤◌, ◌⊎◌, inl, inr, List, [], ◌∷◌, ◌++◌, Some, None, refl, sym, subst, arith, map, length, ap, zero, suc}
use Rattle.std.specs.Prelude.{All, Contains, slice_get}
use Rattle.std.specs.declared.cmp.Ordering.{Ordering}
use Rattle.std.specs.declared.cmp.Ordering.TheVariants.{Less, Equal, Greater}
use Rattle.std.specs.Ordering.{match_ordering}
use Rattle.std.specs.BTreeMap.{is_at}
use Rattle.std.proofs.Common.{Bool, true, false, if◌then◌else◌}
use Rattle.std.proofs.lemmas.List.Elements.{All-cons, All-head, All-tail, All-weaker}
use Rattle.std.proofs.lemmas.List.{map-append}
use Rattle.cp_base.proofs.Tests.{none_some}
use Rattle.cp_ops.specs.declared.entry.Entry.{Entry}
use Rattle.cp_group_state.specs.GroupState.{GroupState}
use Rattle.cp_group_state.specs.Apply.{apply, run}
use Rattle.cp_group_state.specs.History.{IsOrderlyAt, IsOrderlyFrom}
use Rattle.cp_group_state.specs.Rows.{find, put, without}
use Rattle.cp_group_state.proofs.Keyed.{IsKey, equal_is}
use Rattle.cp_group_state.proofs.Walk.{either}
use Rattle.cp_group_causes.proofs.Lists.{no-element, one-only}
use Rattle.cp_group_causes.specs.Moments.{state_after}
use Rattle.cp_world_rules.specs.Rows.{Committed, entries_of}

-- the state after these entries
abbrev pub all_after : ℕ → List Entry → GroupState → GroupState
all_after i [] s = s
all_after i (e ∷ es) s = all_after (i + 1) es (apply i e s).state

pub after-one_more : (i j : ℕ) (es : List Entry) (e : Entry) (s : GroupState) → j ≡ i + length es → all_after i (es ++ e ∷ []) s ≡ (apply j e (all_after i es s)).state
after-one_more i j [] e s h = let same : i ≡ j = omega (arith, h) in ap (λ k. (apply k e s).state) same
after-one_more i j (x ∷ es) e s h = after-one_more (i + 1) j es e (apply i x s).state (omega (arith, h))

pub orderly-one_more : (i j : ℕ) (es : List Entry) (e : Entry) (s : GroupState) → j ≡ i + length es → IsOrderlyFrom i es s → IsOrderlyAt j e (all_after i es s) → IsOrderlyFrom i (es ++ e ∷ []) s
orderly-one_more i j [] e s h old at = let same : j ≡ i = omega (arith, h) in (subst (λ k. IsOrderlyAt k e s) same at, tt)
orderly-one_more i j (x ∷ es) e s h old at = (old.0, orderly-one_more (i + 1) j es e (apply i x s).state (omega (arith, h)) old.1 at)

pub run-one_more : (i j : ℕ) (es : List Entry) (e : Entry) (s : GroupState) → j ≡ i + length es → run i (es ++ e ∷ []) s ≡ run i es s ++ apply j e (all_after i es s) ∷ []
run-one_more i j [] e s h = let same : i ≡ j = omega (arith, h) in ap (λ k. apply k e s ∷ []) same
run-one_more i j (x ∷ es) e s h = ap (λ rest. apply i x s ∷ rest) (run-one_more (i + 1) j es e (apply i x s).state (omega (arith, h)))

pub run-length : (i : ℕ) (es : List Entry) (s : GroupState) → length (run i es s) ≡ length es
run-length i [] s = refl
run-length i (e ∷ es) s = ap suc (run-length (i + 1) es (apply i e s).state)

-- a moment of a front is one of the whole
pub moment-front : (n i : ℕ) (es more : List Entry) (s : GroupState) → n ≤ length es → state_after n i (es ++ more) s ≡ state_after n i es s
moment-front zero i es more s l = refl
moment-front (suc n) i [] more s l = absurd (omega (arith, l))
moment-front (suc n) i (e ∷ es) more s l = moment-front n (i + 1) es more (apply i e s).state (omega (arith, l))

pub moment-last : (n i : ℕ) (es : List Entry) (s : GroupState) → n ≡ length es → state_after n i es s ≡ all_after i es s
moment-last zero i [] s l = refl
moment-last zero i (e ∷ es) s l = absurd (omega (arith, l))
moment-last (suc n) i [] s l = absurd (omega (arith, l))
moment-last (suc n) i (e ∷ es) s l = moment-last n (i + 1) es (apply i e s).state (omega (arith, l))

-- an element of two lists together
pub get-append : {X : Type 0} (xs ys : List X) (j : ℕ) (a : X) → slice_get (xs ++ ys) j ≡ Some a → ((slice_get xs j ≡ Some a) × (j < length xs)) ⊎ ((k : ℕ) × (j ≡ length xs + k) × (slice_get ys k ≡ Some a))
get-append [] ys j a h = inr (j, omega arith, h)
get-append (x ∷ xs) ys zero a h = inl (h, omega arith)
get-append {X} (x ∷ xs) ys (suc j) a h = at (get-append xs ys j a h) where
  at : ((slice_get xs j ≡ Some a) × (j < length xs)) ⊎ ((k : ℕ) × (j ≡ length xs + k) × (slice_get ys k ≡ Some a)) → ((slice_get (x ∷ xs) (suc j) ≡ Some a) × (suc j < length (x ∷ xs))) ⊎ ((k : ℕ) × (suc j ≡ length (x ∷ xs) + k) × (slice_get ys k ≡ Some a))
  at (inl r) = let l = r.1 in inl (r.0, omega (arith, l))
  at (inr r) = let e = r.1 in inr (r.0, omega (arith, e), r.2)

-- the one element of a list
pub one-there : {X : Type 0} (x : X) (k : ℕ) (y : X) → slice_get (x ∷ []) k ≡ Some y → (k ≡ 0) × (x ≡ y)
one-there {X} x zero y e = (refl, some e) where
  some : Some x ≡ Some y → x ≡ y
  some k = cc
one-there {X} x (suc k) y e = absurd (no e) where
  no : None ≡ Some y → ⊥
  no f = cc

-- an element that a list contains stands at a place
pub get-some : {X : Type 0} (xs : List X) (x : X) → Contains xs x → (k : ℕ) × (slice_get xs k ≡ Some x)
get-some [] x h = absurd (no-element x h)
get-some {X} (y ∷ xs) x h = at (one-only y x xs h) (get-some xs x) where
  at : (x ≡ y) ⊎ Contains xs x → (Contains xs x → (k : ℕ) × (slice_get xs k ≡ Some x)) → (k : ℕ) × (slice_get (y ∷ xs) k ≡ Some x)
  at (inl e) rest = (0, ap Some (sym e))
  at (inr there) rest = let r = rest there in (suc r.0, r.1)

pub get-map : {X Y : Type 0} (f : X → Y) (xs : List X) (k : ℕ) (y : Y) → slice_get (map f xs) k ≡ Some y → (x : X) × (slice_get xs k ≡ Some x) × (y ≡ f x)
get-map f [] k y h = absurd (no h) where
  no : None ≡ Some y → ⊥
  no e = cc
get-map f (x ∷ xs) zero y h = (x, refl, same h) where
  same : Some (f x) ≡ Some y → y ≡ f x
  same e = cc
get-map f (x ∷ xs) (suc k) y h = get-map f xs k y h

pub push-none : {X : Type 0} (xs ys : List X) → ys ≡ [] → xs ++ ys ≡ xs
push-none [] ys e = e
push-none (x ∷ xs) ys e = ap (λ rest. x ∷ rest) (push-none xs ys e)

-- an element of what stands behind, and one of the front
pub get-right : {X : Type 0} (xs ys : List X) (k j : ℕ) (y : X) → j ≡ length xs + k → slice_get ys k ≡ Some y → slice_get (xs ++ ys) j ≡ Some y
get-right [] ys k j y e h = subst (λ n. slice_get ys n ≡ Some y) (sym (same j k e)) h where
  same : (a b : ℕ) → a ≡ 0 + b → a ≡ b
  same a b e = omega (arith, e)
get-right (x ∷ xs) ys k zero y e h = absurd (omega (arith, e))
get-right (x ∷ xs) ys k (suc j) y e h = get-right xs ys k j y (omega (arith, e)) h

pub get-left-at : {X : Type 0} (xs ys : List X) (k : ℕ) (x : X) → slice_get xs k ≡ Some x → slice_get (xs ++ ys) k ≡ Some x
get-left-at [] ys k x h = absurd (none_some h)
get-left-at (y ∷ xs) ys zero x h = h
get-left-at (y ∷ xs) ys (suc k) x h = get-left-at xs ys k x h

-- entries
pub entries-more : (history more : List Committed) → entries_of (history ++ more) ≡ entries_of history ++ entries_of more
entries-more history more = map-append (λ (c : Committed). c.entry) history more

pub entries-length : (history : List Committed) → length (entries_of history) ≡ length history
entries-length [] = refl
entries-length (c ∷ history) = ap suc (entries-length history)

-- what holds of all rows under keys
module _ {K X : Type 0} (cmp : K → K → Ordering) (key : IsKey cmp) (P : K → X → Type 0) where
  abbrev pub AllRows : List (K × X) → Type 0
  AllRows rows = All (λ (e : K × X). P e.0 e.1) rows

  pub rows-put : (rows : List (K × X)) (k : K) (x : X) → P k x → AllRows rows → AllRows (put cmp rows k x)
  rows-put [] k x p all = All-cons (λ (e : K × X). P e.0 e.1) (k, x) [] p all
  rows-put (e ∷ es) k x p all = by (rows-put es k x p tail) (cmp k e.0) refl where
    tail : AllRows es
    tail = All-tail (λ (e : K × X). P e.0 e.1) e es all

    head : P e.0 e.1
    head = All-head (λ (e : K × X). P e.0 e.1) e es all

    by : AllRows (put cmp es k x) → (o : Ordering) → cmp k e.0 ≡ o → AllRows (match_ordering o ((k, x) ∷ e ∷ es) ((e.0, x) ∷ es) (e ∷ put cmp es k x))
    by rest Less is = All-cons (λ (e : K × X). P e.0 e.1) (k, x) (e ∷ es) p all
    by rest Equal is = All-cons (λ (e : K × X). P e.0 e.1) (e.0, x) es (subst (λ q. P q x) (key.same k e.0 is) p) tail
    by rest Greater is = All-cons (λ (e : K × X). P e.0 e.1) e (put cmp es k x) head rest

  pub rows-without : (rows : List (K × X)) (k : K) → AllRows rows → AllRows (without cmp rows k)
  rows-without [] k all = all
  rows-without (e ∷ es) k all = either AllRows (is_at (cmp k) e.0) _ _ tail (All-cons (λ (e : K × X). P e.0 e.1) e (without cmp es k) (All-head (λ (e : K × X). P e.0 e.1) e es all) (rows-without es k tail)) where
    tail : AllRows es
    tail = All-tail (λ (e : K × X). P e.0 e.1) e es all

  pub rows-find : (rows : List (K × X)) (k : K) (x : X) → find cmp rows k ≡ Some x → AllRows rows → P k x
  rows-find [] k x is all = absurd (no is) where
    no : None ≡ Some x → ⊥
    no e = cc
  rows-find (e ∷ es) k x is all = by (is_at (cmp k) e.0) refl is (λ y. rows-find es k x y (All-tail (λ (e : K × X). P e.0 e.1) e es all)) where
    by : (b : Bool) → is_at (cmp k) e.0 ≡ b → (if b then Some e.1 else find cmp es k) ≡ Some x → (find cmp es k ≡ Some x → P k x) → P k x
    by true t is rest = subst (λ q. P q x) (sym (key.same k e.0 (equal_is _ t))) (subst (λ y. P e.0 y) (same is) (All-head (λ (e : K × X). P e.0 e.1) e es all)) where
      same : Some e.1 ≡ Some x → e.1 ≡ x
      same r = cc
    by false t is rest = rest is

  pub rows-weaker : (Q : K → X → Type 0) (rows : List (K × X)) → ((k : K) (x : X) → P k x → Q k x) → AllRows rows → All (λ (e : K × X). Q e.0 e.1) rows
  rows-weaker Q rows f all = All-weaker (λ (e : K × X). P e.0 e.1) (λ (e : K × X). Q e.0 e.1) (λ e h. f e.0 e.1 h) rows all
