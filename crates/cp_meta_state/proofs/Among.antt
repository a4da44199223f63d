-- Items that are among those of a list.
use Rattle.std.proofs.Common.{◌≡◌, ℕ, Bool, true, false, ◌⊎◌, inl, inr, ◌||◌, List, [], ◌∷◌, Some, None, Option, refl, sym, subst, cond}
use Rattle.std.specs.Prelude.{is_some, ◌==◌}
use Rattle.std.specs.List as list
use Rattle.std.specs.List.{filter, AllByRecursion}
use Rattle.std.specs.Map.{keys_of}
use Rattle.std.specs.Ordering.{nat_cmp}
use Rattle.std.specs.BTreeMap.{is_at}
use Rattle.std.proofs.lemmas.Bool.{eqb-true}
use Rattle.cp_base.proofs.Tests.{no_true}
use Rattle.cp_group_state.specs.Rows.{find}
use Rattle.cp_group_state.proofs.Keyed.{number_key}
use Rattle.cp_group_state.proofs.Walk.{either}
use Rattle.cp_meta_state.specs.MetaState.{is_in}

abbrev pub Among : {X : Type 0} → X → List X → Type 0
Among x [] = ⊥
Among x (y ∷ ys) = (x ≡ y) ⊎ Among x ys

abbrev pub AmongIf : {X : Type 0} → Option X → List X → Type 0
AmongIf None xs = Unit {0}
AmongIf (Some x) xs = Among x xs

module _ {X : Type 0} (P : X → Type 0) where
  pub each-among : (xs : List X) (x : X) → AllByRecursion P xs → Among x xs → P x
  each-among [] x all at = absurd at
  each-among (y ∷ ys) x all (inl same) = subst P (sym same) all.0
  each-among (y ∷ ys) x all (inr behind) = each-among ys x all.1 behind

  pub each-filter : (test : X → Bool) (xs : List X) → AllByRecursion P xs → AllByRecursion P (filter test xs)
  each-filter test [] h = tt
  each-filter test (x ∷ xs) h = either (AllByRecursion P) (test x) (x ∷ filter test xs) (filter test xs) (h.0, each-filter test xs h.1) (each-filter test xs h.1)

  pub each-weaker : (Q : X → Type 0) → ((x : X) → P x → Q x) → (xs : List X) → AllByRecursion P xs → AllByRecursion Q xs
  each-weaker Q f [] h = tt
  each-weaker Q f (x ∷ xs) h = (f x h.0, each-weaker Q f xs h.1)

pub all-among : {X : Type 0} (xs : List X) → AllByRecursion (λ (x : X). Among x xs) xs
all-among [] = tt
all-among {X} (x ∷ xs) = (inl refl, each-weaker (λ (y : X). Among y xs) (λ (y : X). Among y (x ∷ xs)) (λ y h. inr h) xs (all-among xs))

pub found-among : {X : Type 0} (test : X → Bool) (xs : List X) → AmongIf (list.find test xs) xs
found-among test [] = tt
found-among {X} test (x ∷ xs) = by (test x) (list.find test xs) (found-among test xs) where
  by : (b : Bool) (o : Option X) → AmongIf o xs → AmongIf (cond b (Some x) o) (x ∷ xs)
  by true o h = inl refl
  by false None h = tt
  by false (Some y) h = inr h

-- ---- rows under their keys

pub there-among : {X : Type 0} (rows : List (ℕ × X)) (e : ℕ × X) → Among e rows → is_some (find nat_cmp rows e.0) ≡ true
there-among [] e at = absurd at
there-among {X} (x ∷ xs) e (inl same) = subst (λ (f : ℕ × X). is_some (find nat_cmp (x ∷ xs) f.0) ≡ true) (sym same) (rw (number_key.here x.0))
there-among {X} (x ∷ xs) e (inr behind) = either (λ (o : Option X). is_some o ≡ true) (is_at (nat_cmp e.0) x.0) (Some x.1) (find nat_cmp xs e.0) refl (there-among xs e behind)

-- ---- numbers

pub each-key : {X : Type 0} (P : ℕ → Type 0) (rows : List (ℕ × X)) → AllByRecursion (λ (e : ℕ × X). P e.0) rows → AllByRecursion P (keys_of rows)
each-key P [] h = tt
each-key P (e ∷ es) h = (h.0, each-key P es h.1)

pub key-each : {X : Type 0} (P : ℕ → Type 0) (rows : List (ℕ × X)) → AllByRecursion P (keys_of rows) → AllByRecursion (λ (e : ℕ × X). P e.0) rows
key-each P [] h = tt
key-each P (e ∷ es) h = (h.0, key-each P es h.1)

pub each-in : (P : ℕ → Type 0) (ms : List ℕ) (m : ℕ) → is_in ms m ≡ true → AllByRecursion P ms → P m
each-in P [] m h all = absurd (no_true (sym h))
each-in P (a ∷ rest) m h all = by (a == m) refl h (λ later. each-in P rest m later all.1) where
  by : (b : Bool) → (a == m) ≡ b → (b || is_in rest m) ≡ true → (is_in rest m ≡ true → P m) → P m
  by true e h behind = subst P (eqb-true a m e) all.0
  by false e h behind = behind h
