-- Lists, and what they contain.
use Rattle.std.proofs.Common.{◌≡◌, ℕ, ◌+◌, ◌<◌, ◌⊎◌, inl, inr, List, [], ◌∷◌, ◌++◌, Some, None, refl, sym, subst, arith, map, length, zero, suc}
use Rattle.std.specs.Prelude.{Contains, slice_get}
use Rattle.std.proofs.lemmas.List.Elements.{Contains-append_left, Contains-append_right, Contains-append_cases, Contains-push, Contains-push_cases}

pub no-element : {X : Type 0} (x : X) → Contains [] x → ⊥
no-element x h = let l = h.1 in absurd (omega arith)

pub one-is : {X : Type 0} (x y : X) → Contains (x ∷ []) y → y ≡ x
one-is x y h = at (Contains-push_cases [] x y h) where
  at : Contains [] y ⊎ (x ≡ y) → y ≡ x
  at (inl k) = absurd (no-element y k)
  at (inr e) = sym e

pub one-only : {X : Type 0} (x y : X) (xs : List X) → Contains (x ∷ xs) y → (y ≡ x) ⊎ Contains xs y
one-only x y xs h = at (Contains-append_cases (x ∷ []) xs y h) where
  at : Contains (x ∷ []) y ⊎ Contains xs y → (y ≡ x) ⊎ Contains xs y
  at (inl k) = inl (one-is x y k)
  at (inr k) = inr k

pub at-head : {X : Type 0} (x : X) (xs : List X) → Contains (x ∷ xs) x
at-head x xs = Contains-append_left (x ∷ []) xs x (Contains-push [] x)

pub at-tail : {X : Type 0} (x y : X) (xs : List X) → Contains xs y → Contains (x ∷ xs) y
at-tail x y xs h = Contains-append_right (x ∷ []) xs y h

pub mapped : {X Y : Type 0} (f : X → Y) (xs : List X) (y : Y) → Contains (map f xs) y → (x : X) × Contains xs x × (y ≡ f x)
mapped f [] y h = absurd (no-element y h)
mapped {X} f (x ∷ xs) y h = at (one-only (f x) y (map f xs) h) (mapped f xs y) where
  at : (y ≡ f x) ⊎ Contains (map f xs) y → (Contains (map f xs) y → (z : X) × Contains xs z × (y ≡ f z)) → (z : X) × Contains (x ∷ xs) z × (y ≡ f z)
  at (inl e) rest = (x, at-head x xs, e)
  at (inr k) rest = let r = rest k in (r.0, at-tail x r.0 xs r.1, r.2)

pub map-in : {X Y : Type 0} (f : X → Y) (xs : List X) (x : X) → Contains xs x → Contains (map f xs) (f x)
map-in f [] x h = absurd (no-element x h)
map-in {X} {Y} f (z ∷ xs) x h = at (one-only z x xs h) (map-in f xs x) where
  at : (x ≡ z) ⊎ Contains xs x → (Contains xs x → Contains (map f xs) (f x)) → Contains (map f (z ∷ xs)) (f x)
  at (inl e) rest = subst (λ y. Contains (map f (z ∷ xs)) (f y)) (sym e) (at-head (f z) (map f xs))
  at (inr k) rest = at-tail (f z) (f x) (map f xs) (rest k)

pub get-left : {X : Type 0} (xs ys : List X) (k : ℕ) (x : X) → slice_get xs k ≡ Some x → slice_get (xs ++ ys) k ≡ Some x
get-left [] ys k x h = absurd (no h) where
  no : None ≡ Some x → ⊥
  no e = cc
get-left (z ∷ xs) ys zero x h = h
get-left (z ∷ xs) ys (suc k) x h = get-left xs ys k x h

pub get-last : {X : Type 0} (xs : List X) (x : X) → slice_get (xs ++ x ∷ []) (length xs) ≡ Some x
get-last [] x = refl
get-last (z ∷ xs) x = get-last xs x

pub get-in : {X : Type 0} (xs : List X) (k : ℕ) (x : X) → slice_get xs k ≡ Some x → k < length xs
get-in [] k x h = absurd (no h) where
  no : None ≡ Some x → ⊥
  no e = cc
get-in (z ∷ xs) zero x h = omega arith
get-in (z ∷ xs) (suc k) x h = let r = get-in xs k x h in omega arith

pub get-contains : {X : Type 0} (xs : List X) (k : ℕ) (x : X) → slice_get xs k ≡ Some x → Contains xs x
get-contains [] k x h = absurd (no h) where
  no : None ≡ Some x → ⊥
  no e = cc
get-contains (z ∷ xs) zero x h = subst (λ y. Contains (z ∷ xs) y) (same h) (at-head z xs) where
  same : Some z ≡ Some x → z ≡ x
  same e = cc
get-contains (z ∷ xs) (suc k) x h = at-tail z x xs (get-contains xs k x h)
