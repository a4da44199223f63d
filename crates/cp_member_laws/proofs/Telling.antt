-- Lists of letters that refuse nobody of a key.
use Rattle.std.proofs.Common.{◌≡◌, Bool, true, false, List, [], ◌∷◌, ◌++◌, map, refl, if◌then◌else◌}
use Rattle.std.specs.Prelude.{◌||◌, flat_map}
use Rattle.std.specs.List.{list_any}

pub no_true : true ≡ false → ⊥
no_true e = cc

module _ {A : Type 0} (test : A → Bool) where
  abbrev pub Clear : List A → Type 0
  Clear xs = list_any test xs ≡ false

  pub clear_cons : (x : A) (xs : List A) → test x ≡ false → Clear xs → Clear (x ∷ xs)
  clear_cons x xs h rest = rw h rest

  pub clear_append : (xs ys : List A) → Clear xs → Clear ys → Clear (xs ++ ys)
  clear_append [] ys first rest = rest
  clear_append (x ∷ xs) ys first rest = by (λ h. clear_append xs ys h rest) (test x) refl first where
    by : (Clear xs → Clear (xs ++ ys)) → (b : Bool) → test x ≡ b → (b || list_any test xs) ≡ false → Clear (x ∷ xs ++ ys)
    by later true e h = absurd (no_true h)
    by later false e h = clear_cons x (xs ++ ys) e (later h)

  pub clear_map : {B : Type 0} (f : B → A) (ys : List B) → ((y : B) → test (f y) ≡ false) → Clear (map f ys)
  clear_map f [] h = refl
  clear_map f (y ∷ ys) h = clear_cons (f y) (map f ys) (h y) (clear_map f ys h)

  pub clear_flat : {B : Type 0} (f : B → List A) (ys : List B) → ((y : B) → Clear (f y)) → Clear (flat_map f ys)
  clear_flat f [] h = refl
  clear_flat f (y ∷ ys) h = clear_append (f y) (flat_map f ys) (h y) (clear_flat f ys h)

  pub clear_if : (b : Bool) (xs ys : List A) → Clear xs → Clear ys → Clear (if b then xs else ys)
  clear_if true xs ys h k = h
  clear_if false xs ys h k = k
