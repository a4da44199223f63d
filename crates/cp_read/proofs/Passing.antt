-- A list of which nothing passes a test.
use Rattle.std.proofs.Common.{◌≡◌, ⊎_elim, Bool, true, false, not, ◌||◌, List, [], ◌∷◌, cond, refl, ap, subst}
use Rattle.std.specs.Prelude.{filter}
use Rattle.std.specs.List.{list_any}
use Rattle.std.proofs.lemmas.Bool.{cases_Bool}

neither : (a b : Bool) → (a || b) ≡ false → (a ≡ false) × (b ≡ false)
neither true b none = absurd (cc)
neither false b none = (refl, none)

pub none_passes : {A : Type 0} (p : A → Bool) (xs : List A) → list_any p xs ≡ false → (filter p xs ≡ []) × (xs ≡ filter (λ x. not (p x)) xs)
none_passes p [] none = (refl, refl)
none_passes p (x ∷ xs) none =
    let now = neither (p x) (list_any p xs) none in
    let rest = none_passes p xs now.1 in
    (rw now.0 rest.0, rw now.0 (ap (λ ys. x ∷ ys) rest.1))

pub passes_none : {A : Type 0} (p : A → Bool) (xs : List A) → filter p xs ≡ [] → list_any p xs ≡ false
passes_none p [] none = refl
passes_none p (x ∷ xs) none = ⊎_elim
    (λ (e : p x ≡ true). absurd (let kept : (x ∷ filter p xs) ≡ [] = subst (λ b. cond b (x ∷ filter p xs) (filter p xs) ≡ []) e none in cc))
    (λ (e : p x ≡ false). rw e (passes_none p xs (subst (λ b. cond b (x ∷ filter p xs) (filter p xs) ≡ []) e none)))
    (cases_Bool (p x))
