-- Bytes with no fault are a name.
use Rattle.std.proofs.Common.{◌≡◌, ◌<◌, ◌≤◌, ℕ, Bool, true, false, ◌&&◌, not, [], ◌∷◌, List, length, Option, Some, None, position, refl, sym, ◌∙◌, arith}
use Rattle.std.specs.List.{list_all, position_or_len}
use Rattle.std.proofs.lemmas.Bool.Decides.{nat_tests}
use Rattle.cp_base.specs.Names.{IsName, is_name_byte, name_fault, fault_at, length_fault}
use Rattle.cp_base.proofs.Splits.{none_fails}
use Rattle.cp_base.specs.declared.limits.TheConstants.{MOST_NAME}

-- no place that a byte is at fault, and no fault of the length
no_fault : (place : Option ℕ) (bytes : List ℕ) → fault_at place bytes ≡ None → (place ≡ None) × (length_fault bytes ≡ None)
no_fault None bytes none = (refl, none)
no_fault (Some place) bytes none = absurd cc

good_length : (bytes : List ℕ) → length_fault bytes ≡ None → (0 < length bytes) × (length bytes ≤ MOST_NAME)
good_length bytes none = grind (arith, nat_tests)

pub is_name : (bytes : List ℕ) → name_fault bytes ≡ None → IsName bytes
is_name bytes none =
    let parts = no_fault (position (λ b. not (is_name_byte b)) bytes) bytes none in
    let long = good_length bytes parts.1 in
    record { some = long.0; few = long.1; alphabet = none_fails is_name_byte bytes parts.0 }

both : (a b : Bool) → a && b ≡ true → (a ≡ true) × (b ≡ true)
both true true h = (refl, refl)
both true false h = absurd cc
both false b h = absurd cc

-- where all pass, none fails
fails_nowhere : {X : Type 0} (p : X → Bool) (xs : List X) → list_all p xs ≡ true → position_or_len (λ x. not (p x)) xs ≡ length xs
fails_nowhere p [] h = refl
fails_nowhere p (x ∷ xs) h = let t = both (p x) (list_all p xs) h in rw (t.0, fails_nowhere p xs t.1) (omega arith)

-- bytes with a fault are no name
pub no_name : (bytes : List ℕ) (place : ℕ) → name_fault bytes ≡ Some place → IsName bytes → ⊥
no_name bytes place fault is =
    let at = fails_nowhere is_name_byte bytes is.alphabet in
    let none : position (λ b. not (is_name_byte b)) bytes ≡ None = rw at (grind (arith, nat_tests)) in
    let good : length_fault bytes ≡ None = grind (arith, nat_tests, is.some, is.few) in
    let e : name_fault bytes ≡ None = rw none good in
    cc (sym fault ∙ e)
