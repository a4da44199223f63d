-- The object of a word that is taken apart at its first @.
use Rattle.std.proofs.Common.{◌≡◌, ℕ, Bool, true, false, not, ◌==◌, List, [], ◌∷◌, ◌++◌, refl, ap, sym, subst, ◌∙◌}
use Rattle.std.specs.Prelude.{Option, Some, None}
use Rattle.std.specs.List.{list_all}
use Rattle.std.proofs.lemmas.Bool.{eqb-true, and_parts, not-true}
use Rattle.cp_base.specs.Names.{is_name_byte, name_fault}
use Rattle.cp_base.proofs.NameLemmas as names
use Rattle.cp_grammar.specs.Common.{is_none}
use Rattle.cp_call_words.specs.Values.{is_name}
use Rattle.cp_base.specs.Text.{Lacks}
use Rattle.cp_call_words.specs.Objects.{before_at, from_at, object_with, object_of, is_object}

-- nothing of a text without an @ stands from an @ on
all_before : (text : List ℕ) → Lacks 64 text → (before_at text ≡ text) × (from_at text ≡ [])
unfolding before_at from_at
all_before [] lacks = (refl, refl)
all_before (b ∷ text) lacks =
    let parts = and_parts (not (b == 64)) _ lacks in
    let other = not-true (b == 64) parts.0 in
    let rest = all_before text parts.1 in
    rw (other, rest.0, rest.1) (refl, refl)

front_before : (name group : List ℕ) → Lacks 64 name → (before_at (name ++ 64 ∷ group) ≡ name) × (from_at (name ++ 64 ∷ group) ≡ 64 ∷ group)
unfolding before_at from_at
front_before [] group lacks = (refl, refl)
front_before (b ∷ name) group lacks =
    let parts = and_parts (not (b == 64)) _ lacks in
    let other = not-true (b == 64) parts.0 in
    let rest = front_before name group parts.1 in
    rw (other, rest.0, rest.1) (refl, refl)

pub alone : (text : List ℕ) → Lacks 64 text → object_of text ≡ object_with text None
alone text lacks = let parts = all_before text lacks in rw (parts.0, parts.1) refl

-- no @ stands in a name
at_is_none : is_name_byte 64 ≡ true → ⊥
at_is_none e = cc

other_byte : (same : Bool) (b : ℕ) → (b == 64) ≡ same → is_name_byte b ≡ true → not (b == 64) ≡ true
other_byte false b is stands = rw is refl
other_byte true b is stands = absurd (at_is_none (subst (λ (x : ℕ). is_name_byte x ≡ true) (eqb-true b 64 is) stands))

lacks_at : (text : List ℕ) → list_all is_name_byte text ≡ true → Lacks 64 text
lacks_at [] all = refl
lacks_at (b ∷ text) all =
    let parts = and_parts (is_name_byte b) (list_all is_name_byte text) all in
    rw (other_byte (b == 64) b refl parts.0, lacks_at text parts.1) refl

nothing_in : (place : Option ℕ) → is_none place ≡ true → place ≡ None
nothing_in None e = refl
nothing_in (Some n) e = absurd cc

-- a name is an object without a group
pub named_alone : (managed : Bool) (text name : List ℕ) → is_name text ≡ true → name ≡ text → (is_object managed (object_of text) ≡ true) × (object_with name None ≡ object_of text)
named_alone managed text name is same =
    let alone_is = alone text (lacks_at text (names.is_name text (nothing_in (name_fault text) is)).alphabet) in
    (rw (alone_is, is) refl, ap (λ (x : List ℕ). object_with x None) same ∙ sym alone_is)

pub in_group : (text name group : List ℕ) → Lacks 64 name → text ≡ name ++ 64 ∷ group → object_of text ≡ object_with name (Some group)
in_group text name group lacks e = let parts = front_before name group lacks in rw (e, parts.0, parts.1) refl
