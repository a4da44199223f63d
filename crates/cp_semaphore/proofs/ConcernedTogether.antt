-- Searches of lists, a part at a time.
use Rattle.std.proofs.Common.{◌≡◌, ℕ, Bool, true, false, ◌||◌, ◌&&◌, List, [], ◌∷◌, refl, ap, sym, ◌∙◌}
use Rattle.std.specs.Prelude.{bytes_eq}
use Rattle.std.specs.List.{list_any}
use Rattle.std.specs.BTreeMap.{BTreeMap}
use Rattle.std.proofs.lemmas.List.Folds.{list_any-append}
use Rattle.cp_group_state.specs.Sessions.{is_among}
use Rattle.cp_semaphore.specs.Nested.{Nested, flat, under}
use Rattle.cp_semaphore.specs.Concerns.{has, held_named}

spread : (a b r : Bool) → ((a && b) || (a && r)) ≡ (a && (b || r))
spread true b r = refl
spread false b r = refl

and_false : (a : Bool) → (a && false) ≡ false
and_false true = refl
and_false false = refl

-- of what one session holds, under a name
under_any : (sessions : List ℕ) (session : ℕ) (name : List ℕ) (rows : List (List ℕ × ℕ))
    → list_any (λ (e : (ℕ × List ℕ) × ℕ). is_among sessions e.0.0 && bytes_eq name e.0.1) (under session rows) ≡ (is_among sessions session && list_any (λ (e : List ℕ × ℕ). bytes_eq name e.0) rows)
under_any sessions session name [] = sym (and_false (is_among sessions session))
under_any sessions session name (e ∷ es) = ap (λ (b : Bool). (is_among sessions session && bytes_eq name e.0) || b) (under_any sessions session name es)
    ∙ spread (is_among sessions session) (bytes_eq name e.0) (list_any (λ (e : List ℕ × ℕ). bytes_eq name e.0) es)

-- of what a session and those behind it hold
held_here : (sessions : List ℕ) (name : List ℕ) (e : ℕ × BTreeMap (List ℕ) ℕ) (es : Nested)
    → held_named sessions (flat (e ∷ es)) name ≡ ((is_among sessions e.0 && list_any (λ (f : List ℕ × ℕ). bytes_eq name f.0) e.1.entries) || held_named sessions (flat es) name)
held_here sessions name e es = list_any-append (λ (f : (ℕ × List ℕ) × ℕ). is_among sessions f.0.0 && bytes_eq name f.0.1) (under e.0 e.1.entries) (flat es)
    ∙ ap (λ (b : Bool). b || held_named sessions (flat es) name) (under_any sessions e.0 name e.1.entries)

passed : (n a r f : Bool) → a ≡ false → (n || f) ≡ (n || ((a && r) || f))
passed n true r f e = cc
passed n false r f e = refl

moved : (n a r f : Bool) → a ≡ true → ((n || r) || f) ≡ (n || ((a && r) || f))
moved true true r f e = refl
moved false true r f e = refl
moved n false r f e = cc

-- a session that isn't one of these
pub not_held : (names : List (List ℕ × Unit {0})) (sessions name : List ℕ) (e : ℕ × BTreeMap (List ℕ) ℕ) (es : Nested) → is_among sessions e.0 ≡ false
    → (has names name || held_named sessions (flat es) name) ≡ (has names name || held_named sessions (flat (e ∷ es)) name)
not_held names sessions name e es apart = passed (has names name) (is_among sessions e.0) (list_any (λ (f : List ℕ × ℕ). bytes_eq name f.0) e.1.entries) (held_named sessions (flat es) name) apart
    ∙ ap (λ (b : Bool). has names name || b) (sym (held_here sessions name e es))

-- one that is, whose names went into the set
pub held_more : (names next : List (List ℕ × Unit {0})) (sessions name : List ℕ) (e : ℕ × BTreeMap (List ℕ) ℕ) (es : Nested) → is_among sessions e.0 ≡ true
    → has next name ≡ (has names name || list_any (λ (f : List ℕ × ℕ). bytes_eq name f.0) e.1.entries)
    → (has next name || held_named sessions (flat es) name) ≡ (has names name || held_named sessions (flat (e ∷ es)) name)
held_more names next sessions name e es there told = ap (λ (b : Bool). b || held_named sessions (flat es) name) told
    ∙ moved (has names name) (is_among sessions e.0) (list_any (λ (f : List ℕ × ℕ). bytes_eq name f.0) e.1.entries) (held_named sessions (flat es) name) there
    ∙ ap (λ (b : Bool). has names name || b) (sym (held_here sessions name e es))
