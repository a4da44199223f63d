-- Locks that are freed or given on have their rows.
use Rattle.std.proofs.Common.{◌≡◌, ℕ, Bool, true, false, List, [], ◌∷◌, Some, refl, sym, ◌∙◌, subst, ap, cond, map}
use Rattle.std.specs.Prelude.{IsSome, is_some}
use Rattle.std.specs.BTreeMap.{is_at}
use Rattle.std.specs.List.{filter}
use Rattle.std.proofs.lemmas.List.Elements.{All-nil, All-cons, All-weaker}
use Rattle.cp_group_state.specs.declared.rows.LockRow.{LockRow}
use Rattle.cp_group_state.specs.Rows.{Named, find, put, name_cmp}
use Rattle.cp_group_state.specs.Locks.{is_held_among, held_among, freed, freed_all}
use Rattle.cp_group_state.proofs.Keyed.{name_key, find-put_same, find-put_other, equal_is}
use Rattle.cp_lock.specs.Tables.{AreThere}

later : (e : List ℕ × LockRow) (es : Named LockRow) (name : List ℕ) → IsSome (find name_cmp es name) → IsSome (find name_cmp (e ∷ es) name)
later e es name h = by (is_at (name_cmp name) e.0) where
  by : (b : Bool) → IsSome (cond b (Some e.1) (find name_cmp es name))
  by true = refl
  by false = h

first_there : (e : List ℕ × LockRow) (es : Named LockRow) → IsSome (find name_cmp (e ∷ es) e.0)
first_there e es = rw (name_key.here e.0) refl

pub held_there : (sessions : List ℕ) (rows : Named LockRow) → AreThere (held_among sessions rows) (freed_all sessions rows)
held_there sessions [] = All-nil (λ name. IsSome (find name_cmp (freed_all sessions []) name))
held_there sessions (e ∷ es) = by (rest_there (held_there sessions es)) (is_held_among sessions e.1) where
  rest_there : AreThere (held_among sessions es) (freed_all sessions es) → AreThere (held_among sessions es) (freed_all sessions (e ∷ es))
  rest_there h = All-weaker (λ name. IsSome (find name_cmp (freed_all sessions es) name)) (λ name. IsSome (find name_cmp (freed_all sessions (e ∷ es)) name))
      (later (e.0, freed sessions e.1) (freed_all sessions es)) (held_among sessions es) h

  by : AreThere (held_among sessions es) (freed_all sessions (e ∷ es)) → (b : Bool) → AreThere (map (λ x. x.0) (cond b (e ∷ filter (λ x. is_held_among sessions x.1) es) (filter (λ x. is_held_among sessions x.1) es))) (freed_all sessions (e ∷ es))
  by h true = All-cons (λ name. IsSome (find name_cmp (freed_all sessions (e ∷ es)) name)) e.0 (held_among sessions es) (first_there (e.0, freed sessions e.1) (freed_all sessions es)) h
  by h false = h

-- a put takes no row away
pub put_keeps : (rows : Named LockRow) (name : List ℕ) (row : LockRow) (other : List ℕ) → IsSome (find name_cmp rows other) → IsSome (find name_cmp (put name_cmp rows name row) other)
put_keeps rows name row other h = by (is_at (name_cmp other) name) refl where
  by : (b : Bool) → is_at (name_cmp other) name ≡ b → IsSome (find name_cmp (put name_cmp rows name row) other)
  by true e = let same : other ≡ name = name_key.same other name (equal_is _ e) in
      subst (λ q. IsSome (find name_cmp (put name_cmp rows name row) q)) (sym same) (ap is_some (find-put_same name_cmp name_key rows name row))
  by false e = ap is_some (find-put_other name_cmp name_key rows name other row e) ∙ h

pub put_there : (rows : Named LockRow) (name : List ℕ) (row : LockRow) → IsSome (find name_cmp (put name_cmp rows name row) name)
put_there rows name row = ap is_some (find-put_same name_cmp name_key rows name row)
