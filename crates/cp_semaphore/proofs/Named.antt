-- Sets of names.
use Rattle.std.proofs.Common.{◌≡◌, ℕ, Bool, true, false, ◌||◌, List, Option, refl, ap, sym, ◌∙◌}
use Rattle.std.specs.Prelude.{bytes_eq, is_some}
use Rattle.std.specs.BTreeMap.{is_at}
use Rattle.std.specs.Cmp.Lexicographic.{texts_ties}
use Rattle.cp_group_state.specs.Rows.{put, name_cmp}
use Rattle.cp_group_state.proofs.Keyed.{name_key, equal_is, find-put_same, find-put_other}
use Rattle.cp_semaphore.specs.Concerns.{has}

or_true : (b : Bool) → (b || true) ≡ true
or_true true = refl
or_true false = refl

or_false : (b : Bool) → (b || false) ≡ b
or_false true = refl
or_false false = refl

-- a set with one name more
pub has_put : (names : List (List ℕ × Unit {0})) (name other : List ℕ) → has (put name_cmp names name tt) other ≡ (has names other || bytes_eq other name)
has_put names name other = by (is_at (name_cmp other) name) refl
  where
    tied : bytes_eq other name ≡ is_at (name_cmp other) name
    tied = texts_ties other name

    by : (b : Bool) → is_at (name_cmp other) name ≡ b → has (put name_cmp names name tt) other ≡ (has names other || bytes_eq other name)
    by true e = ap (λ (q : List ℕ). has (put name_cmp names name tt) q) (name_key.same other name (equal_is (name_cmp other name) e))
        ∙ ap (λ (o : Option (Unit {0})). is_some o) (find-put_same name_cmp name_key names name tt)
        ∙ sym (ap (λ (b : Bool). has names other || b) (tied ∙ e) ∙ or_true (has names other))
    by false e = ap (λ (o : Option (Unit {0})). is_some o) (find-put_other name_cmp name_key names name other tt e)
        ∙ sym (ap (λ (b : Bool). has names other || b) (tied ∙ e) ∙ or_false (has names other))
